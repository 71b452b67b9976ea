-- What one call of a cursor finds, by the first frame that is not skipped.
use Rattle.std.proofs.Common.{◌≡◌, ℕ, ◌+◌, ◌-◌, ◌<◌, ◌≤◌, Bool, false, List, [], ◌∷◌, length, drop, refl, sym, ap, subst, ◌∙◌, arith, Option, Some, None, Ok, Err, inl, inr, length-drop}
use Rattle.std.proofs.lemmas.Bool.{le-ltb, lt-ltb, ne_eqb}
use Rattle.wtp_core.specs.declared.error.ErrorCode.{ErrorCode}
use Rattle.wtp_core.specs.declared.error.ErrorCode.TheVariants as code
use Rattle.wtp_wire.specs.Content.{Content, kind_in, payload_in, IsProper}
use Rattle.wtp_wire.specs.Front.{Front, Framed, Short, front}
use Rattle.wtp_wire.specs.Held.{front_held}
use Rattle.wtp_wire.proofs.FrontLemmas.{front-empty, end_is_drop}
use Rattle.wtp_wire.proofs.FramePollLemmas.{front_none, front_due, skip_empty}
use Rattle.wtransport_proto.specs.CutFrame.{due_in}
use Rattle.wtransport_proto.specs.FrameCursor.{held_by, run_from, known_from, frame_at, Continues, IsFault, IsPlaceOf, TakesFrame, WantsMore}
use Rattle.wtransport_proto.specs.HeldRun.{stop_of}
use Rattle.wtransport_proto.specs.Reading.{AnswersKnown}
use Rattle.wtp_wire.specs.Role.{role_of}
use Rattle.wtp_wire.specs.Rule.{Role, rule}
use Rattle.wtp_wire.specs.Run.{Ended, Ending, H3, ImmediateFin, ends, follows, skip_unknown}
use Rattle.wtransport_proto.specs.declared.stream.cursor.FrameCursor.{FrameCursor}
use Rattle.wtransport_proto.specs.declared.stream.cursor.FrameSpan.{FrameSpan}
use Rattle.wtransport_proto.proofs.CutFrameLemmas.{few_left}
use Rattle.wtransport_proto.proofs.CursorLemmas.{known_rest, at_place, place_fits, continues_framed, continues_due, continues_cut, continues_left}
use Rattle.wtransport_proto.proofs.HeldRunLemmas.{run_case}
use Rattle.wtp_wire.proofs.RunLemmas.{skip_unknown-empty}

-- ---- what was read after the bytes that are due

pub framed_of : (c : FrameCursor) (bytes start rest : List ℕ) (o : Option Content) (f : Content) → start ≡ drop c.skip_remaining bytes → o ≡ Some f → AnswersKnown (front (skip_unknown start)) (Ok o) rest → front (known_from c bytes) ≡ Framed f rest
framed_of c bytes start rest o f e is h = rw (← e) (rw is at h)

pub short_of : (c : FrameCursor) (bytes start rest : List ℕ) (o : Option Content) → start ≡ drop c.skip_remaining bytes → o ≡ None → AnswersKnown (front (skip_unknown start)) (Ok o) rest → front (known_from c bytes) ≡ Short
short_of c bytes start rest o e is h = rw (← e) (rw is at h)

pub left_of : (c : FrameCursor) (bytes start rest : List ℕ) → start ≡ drop c.skip_remaining bytes → rest ≡ skip_unknown start → rest ≡ known_from c bytes
left_of c bytes start rest e h = h ∙ ap skip_unknown e

-- ---- nothing is left

drop_all : (n : ℕ) (bytes : List ℕ) → length bytes ≤ n → drop n bytes ≡ []
drop_all n bytes l = empty (drop n bytes) (omega (arith, l, length-drop n bytes))
  where
    empty : (s : List ℕ) → length s ≡ 0 → s ≡ []
    empty [] z = refl
    empty (b ∷ s) z = absurd (omega arith)

nothing_known : (c : FrameCursor) (bytes : List ℕ) → length bytes ≤ c.skip_remaining → front (known_from c bytes) ≡ Short
nothing_known c bytes l = rw (drop_all c.skip_remaining bytes l, skip_unknown-empty) front-empty

none_left : (n : ℕ) (bytes : List ℕ) → n ≡ length bytes → drop n bytes ≡ []
none_left n bytes e = drop_all n bytes (omega (arith, e))

still_due : (new : FrameCursor) (n : ℕ) (bytes : List ℕ) → n ≡ length bytes → 0 < new.skip_remaining → front_held (held_by new) (drop n bytes) ≡ Short
still_due new n bytes e l = rw (none_left n bytes e) (front_due [] new.skip_remaining [] l ∙ skip_empty new.skip_remaining l)

few_none : (n : ℕ) (bytes : List ℕ) → n ≡ length bytes → length (drop n bytes) ≤ 4111
few_none n bytes e = omega (arith, e, length-drop n bytes)

-- ---- more bytes

-- fewer bytes than are due
pub wants_due : (n : ℕ) (old : FrameCursor) (bytes : List ℕ) → n ≡ length bytes → length bytes < old.skip_remaining → WantsMore n old bytes (record old { skip_remaining = old.skip_remaining - length bytes })
wants_due n old bytes e l = record {
  within = omega (arith, e);
  short = nothing_known old bytes (omega (arith, l));
  cursor = rw (lt-ltb (length bytes) old.skip_remaining l) refl;
  left = λ z. absurd (omega (arith, z, l));
  skipped = λ s. e;
  few = few_none n bytes e;
  still = still_due (record old { skip_remaining = old.skip_remaining - length bytes }) n bytes e (omega (arith, l));
}

pub goes_due : (n : ℕ) (old : FrameCursor) (bytes : List ℕ) → n ≡ length bytes → length bytes < old.skip_remaining → Continues old bytes (record old { skip_remaining = old.skip_remaining - length bytes }) (drop n bytes) (λ r. r)
goes_due n old bytes e l = rw (none_left n bytes e) (continues_due old bytes l)

-- the bytes cut an unknown frame
pub wants_cut : (n d : ℕ) (old : FrameCursor) (bytes : List ℕ) → n ≡ length bytes → old.skip_remaining ≤ length bytes → front (known_from old bytes) ≡ Short → d ≡ due_in (known_from old bytes) → 0 < d → WantsMore n old bytes (record old { skip_remaining = d })
wants_cut n d old bytes e l s is some = record {
  within = omega (arith, e);
  short = s;
  cursor = rw (le-ltb (length bytes) old.skip_remaining l) (ap (λ (k : ℕ). record old { skip_remaining = k }) is);
  left = λ z. absurd (omega (arith, z, some));
  skipped = λ _. e;
  few = few_none n bytes e;
  still = still_due (record old { skip_remaining = d }) n bytes e some;
}

pub goes_cut : (n d : ℕ) (old : FrameCursor) (bytes : List ℕ) → n ≡ length bytes → old.skip_remaining ≤ length bytes → d ≡ due_in (known_from old bytes) → 0 < d → Continues old bytes (record old { skip_remaining = d }) (drop n bytes) (λ r. r)
goes_cut n d old bytes e l is some = rw (none_left n bytes e) (continues_cut old bytes d l is some)

-- too few bytes of another frame are left
known_left : (n : ℕ) (old : FrameCursor) (bytes : List ℕ) → n ≡ length bytes - length (known_from old bytes) → (n ≤ length bytes) × (drop n bytes ≡ known_from old bytes)
known_left n old bytes e =
    let r = known_rest old bytes in
    (omega (arith, e), ap (λ (k : ℕ). drop k bytes) e ∙ (end_is_drop bytes r.taken (known_from old bytes) r.parts).1)

pub wants_left : (n d : ℕ) (old : FrameCursor) (bytes : List ℕ) → n ≡ length bytes - length (known_from old bytes) → old.skip_remaining ≤ length bytes → front (known_from old bytes) ≡ Short → d ≡ due_in (known_from old bytes) → d ≡ 0 → WantsMore n old bytes (record old { skip_remaining = d })
wants_left n d old bytes e l s is z =
    let (within, left) = known_left n old bytes e in
    record {
      within = within;
      short = s;
      cursor = rw (le-ltb (length bytes) old.skip_remaining l) (ap (λ (k : ℕ). record old { skip_remaining = k }) is);
      left = λ _. left;
      skipped = λ some. absurd (omega (arith, z, some));
      few = rw left (few_left (known_from old bytes) s (sym is ∙ z));
      still = rw left (front_none [] d (known_from old bytes) z ∙ s);
    }

pub goes_left : (n d : ℕ) (old : FrameCursor) (bytes : List ℕ) → n ≡ length bytes - length (known_from old bytes) → old.skip_remaining ≤ length bytes → d ≡ 0 → Continues old bytes (record old { skip_remaining = d }) (drop n bytes) (λ r. r)
goes_left n d old bytes e l z = let (within, left) = known_left n old bytes e in rw left (continues_left old bytes d l z)

-- ---- a frame

pub takes_frame : (p : FrameSpan) (f : Content) (old : FrameCursor) (bytes rest : List ℕ) (end : ℕ) → old.skip_remaining ≤ length bytes → front (known_from old bytes) ≡ Framed f rest → end ≡ length bytes - length rest → IsPlaceOf p f end → IsProper p.kind (payload_in f) p.session_id → rule (role_of old.role) old.first (kind_in f) ≡ None → TakesFrame p old bytes (record old { first = false; skip_remaining = 0 })
takes_frame p f old bytes rest end l e is h proper allowed =
    let a = at_place p f bytes (known_from old bytes) rest (known_rest old bytes) e (rw (← is) h) in
    record {
      within = a.within;
      found = rw (a.frame, a.left) e;
      proper = rw a.payload proper;
      allowed = rw h.kind allowed;
      cursor = refl;
    }

pub goes_frame : (p : FrameSpan) (f : Content) (old : FrameCursor) (bytes rest : List ℕ) (end : ℕ) → old.skip_remaining ≤ length bytes → front (known_from old bytes) ≡ Framed f rest → end ≡ length bytes - length rest → IsPlaceOf p f end → rule (role_of old.role) old.first (kind_in f) ≡ None → Continues old bytes (record old { first = false; skip_remaining = 0 }) (drop p.end bytes) (λ r. follows (frame_at p bytes) r)
goes_frame p f old bytes rest end l e is h allowed =
    let a = at_place p f bytes (known_from old bytes) rest (known_rest old bytes) e (rw (← is) h) in
    rw (a.frame, a.left) (continues_framed old bytes rest f l e allowed)

pub fits : (f : Content) (old : FrameCursor) (bytes rest : List ℕ) → front (known_from old bytes) ≡ Framed f rest → (length rest ≤ length bytes) × (length (payload_in f) ≤ length bytes - length rest)
fits f old bytes rest e = place_fits f bytes (known_from old bytes) rest (known_rest old bytes) e

-- ---- a fault

pub fault_refused : (role : Role) (first : Bool) (x : Front) (f : Content) (rest : List ℕ) (c : ErrorCode) → x ≡ Framed f rest → rule role first (kind_in f) ≡ Some c → IsFault role first x c
fault_refused role first x f rest c e refused = rw e refused

known_fault : (role : Role) (first : Bool) (x : Front) (rest : List ℕ) (c : ErrorCode) → AnswersKnown x (Err c) rest → IsFault role first x c
known_fault role first x rest c (inl (is, e)) = rw e is
known_fault role first x rest c (inr (is, e)) = rw e is

pub fault_of : (old : FrameCursor) (bytes start rest : List ℕ) (c : ErrorCode) → start ≡ drop old.skip_remaining bytes → AnswersKnown (front (skip_unknown start)) (Err c) rest → IsFault (role_of old.role) old.first (front (known_from old bytes)) c
fault_of old bytes start rest c e h = known_fault (role_of old.role) old.first (front (known_from old bytes)) rest c (subst (λ (x : List ℕ). AnswersKnown (front (skip_unknown x)) (Err c) rest) e h)

-- ---- the end of the stream

end_run : (c : FrameCursor) (rest : List ℕ) → front_held (held_by c) rest ≡ Short → run_from c rest Ended ≡ ends (stop_of (c.skip_remaining + length rest) Ended)
end_run c rest e = run_case (role_of c.role) c.first (held_by c) rest Ended Short e

pub end_clean : (c : FrameCursor) (rest : List ℕ) → c.skip_remaining ≤ 0 → length rest ≤ 0 → front_held (held_by c) rest ≡ Short → run_from c rest Ended ≡ ends ImmediateFin
end_clean c rest z n e = let none : c.skip_remaining + length rest ≡ 0 = omega (arith, z, n) in end_run c rest e ∙ ap (λ (k : ℕ). ends (stop_of k Ended)) none

end_some : (c : FrameCursor) (rest : List ℕ) → 0 < c.skip_remaining + length rest → front_held (held_by c) rest ≡ Short → run_from c rest Ended ≡ ends (H3 code.Frame)
end_some c rest some e = end_run c rest e ∙ ap (λ (x : Ending). ends x) (rw (ne_eqb (c.skip_remaining + length rest) 0 (λ z. omega (arith, z, some))) refl)

pub end_due : (c : FrameCursor) (rest : List ℕ) → 0 < c.skip_remaining → front_held (held_by c) rest ≡ Short → run_from c rest Ended ≡ ends (H3 code.Frame)
end_due c rest l e = end_some c rest (omega (arith, l)) e

pub end_left : (c : FrameCursor) (rest : List ℕ) → 0 < length rest → front_held (held_by c) rest ≡ Short → run_from c rest Ended ≡ ends (H3 code.Frame)
end_left c rest l e = end_some c rest (omega (arith, l)) e

pub ruleset endings = (end_clean, end_due, end_left)
