-- The place where a run ends stays the same from poll to poll.
use Rattle.std.proofs.Common.{◌≡◌, ℕ, ◌+◌, ◌<◌, Bool, false, List, [], ◌++◌, length, refl, sym, ap, ◌∙◌, arith, append_assoc, length-append, Option, Some, None, inl, inr}
use Rattle.std.proofs.lemmas.Bool.{cases_lt}
use Rattle.wtp_core.specs.declared.error.ErrorCode.{ErrorCode}
use Rattle.wtp_core.specs.Source.{Source}
use Rattle.wtp_wire.specs.Content.{Content, kind_in}
use Rattle.wtp_wire.specs.Front.{Front, Framed, Unknown, BadId, TooBig, Short, front}
use Rattle.wtp_wire.specs.Held.{Held, new_held, front_held, IsUnfinished, Skips, Leaves}
use Rattle.wtp_wire.proofs.FramePollLemmas.{front_none}
use Rattle.wtransport_proto.specs.declared.stream.error.IoReadError.{IoReadError}
use Rattle.wtp_wire.specs.Rule.{Role, rule}
use Rattle.wtp_wire.specs.Run.{Run, skip_unknown, follows}
use Rattle.wtransport_proto.specs.HeldRun.{tail_of, run_of}
use Rattle.wtransport_proto.specs.StreamPolling.{Faults, StreamTakesFrame, SkipsUnknown, SourceIsAfter}
use Rattle.wtransport_proto.specs.Place.{Place, if_allowed, remainder, place_after, place_by, place_held, place_of, BeginsUnknown, SkipAdvances, NothingLost, SamePlace, LeftByFault, AtFault}
use Rattle.wtp_wire.proofs.RunLemmas.{skip_unknown-framed, skip_unknown-bad, skip_unknown-big, skip_unknown-short}
use Rattle.wtransport_proto.proofs.RemainderLemmas.{after-unknown, after-known}
use Rattle.wtransport_proto.proofs.HeldRunLemmas.{run_framed}

-- ---- places by the first frame

pub place_case : (role : Role) (first : Bool) (h : Held) (xs : List ℕ) (c : Front) → front_held h xs ≡ c → place_held role first h xs ≡ place_by role first h xs c
unfolding place_held
place_case role first h xs c e = rw e refl

here_allowed : (o : Option ErrorCode) (first : Bool) (onward : Place) (bytes : List ℕ) → skip_unknown bytes ≡ bytes → if_allowed o onward (record { first = first; held = new_held; ahead = bytes }) ≡ if_allowed o onward (record { first = first; held = new_held; ahead = skip_unknown bytes })
here_allowed None first onward bytes e = refl
here_allowed (Some c) first onward bytes e = ap (λ (l : List ℕ). record { first = first; held = new_held; ahead = l }) (sym e)

-- what a place is after a choice
after_choice : (o : Option ErrorCode) (first : Bool) (role : Role) (rest bytes : List ℕ) → place_after (if_allowed o (remainder role false rest) (record { first = first; bytes = bytes })) ≡ if_allowed o (place_after (remainder role false rest)) (record { first = first; held = new_held; ahead = skip_unknown bytes })
after_choice None first role rest bytes = refl
after_choice (Some c) first role rest bytes = refl

here_same : (first : Bool) (bytes : List ℕ) → skip_unknown bytes ≡ bytes → record { first = first; held = new_held; ahead = bytes } ≡ place_after (record { first = first; bytes = bytes })
here_same first bytes e = ap (λ (l : List ℕ). record { first = first; held = new_held; ahead = l }) (sym e)

by_new : (role : Role) (first : Bool) (bytes : List ℕ) (c : Front) → front bytes ≡ c → place_by role first new_held bytes c ≡ place_after (remainder role first bytes)
by_new role first bytes (Framed f rest) e =
    let known : skip_unknown bytes ≡ bytes = skip_unknown-framed bytes rest f e in
    here_allowed (rule role first (kind_in f)) first (place_after (remainder role false rest)) bytes known
    ∙ sym (after-known role first bytes (Framed f rest) known e ∙ after_choice (rule role first (kind_in f)) first role rest bytes)
by_new role first bytes (Unknown rest) e = sym (after-unknown role first bytes rest e)
by_new role first bytes (BadId rest) e = let known : skip_unknown bytes ≡ bytes = skip_unknown-bad bytes rest e in here_same first bytes known ∙ sym (after-known role first bytes (BadId rest) known e)
by_new role first bytes (TooBig rest) e = let known : skip_unknown bytes ≡ bytes = skip_unknown-big bytes rest e in here_same first bytes known ∙ sym (after-known role first bytes (TooBig rest) known e)
by_new role first bytes Short e = let known : skip_unknown bytes ≡ bytes = skip_unknown-short bytes e in here_same first bytes known ∙ sym (after-known role first bytes Short known e)

-- if nothing is held it is the place after the frames of the bytes
pub place_new : (role : Role) (first : Bool) (bytes : List ℕ) → place_held role first new_held bytes ≡ place_after (remainder role first bytes)
place_new role first bytes =
    place_case role first new_held bytes (front bytes) (front_none [] 0 bytes refl)
    ∙ by_new role first bytes (front bytes) refl

pub place-allowed : (role : Role) (first : Bool) (h : Held) (xs rest : List ℕ) (f : Content) → front_held h xs ≡ Framed f rest → rule role first (kind_in f) ≡ None → place_held role first h xs ≡ place_held role false new_held rest
place-allowed role first h xs rest f e allowed =
    place_case role first h xs (Framed f rest) e
    ∙ ap (λ (o : Option ErrorCode). if_allowed o (place_after (remainder role false rest)) (record { first = first; held = h; ahead = xs })) allowed
    ∙ sym (place_new role false rest)

pub place-unknown : (role : Role) (first : Bool) (h : Held) (xs rest : List ℕ) → front_held h xs ≡ Unknown rest → place_held role first h xs ≡ place_held role first new_held rest
place-unknown role first h xs rest e = place_case role first h xs (Unknown rest) e ∙ sym (place_new role first rest)

pub place-refused : (role : Role) (first : Bool) (h : Held) (xs rest : List ℕ) (f : Content) (code : ErrorCode) → front_held h xs ≡ Framed f rest → rule role first (kind_in f) ≡ Some code → place_held role first h xs ≡ record { first = first; held = h; ahead = xs }
place-refused role first h xs rest f code e refused =
    place_case role first h xs (Framed f rest) e
    ∙ ap (λ (o : Option ErrorCode). if_allowed o (place_after (remainder role false rest)) (record { first = first; held = h; ahead = xs })) refused

-- ---- nothing is lost

pub remains_same : (h : Held) (xs : List ℕ) → NothingLost h h xs xs
remains_same h xs = record {
  same = refl;
  kept = λ z. (z, refl);
  begun = λ z l. absurd (omega arith);
  going = λ l. (refl, record { payload = []; parts = refl; counts = omega arith });
}

comes_then : (d m n : ℕ) (xs ys zs : List ℕ) → SkipAdvances d xs m ys → SkipAdvances m ys n zs → SkipAdvances d xs n zs
comes_then d m n xs ys zs p q = record {
  payload = p.payload ++ q.payload;
  parts = p.parts ∙ ap (λ l. p.payload ++ l) q.parts ∙ sym (append_assoc p.payload q.payload zs);
  counts = omega (arith, p.counts, q.counts, length-append p.payload q.payload);
}

begins_then : (whole ys zs : List ℕ) (m n : ℕ) → BeginsUnknown whole m ys → SkipAdvances m ys n zs → BeginsUnknown whole n zs
begins_then whole ys zs m n p q = record {
  head = p.head;
  payload = p.payload ++ q.payload;
  parts = p.parts ∙ ap (λ l. (p.head ++ p.payload) ++ l) q.parts ∙ sym (append_assoc (p.head ++ p.payload) q.payload zs) ∙ ap (λ l. l ++ zs) (append_assoc p.head p.payload q.payload);
  is_head = let n : length p.payload + m ≡ length (p.payload ++ q.payload) + n = omega (arith, q.counts, length-append p.payload q.payload) in rw n at p.is_head;
}

pub remains_then : (old mid new : Held) (xs ys zs : List ℕ) → NothingLost old mid xs ys → NothingLost mid new ys zs → NothingLost old new xs zs
remains_then old mid new xs ys zs p q = record {
  same = q.same ∙ p.same;
  kept = λ z. let m = q.kept z in let o = p.kept m.0 in (o.0, m.1 ∙ o.1);
  begun = λ z l. elim (cases_lt 0 mid.skip_remaining) [
    | inl some ↦ let b = p.begun z some in let g = q.going some in (g.0 ∙ b.0, begins_then (old.taken ++ xs) ys zs mid.skip_remaining new.skip_remaining b.1 g.1)
    | inr none ↦ let m : mid.skip_remaining ≡ 0 = omega arith in let k = p.kept m in let b = q.begun m l in (b.0, rw k.1 at b.1)
  ];
  going = λ l. elim (cases_lt 0 mid.skip_remaining) [
    | inl some ↦ let g = p.going l in let h = q.going some in (h.0 ∙ g.0, comes_then old.skip_remaining mid.skip_remaining new.skip_remaining xs ys zs g.1 h.1)
    | inr none ↦ let m : mid.skip_remaining ≡ 0 = omega arith in let k = p.kept m in let z = k.0 in absurd (omega arith)
  ];
}

-- ---- polls

skips_begun : (old new : Held) (a b : Source) → Skips old new a b → old.skip_remaining ≡ 0 → (new.taken ≡ []) × BeginsUnknown (old.taken ++ a.ahead) new.skip_remaining b.ahead
skips_begun old new a b s z = (s.empty, record { head = s.head; payload = s.payload; parts = s.parts; is_head = s.begun z })

skips_going : (old new : Held) (a b : Source) → IsUnfinished old → Skips old new a b → 0 < old.skip_remaining → (new.taken ≡ old.taken) × SkipAdvances old.skip_remaining a.ahead new.skip_remaining b.ahead
skips_going old new a b u s l =
    let none : old.taken ≡ [] = u.alone l in
    let g = s.going l in (
      s.empty ∙ sym none,
      record {
        payload = s.payload;
        parts = ap (λ (x : List ℕ). x ++ a.ahead) (sym none) ∙ s.parts ∙ ap (λ (x : List ℕ). (x ++ s.payload) ++ b.ahead) g.0;
        counts = g.1;
      },
    )

pub leaves_remains : (old new : Held) (a b : Source) → IsUnfinished old → Leaves old new a b → NothingLost old new a.ahead b.ahead
leaves_remains old new a b u v = record {
  same = v.same;
  kept = v.kept;
  begun = λ z l. let s = v.skips l in skips_begun old new a b s.0 z;
  going = λ l. elim (cases_lt 0 new.skip_remaining) [
    | inl some ↦ let s = v.skips some in skips_going old new a b u s.0 l
    | inr none ↦ let z : new.skip_remaining ≡ 0 = omega arith in let k = v.kept z in let y = k.0 in absurd (omega arith)
  ];
}

part_remains : (first next : Bool) (old new : Held) (a b : Source) → IsUnfinished old → SkipsUnknown first next old new a b → 0 < new.skip_remaining → NothingLost old new a.ahead b.ahead
part_remains first next old new a b u p l = let w = p.part l in record {
  same = w.0;
  kept = λ z. absurd (omega arith);
  begun = λ z _. skips_begun old new a b p.skips z;
  going = λ some. skips_going old new a b u p.skips some;
}

pub same_refl : (p : Place) → SamePlace p p
same_refl p = record { first = refl; remains = remains_same p.held p.ahead }

pub same_then : (p q r : Place) → SamePlace p q → SamePlace q r → SamePlace p r
same_then p q r x y = record { first = y.first ∙ x.first; remains = remains_then p.held q.held r.held p.ahead q.ahead r.ahead x.remains y.remains }

same_of : (p q : Place) → p ≡ q → SamePlace p q
same_of p q e = rw e (same_refl q)

moved_choice : (o : Option ErrorCode) (first : Bool) (old new : Held) (xs ys : List ℕ) (onward : Place) → NothingLost old new xs ys → SamePlace (if_allowed o onward (record { first = first; held = old; ahead = xs })) (if_allowed o onward (record { first = first; held = new; ahead = ys }))
moved_choice None first old new xs ys onward r = same_refl onward
moved_choice (Some c) first old new xs ys onward r = record { first = refl; remains = r }

moved_by : (role : Role) (first : Bool) (old new : Held) (xs ys : List ℕ) (c : Front) → NothingLost old new xs ys → SamePlace (place_by role first old xs c) (place_by role first new ys c)
moved_by role first old new xs ys (Framed f rest) r = moved_choice (rule role first (kind_in f)) first old new xs ys (place_after (remainder role false rest)) r
moved_by role first old new xs ys (Unknown rest) r = same_refl (place_after (remainder role first rest))
moved_by role first old new xs ys (BadId rest) r = record { first = refl; remains = r }
moved_by role first old new xs ys (TooBig rest) r = record { first = refl; remains = r }
moved_by role first old new xs ys Short r = record { first = refl; remains = r }

-- what remains has the same place
pub remains_place : (role : Role) (first : Bool) (old new : Held) (xs ys : List ℕ) → NothingLost old new xs ys → SamePlace (place_held role first old xs) (place_held role first new ys)
remains_place role first old new xs ys r =
    rw (place_case role first old xs (front_held old xs) refl, place_case role first new ys (front_held old xs) r.same) (moved_by role first old new xs ys (front_held old xs) r)

pub leaves_place : (role : Role) (first next : Bool) (old new : Held) (a b : Source) → IsUnfinished old → Leaves old new a b → next ≡ first → SamePlace (place_of role first old a) (place_of role next new b)
leaves_place role first next old new a b u v e = rw e (remains_place role first old new a.ahead b.ahead (leaves_remains old new a b u v))

pub unknown_place : (role : Role) (first next : Bool) (old new : Held) (a b : Source) → IsUnfinished old → SkipsUnknown first next old new a b → SamePlace (place_of role first old a) (place_of role next new b)
unknown_place role first next old new a b u p = rw p.flag (elim (cases_lt 0 new.skip_remaining) [
  | inl l ↦ remains_place role first old new a.ahead b.ahead (part_remains first next old new a b u p l)
  | inr l ↦ let d = p.whole (omega arith) in same_of (place_of role first old a) (place_of role first new b) (place-unknown role first old a.ahead b.ahead d.front ∙ ap (λ (h : Held). place_held role first h b.ahead) (sym d.empty))
])

pub frame_place : (role : Role) (first next : Bool) (old new : Held) (f : Content) (a b : Source) → StreamTakesFrame role first next old new f a b → SamePlace (place_of role first old a) (place_of role next new b)
frame_place role first next old new f a b t = same_of (place_of role first old a) (place_of role next new b)
    (place-allowed role first old a.ahead b.ahead f t.decided.front t.allowed
    ∙ ap (λ (h : Held). place_held role false h b.ahead) (sym t.decided.empty)
    ∙ ap (λ (x : Bool). place_held role x new b.ahead) (sym t.flag))

-- ---- the fault

-- this is the place itself
abbrev IsHere : Role → Bool → Held → List ℕ → Type 0
IsHere role first h xs = place_held role first h xs ≡ record { first = first; held = h; ahead = xs }

no_frame : (role : Role) (first : Bool) (h : Held) (a : Source) (f : Content) (rest : List ℕ) (o : Option ErrorCode) → front_held h a.ahead ≡ Framed f rest → rule role first (kind_in f) ≡ o → (run_of role first h a).frames ≡ [] → IsHere role first h a.ahead
no_frame role first h a f rest None e allowed none =
    let r : run_of role first h a ≡ follows f _ = run_framed role first h a.ahead rest (tail_of a.ending) f e allowed in
    let frames = ap (λ (x : Run). x.frames) r in
    absurd (cc (frames, none))
no_frame role first h a f rest (Some c) e refused none = place-refused role first h a.ahead rest f c e refused

fault_here : (role : Role) (first next : Bool) (old new : Held) (x : IoReadError) (a b : Source) (c : Front) → front_held old a.ahead ≡ c → Faults role first next old new x a b → IsHere role first old a.ahead
fault_here role first next old new x a b (Framed f rest) e t = no_frame role first old a f rest (rule role first (kind_in f)) e refl t.ends.frames
fault_here role first next old new x a b (Unknown rest) e t = absurd (rw e at t.place)
fault_here role first next old new x a b (BadId rest) e t = place_case role first old a.ahead (BadId rest) e
fault_here role first next old new x a b (TooBig rest) e t = place_case role first old a.ahead (TooBig rest) e
fault_here role first next old new x a b Short e t = place_case role first old a.ahead Short e

left_after : (p : Place) (old new : Held) (a b : Source) (c : Front) → IsUnfinished old → NothingLost p.held old p.ahead a.ahead → SourceIsAfter c old new a b → LeftByFault p c new b.ahead
left_after p old new a b (Framed f rest) u r s = (s.0, sym s.1)
left_after p old new a b (Unknown rest) u r s = s
left_after p old new a b (BadId rest) u r s = (s.0, sym s.1)
left_after p old new a b (TooBig rest) u r s = (s.0, sym s.1)
left_after p old new a b Short u r s = (s.1, remains_then p.held old new p.ahead a.ahead [] r (rw s.1 at (leaves_remains old new a b u s.0)))

pub fault_place : (role : Role) (first next : Bool) (p : Place) (old new : Held) (x : IoReadError) (a b : Source) → IsUnfinished old → SamePlace p (place_of role first old a) → Faults role first next old new x a b → AtFault role p next new b.ahead
fault_place role first next p old new x a b u q t =
    let here = fault_here role first next old new x a b (front_held old a.ahead) refl t in
    let s : SamePlace p (record { first = first; held = old; ahead = a.ahead }) = rw here at q in
    record {
      flag = rw (sym s.remains.same, sym s.first) t.flag;
      left = rw (sym s.remains.same) (left_after p old new a b (front_held old a.ahead) u s.remains t.place);
    }
