-- The run of what is held, and how it continues poll by poll.
use Rattle.std.proofs.Common.{◌≡◌, ◌≢◌, ℕ, ◌+◌, ◌<◌, ◌≤◌, Bool, false, List, [], ◌∷◌, ◌++◌, length, drop, refl, sym, ap, subst, ◌∙◌, arith, length-append, Option, Some, None, inl, inr}
use Rattle.std.proofs.lemmas.Bool.{cases_lt, ne_eqb, le-ltb, lt-ltb}
use Rattle.wtp_core.specs.declared.error.ErrorCode.{ErrorCode}
use Rattle.wtp_core.specs.Varint.{bytes_at}
use Rattle.wtp_core.specs.Source.{Source, AtEnd, AtReset, AtDisconnection}
use Rattle.wtp_core.specs.Source as source
use Rattle.wtp_wire.specs.Content.{Content, kind_in}
use Rattle.wtp_wire.specs.Front.{Front, Framed, Unknown, BadId, TooBig, Short, Begins, front, or_short}
use Rattle.wtp_wire.specs.Held.{Held, new_held, front_held, skip_front, Skips, Leaves}
use Rattle.wtp_wire.specs.FramePolling.{Decided}
use Rattle.wtp_wire.proofs.FrontLemmas.{front_holds, framed-shorter, head_not_empty}
use Rattle.wtp_wire.proofs.FramePollLemmas.{front_none, front_due}
use Rattle.wtp_wire.specs.Rule.{Role, rule}
use Rattle.wtp_wire.specs.Run.{Run, Tail, MayGoOn, Ended, WasReset, Lost, Ending, H3, ends, follows, run}
use Rattle.wtp_wire.specs.Run as stopping
use Rattle.wtransport_proto.specs.HeldRun.{tail_of, stop_of, run_by, count_held, run_held, run_of, size_of}
use Rattle.wtransport_proto.specs.StreamPolling.{StreamTakesFrame, SkipsUnknown}
use Rattle.wtp_wire.proofs.RunLemmas.{run-step, skip_unknown-framed, skip_unknown-bad, skip_unknown-big, skip_unknown-short}
use Rattle.wtransport_proto.proofs.ReadingLemmas.{run-unknown}

-- ---- if no bytes are still to be skipped

-- no case of bytes that are still to be skipped
abbrev IsRead : Front → Type 0
IsRead (Framed f rest) = Unit {0}
IsRead (Unknown rest) = ⊥
IsRead (BadId rest) = Unit {0}
IsRead (TooBig rest) = Unit {0}
IsRead Short = ⊥

abbrev skipped : Option (List ℕ × List ℕ) → Front
skipped None = Short
skipped (Some x) = Unknown x.1

not_read : (o : Option (List ℕ × List ℕ)) (c : Front) → skipped o ≡ c → IsRead c → ⊥
not_read None c e h = subst IsRead (sym e) h
not_read (Some x) c e h = subst IsRead (sym e) h

pub skip_not_read : (d : ℕ) (xs : List ℕ) (c : Front) → skip_front d xs ≡ c → IsRead c → ⊥
skip_not_read d xs c e h = not_read (bytes_at d xs) c (split (bytes_at d xs) ∙ e) h
  where
    split : (o : Option (List ℕ × List ℕ)) → skipped o ≡ or_short o (λ p. Unknown p.1)
    split None = refl
    split (Some x) = refl

pub read_front : (h : Held) (xs : List ℕ) (c : Front) → front_held h xs ≡ c → IsRead c → front (h.taken ++ xs) ≡ c
read_front h xs c e r = elim (cases_lt 0 h.skip_remaining) [
  | inl l ↦ absurd (skip_not_read h.skip_remaining xs c (sym (front_due h.taken h.skip_remaining xs l) ∙ e) r)
  | inr l ↦ sym (front_none h.taken h.skip_remaining xs (omega arith)) ∙ e
]

-- ---- sizes

no_longer : (bytes s rest : List ℕ) → bytes ≡ s ++ rest → length rest ≤ length bytes
no_longer bytes s rest e = omega (arith, ap length e, length-append s rest)

pub bad_size : (bytes rest : List ℕ) → front bytes ≡ BadId rest → length rest ≤ length bytes
bad_size bytes rest e = elim (front_holds bytes) [
  | inl short ↦ absurd (cc)
  | inr h ↦ let (s, is, parts) = subst (λ (x : Front). Begins bytes x) e h in no_longer bytes s rest parts
]

pub big_size : (bytes rest : List ℕ) → front bytes ≡ TooBig rest → length rest ≤ length bytes
big_size bytes rest e = elim (front_holds bytes) [
  | inl short ↦ absurd (cc)
  | inr h ↦ let (s, is, parts) = subst (λ (x : Front). Begins bytes x) e h in no_longer bytes s rest parts
]

pub size_new : (new : Held) (b : Source) → new ≡ new_held → size_of new b ≡ length b.ahead
size_new new b e = rw e refl

pub framed_size : (old new : Held) (f : Content) (a b : Source) → Decided old new a b (Framed f) → size_of new b < size_of old a
framed_size old new f a b d = let less = framed-shorter (old.taken ++ a.ahead) b.ahead f (read_front old a.ahead (Framed f b.ahead) d.front tt) in omega (arith, size_new new b d.empty)

skips_size : (old new : Held) (a b : Source) (s : Skips old new a b) → size_of old a ≡ length s.head + length s.payload + size_of new b
skips_size old new a b s = omega (arith, ap length s.parts, length-append (s.head ++ s.payload) b.ahead, length-append s.head s.payload, length-append new.taken b.ahead, ap length s.empty)

-- an unknown frame that is begun has a byte
head_some : (old new : Held) (a b : Source) (s : Skips old new a b) → old.skip_remaining ≡ 0 → 0 < length s.head
head_some old new a b s z = let h = s.begun z in head_not_empty h.id (length s.payload + new.skip_remaining) s.head h.encoded

skips_some : (old new : Held) (a b : Source) → Skips old new a b → 0 < count_held old a.ahead
skips_some old new a b s = elim (cases_lt 0 old.skip_remaining) [
  | inl l ↦ omega arith
  | inr l ↦ omega (arith, skips_size old new a b s, head_some old new a b s (omega arith))
]

pub leaves_size : (old new : Held) (a b : Source) → Leaves old new a b → size_of new b ≤ size_of old a
leaves_size old new a b v = elim (cases_lt 0 new.skip_remaining) [
  | inl l ↦ let s = v.skips l in omega (arith, skips_size old new a b s.0)
  | inr l ↦ let k = v.kept (omega arith) in omega (arith, ap length k.1)
]

pub unknown_size : (first next : Bool) (old new : Held) (a b : Source) → SkipsUnknown first next old new a b → size_of new b < size_of old a
unknown_size first next old new a b p = elim (cases_lt 0 old.skip_remaining) [
  | inl l ↦ elim (cases_lt 0 new.skip_remaining) [
    | inl m ↦ let w = p.part m in let size = w.1 in omega (arith, skips_size old new a b p.skips)
    | inr m ↦ let w = p.skips.going l in let all = w.1 in omega (arith, skips_size old new a b p.skips)
  ]
  | inr l ↦ omega (arith, skips_size old new a b p.skips, head_some old new a b p.skips (omega arith))
]

-- ---- runs by the first frame

pub run_framed : (role : Role) (first : Bool) (h : Held) (xs rest : List ℕ) (tail : Tail) (f : Content) → front_held h xs ≡ Framed f rest → rule role first (kind_in f) ≡ None → run_held role first h xs tail ≡ follows f (run role false rest tail)
unfolding run_held
run_framed role first h xs rest tail f e allowed = rw (e, allowed) refl

pub run_refused : (role : Role) (first : Bool) (h : Held) (xs rest : List ℕ) (tail : Tail) (f : Content) (c : ErrorCode) → front_held h xs ≡ Framed f rest → rule role first (kind_in f) ≡ Some c → run_held role first h xs tail ≡ ends (H3 c)
unfolding run_held
run_refused role first h xs rest tail f c e refused = rw (e, refused) refl

pub run_case : (role : Role) (first : Bool) (h : Held) (xs : List ℕ) (tail : Tail) (c : Front) → front_held h xs ≡ c → run_held role first h xs tail ≡ run_by role first tail (count_held h xs) c
unfolding run_held
run_case role first h xs tail c e = rw e refl

stop_is : (bytes : List ℕ) (tail : Tail) → stopping.run_stop bytes bytes tail ≡ stop_of (length bytes) tail
stop_is bytes MayGoOn = refl
stop_is [] Ended = refl
stop_is (b ∷ bytes) Ended = rw (ne_eqb (length (b ∷ bytes)) 0 (λ z. omega arith)) refl
stop_is bytes WasReset = stop_reset bytes
  where
    stop_reset : (l : List ℕ) → stopping.run_stop l l WasReset ≡ stop_of (length l) WasReset
    stop_reset [] = refl
    stop_reset (b ∷ l) = refl
stop_is bytes Lost = stop_lost bytes
  where
    stop_lost : (l : List ℕ) → stopping.run_stop l l Lost ≡ stop_of (length l) Lost
    stop_lost [] = refl
    stop_lost (b ∷ l) = refl

-- the run of whole bytes goes by their first frame
run_by_front : (role : Role) (first : Bool) (tail : Tail) (bytes : List ℕ) (c : Front) → tail ≢ MayGoOn → front bytes ≡ c → run_by role first tail (length bytes) c ≡ run role first bytes tail
run_by_front role first tail bytes (Unknown rest) t e = sym (run-unknown role first bytes rest tail t e)
run_by_front role first tail bytes (Framed f rest) t e = sym (run-step role first bytes tail ∙ rw (skip_unknown-framed bytes rest f e, e) refl)
run_by_front role first tail bytes (BadId rest) t e = sym (run-step role first bytes tail ∙ rw (skip_unknown-bad bytes rest e, e) refl)
run_by_front role first tail bytes (TooBig rest) t e = sym (run-step role first bytes tail ∙ rw (skip_unknown-big bytes rest e, e) refl)
run_by_front role first tail bytes Short t e = sym (run-step role first bytes tail ∙ rw (skip_unknown-short bytes e, e) (ap (λ (x : Ending). ends x) (stop_is bytes tail)))

-- if no bytes are still to be skipped it is the run of all bytes
pub run_held-run : (role : Role) (first : Bool) (h : Held) (xs : List ℕ) (tail : Tail) → tail ≢ MayGoOn → h.skip_remaining ≡ 0 → run_held role first h xs tail ≡ run role first (h.taken ++ xs) tail
run_held-run role first h xs tail t z =
    let n : count_held h xs ≡ length (h.taken ++ xs) = omega arith in
    run_case role first h xs tail (front (h.taken ++ xs)) (front_none h.taken h.skip_remaining xs z)
    ∙ ap (λ (k : ℕ). run_by role first tail k (front (h.taken ++ xs))) n
    ∙ run_by_front role first tail (h.taken ++ xs) (front (h.taken ++ xs)) t refl

closed : (e : source.SourceEnding) → tail_of e ≢ MayGoOn
closed AtEnd = λ h. cc
closed AtReset = λ h. cc
closed AtDisconnection = λ h. cc

pub run_new : (role : Role) (first : Bool) (new : Held) (b : Source) → new ≡ new_held → run_of role first new b ≡ run role first b.ahead (tail_of b.ending)
run_new role first new b e = rw e (run_held-run role first new_held b.ahead (tail_of b.ending) (closed b.ending) refl)

-- ---- polls continue the run

stop_some : (e : source.SourceEnding) (n m : ℕ) → 0 < n → 0 < m → stop_of n (tail_of e) ≡ stop_of m (tail_of e)
stop_some AtEnd n m l k = rw (ne_eqb n 0 (λ z. omega arith), ne_eqb m 0 (λ z. omega arith)) refl
stop_some AtReset n m l k = refl
stop_some AtDisconnection n m l k = refl

pub by_same : (role : Role) (first : Bool) (tail : Tail) (n m : ℕ) (c : Front) → stop_of n tail ≡ stop_of m tail → run_by role first tail n c ≡ run_by role first tail m c
by_same role first tail n m (Framed f rest) e = refl
by_same role first tail n m (Unknown rest) e = refl
by_same role first tail n m (BadId rest) e = refl
by_same role first tail n m (TooBig rest) e = refl
by_same role first tail n m Short e = ap (λ (x : Ending). ends x) e

run_same : (role : Role) (first : Bool) (old new : Held) (a b : Source) → front_held new b.ahead ≡ front_held old a.ahead → b.ending ≡ a.ending → stop_of (count_held old a.ahead) (tail_of a.ending) ≡ stop_of (count_held new b.ahead) (tail_of a.ending) → run_of role first old a ≡ run_of role first new b
run_same role first old new a b same ending e =
    run_case role first old a.ahead (tail_of a.ending) (front_held old a.ahead) refl
    ∙ by_same role first (tail_of a.ending) (count_held old a.ahead) (count_held new b.ahead) (front_held old a.ahead) e
    ∙ sym (run_case role first new b.ahead (tail_of a.ending) (front_held old a.ahead) same)
    ∙ ap (λ (x : source.SourceEnding). run_held role first new b.ahead (tail_of x)) (sym ending)

pub leaves_run : (role : Role) (first : Bool) (old new : Held) (a b : Source) → Leaves old new a b → b.ending ≡ a.ending → run_of role first old a ≡ run_of role first new b
leaves_run role first old new a b v ending = elim (cases_lt 0 new.skip_remaining) [
  | inl l ↦ let s = v.skips l in run_same role first old new a b v.same ending (stop_some a.ending (count_held old a.ahead) (count_held new b.ahead) (skips_some old new a b s.0) (omega arith))
  | inr l ↦ let z : new.skip_remaining ≡ 0 = omega arith in let k = v.kept z in run_same role first old new a b v.same ending (ap (λ (n : ℕ). stop_of n (tail_of a.ending)) (let d = k.0 in omega (arith, ap length k.1)))
]

pub unknown_run : (role : Role) (first next : Bool) (old new : Held) (a b : Source) → SkipsUnknown first next old new a b → b.ending ≡ a.ending → run_of role first old a ≡ run_of role next new b
unknown_run role first next old new a b p ending = rw p.flag (elim (cases_lt 0 new.skip_remaining) [
  | inl l ↦ let w = p.part l in run_same role first old new a b w.0 ending (stop_some a.ending (count_held old a.ahead) (count_held new b.ahead) (skips_some old new a b p.skips) (omega arith))
  | inr l ↦ let d = p.whole (omega arith) in
      run_case role first old a.ahead (tail_of a.ending) (Unknown b.ahead) d.front
      ∙ ap (λ (x : source.SourceEnding). run role first b.ahead (tail_of x)) (sym ending)
      ∙ sym (run_new role first new b d.empty)
])

pub frame_run : (role : Role) (first next : Bool) (old new : Held) (f : Content) (a b : Source) → StreamTakesFrame role first next old new f a b → b.ending ≡ a.ending → run_of role first old a ≡ follows f (run_of role next new b)
frame_run role first next old new f a b t ending =
    run_framed role first old a.ahead b.ahead (tail_of a.ending) f t.decided.front t.allowed
    ∙ ap (λ (x : source.SourceEnding). follows f (run role false b.ahead (tail_of x))) (sym ending)
    ∙ ap (λ (r : Run). follows f r) (sym (run_new role false new b t.decided.empty) ∙ ap (λ (x : Bool). run_of role x new b) (sym t.flag))

-- ---- if payload bytes of an unknown frame are still to be skipped

skip_there : (d : ℕ) (xs : List ℕ) → d ≤ length xs → skip_front d xs ≡ Unknown (drop d xs)
unfolding bytes_at
skip_there d xs l = rw (le-ltb (length xs) d l) refl

skip_short : (d : ℕ) (xs : List ℕ) → length xs < d → skip_front d xs ≡ Short
unfolding bytes_at
skip_short d xs l = rw (lt-ltb (length xs) d l) refl

pub run_held-skip_remaining : (role : Role) (first : Bool) (h : Held) (xs : List ℕ) (tail : Tail) → 0 < h.skip_remaining → h.skip_remaining ≤ length xs → run_held role first h xs tail ≡ run role first (drop h.skip_remaining xs) tail
run_held-skip_remaining role first h xs tail l there = run_case role first h xs tail (Unknown (drop h.skip_remaining xs)) (front_due h.taken h.skip_remaining xs l ∙ skip_there h.skip_remaining xs there)

pub run_held-lacks : (role : Role) (first : Bool) (h : Held) (xs : List ℕ) (tail : Tail) → length xs < h.skip_remaining → run_held role first h xs tail ≡ ends (stop_of (count_held h xs) tail)
run_held-lacks role first h xs tail l = run_case role first h xs tail Short (front_due h.taken h.skip_remaining xs (omega arith) ∙ skip_short h.skip_remaining xs l)
