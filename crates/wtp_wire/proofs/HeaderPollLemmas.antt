-- The result of a poll for a stream header.
use Rattle.std.proofs.Common.{◌≡◌, ◌≢◌, ℕ, ◌+◌, ◌%◌, ◌==◌, ◌<◌, List, [], ◌∷◌, length, take, drop, Option, Some, None, Result, Ok, Err, refl, sym, ap, ◌∙◌, arith, inl, inr, length-drop}
use Rattle.std.proofs.lemmas.Bool.{cases_lt, cases_Bool}
use Rattle.wtp_core.specs.declared.bytes.poll.Polled.TheVariants.{Ready}
use Rattle.wtp_core.specs.declared.polling.fill.Interrupted.{Interrupted}
use Rattle.wtp_core.specs.declared.polling.fill.Interrupted.TheVariants as interrupt
use Rattle.wtp_core.specs.Varint.{number_at}
use Rattle.wtp_core.specs.VarintLenNeeded.{varint_len_needed}
use Rattle.wtp_core.specs.Source.{Source, HasModel}
use Rattle.wtp_core.specs.Polled.{PollsAtMost}
use Rattle.wtp_core.specs.Fill.{Gains, InterruptIsTrue, InterruptsAs, interrupt_fault, interrupted_poll}
use Rattle.wtp_core.specs.declared.bytes.poll.Polled.{Polled}
use Rattle.wtp_core.specs.declared.bytes.error.IoReadError as bytes-is
use Rattle.wtp_core.proofs.TellingLemmas.{telling_map}
use Rattle.wtp_core.proofs.FillLemmas.{begins, interrupted_as}
use Rattle.wtp_core.proofs.GetLemmas.{dry}
use Rattle.wtp_core.proofs.NeedLemmas.{number_at-cut, number_at-full, number_at-whole}
use Rattle.wtp_wire.specs.declared.stream_header.StreamKind.{StreamKind}
use Rattle.wtp_wire.specs.declared.stream_header.ParseError.{ParseError}
use Rattle.wtp_wire.specs.declared.stream_header.ParseError.TheVariants as parse
use Rattle.wtp_wire.specs.declared.stream_header.reading.IoReadError.{IoReadError}
use Rattle.wtp_wire.specs.declared.stream_header.reading.IoReadError.TheVariants.{Parse, IO}
use Rattle.wtp_wire.specs.StreamKind.{has_session, stream_kind_of}
use Rattle.wtp_wire.specs.Header.{Header}
use Rattle.wtp_wire.specs.HeaderFront.{HeaderFront, Headed, Unknown, BadId, Short, header_front, session_header_front, typed_header_front, header_extended}
use Rattle.wtp_wire.specs.HeaderReading.{AnswersHeader}
use Rattle.wtp_wire.specs.HeaderNeed.{header_need, header_need_is, header_need_most, need_after, second_need}
use Rattle.wtp_wire.specs.HeaderPolling.{HeaderPolled, HeaderGiven, HeaderDecided, HeaderAnswered, IsWhole}
use Rattle.wtp_wire.proofs.HeaderFrontLemmas.{header_front-more}

header_typed : (h r : List ℕ) (id : ℕ) → number_at h ≡ Some (id, r) → header_front h ≡ typed_header_front (stream_kind_of id) r
unfolding header_front
header_typed h r id e = rw e refl

header_none : (h : List ℕ) → number_at h ≡ None → header_front h ≡ Short
unfolding header_front
header_none h e = rw e refl

need_known : (h r : List ℕ) (id : ℕ) → number_at h ≡ Some (id, r) → header_need h ≡ varint_len_needed h + second_need (stream_kind_of id) r
need_known h r id e = header_need_is h ∙ rw e refl

need_none : (h : List ℕ) → number_at h ≡ None → header_need h ≡ varint_len_needed h
need_none h e = omega (arith, header_need_is h, ap need_after e)

-- fewer bytes than are needed are too few
typed_cut : (k : Option StreamKind) (r : List ℕ) → length r < second_need k r → typed_header_front k r ≡ Short
unfolding session_header_front
typed_cut None r l = absurd (omega arith)
typed_cut (Some kind) r l = elim (cases_Bool (has_session kind)) [
  | inl opens ↦ rw (opens, number_at-cut r (rw opens at l)) refl
  | inr plain ↦ let none : length r < 0 = rw plain at l in absurd (omega arith)
]

pub header_cut : (h : List ℕ) → length h < header_need h → header_front h ≡ Short
header_cut h f = elim (cases_lt (length h) (varint_len_needed h)) [
  | inl l ↦ header_none h (number_at-cut h l)
  | inr l ↦
      let (id, is) = number_at-full h l in
      let r = drop (varint_len_needed h) h in
      header_typed h r id is ∙ typed_cut (stream_kind_of id) r (omega (arith, need_known h r id is, length-drop (varint_len_needed h) h))
]

-- a case with no bytes after it
abbrev pub LeavesNothing : HeaderFront → Type 0
LeavesNothing (Headed h rest) = rest ≡ []
LeavesNothing (Unknown rest) = rest ≡ []
LeavesNothing (BadId rest) = rest ≡ []
LeavesNothing Short = ⊥

session_whole : (r : List ℕ) → varint_len_needed r ≡ length r → LeavesNothing (session_header_front r)
unfolding session_header_front
session_whole r w =
    let (id, is) = number_at-whole r w in
    elim (cases_Bool (id % 4 == 0)) [ inl t ↦ rw (is, t) refl | inr t ↦ rw (is, t) refl ]

no_bytes : (r : List ℕ) → length r ≡ 0 → r ≡ []
no_bytes [] e = refl
no_bytes (b ∷ r) e = absurd (omega arith)

typed_whole : (k : Option StreamKind) (r : List ℕ) → second_need k r ≡ length r → LeavesNothing (typed_header_front k r)
typed_whole None r w = no_bytes r (omega arith)
typed_whole (Some kind) r w = elim (cases_Bool (has_session kind)) [
  | inl opens ↦ rw opens (session_whole r (rw opens at w))
  | inr plain ↦ let none : 0 ≡ length r = rw plain at w in rw plain (no_bytes r (omega arith))
]

-- a complete header is a case with no bytes after it
pub header_whole : (h : List ℕ) → header_need h ≡ length h → LeavesNothing (header_front h)
header_whole h w = elim (cases_lt (length h) (varint_len_needed h)) [
  | inl l ↦ absurd (omega (arith, need_none h (number_at-cut h l)))
  | inr l ↦
      let (id, is) = number_at-full h l in
      let r = drop (varint_len_needed h) h in
      rw (header_typed h r id is) (typed_whole (stream_kind_of id) r (omega (arith, need_known h r id is, length-drop (varint_len_needed h) h)))
]

pub whole_headed : (h rest : List ℕ) (x : Header) → header_need h ≡ length h → header_front h ≡ Headed x rest → header_front h ≡ Headed x []
whole_headed h rest x w e = let none : rest ≡ [] = rw e at (header_whole h w) in e ∙ ap (λ (l : List ℕ). Headed x l) none

pub whole_short : (h : List ℕ) → header_need h ≡ length h → header_front h ≡ Short → ⊥
whole_short h w e = rw e at (header_whole h w)

whole_unknown : (h rest : List ℕ) → header_need h ≡ length h → header_front h ≡ Unknown rest → header_front h ≡ Unknown []
whole_unknown h rest w e = let none : rest ≡ [] = rw e at (header_whole h w) in e ∙ ap (λ (l : List ℕ). Unknown l) none

whole_bad : (h rest : List ℕ) → header_need h ≡ length h → header_front h ≡ BadId rest → header_front h ≡ BadId []
whole_bad h rest w e = let none : rest ≡ [] = rw e at (header_whole h w) in e ∙ ap (λ (l : List ℕ). BadId l) none

pub whole_fault : (e : ParseError) (h rest : List ℕ) → header_need h ≡ length h → AnswersHeader (header_front h) (Err e) rest → IsWhole (Err (Parse e)) h
whole_fault parse.UnknownStream h rest w e = whole_unknown h rest w e
whole_fault parse.InvalidSessionId h rest w e = whole_bad h rest w e

-- ---- results

not_short : (h : List ℕ) (c : HeaderFront) → header_front h ≡ c → c ≢ Short → header_front h ≢ Short
not_short h c e n s = n (sym e ∙ s)

-- appending bytes does not change the case
decided : (old h : List ℕ) (a b : Source) (case : List ℕ → HeaderFront) → header_front h ≡ case [] → case [] ≢ Short → header_extended (case []) b.ahead ≡ case b.ahead → Gains old h a b 0 → HeaderDecided old [] a b case
decided old h a b case e n more g = record {
  front = ap header_front g.kept ∙ header_front-more h b.ahead (not_short h (case []) e n) ∙ ap (λ (c : HeaderFront). header_extended c b.ahead) e ∙ more;
  empty = refl;
}

whole_polled : (r : Result Header IoReadError) (old h : List ℕ) (a b : Source) → IsWhole r h → Gains old h a b 0 → HeaderPolled (Ready r) old [] a b
whole_polled (Ok x) old h a b w g = decided old h a b (Headed x) w (λ e. cc) refl g
whole_polled (Err (Parse parse.UnknownStream)) old h a b w g = decided old h a b Unknown w (λ e. cc) refl g
whole_polled (Err (Parse parse.InvalidSessionId)) old h a b w g = decided old h a b BadId w (λ e. cc) refl g
whole_polled (Err (IO e)) old h a b w g = absurd w

pub whole_told : (s t : Option Source) (r : Result Header IoReadError) (old h : List ℕ) → IsWhole r h → HasModel s t (λ a b. Gains old h a b 0) → HasModel s t (HeaderPolled (Ready r) old [])
whole_told s t r old h w p = telling_map s t _ (HeaderPolled (Ready r) old []) (λ a b g. whole_polled r old h a b w g) p

answered : (m : ℕ) (old h : List ℕ) (case : List ℕ → HeaderFront) → take m h ≡ old → header_front h ≡ case [] → HeaderAnswered old [] case
answered m old h case front e = let (given, is) = begins m old h front in record { given = given; front = ap header_front (sym is) ∙ e; empty = refl }

pub whole_given : (r : Result Header IoReadError) (m : ℕ) (old h : List ℕ) → take m h ≡ old → IsWhole r h → HeaderGiven (Ready r) old []
whole_given (Ok x) m old h front w = answered m old h (Headed x) front w
whole_given (Err (Parse parse.UnknownStream)) m old h front w = answered m old h Unknown front w
whole_given (Err (Parse parse.InvalidSessionId)) m old h front w = answered m old h BadId front w
whole_given (Err (IO e)) m old h front w = absurd w

-- the result of a poll that stopped after n bytes
abbrev pub interrupted_at : {T : Type 0} → Interrupted → ℕ → Polled (Result T IoReadError)
interrupted_at x n = interrupted_poll (λ (f : bytes-is.IoReadError). IO f) (interrupt_fault x n)

pub interrupted_header : {T : Type 0} (x : Interrupted) (n : ℕ) (r : Polled (Result T IoReadError)) → InterruptsAs (λ f e. e ≡ IO f) (interrupt_fault x n) r → r ≡ interrupted_at x n
interrupted_header x n r h = interrupted_as (λ (f : bytes-is.IoReadError). IO f) (interrupt_fault x n) r h

interrupted_polled : (x : Interrupted) (old new : List ℕ) (a b : Source) → length new < header_need new → Gains old new a b 1 → InterruptIsTrue x a b → HeaderPolled (interrupted_at x (length new)) old new a b
interrupted_polled interrupt.NotReady old new a b cut g t = record { waited = t; kept = sym g.kept }
interrupted_polled interrupt.Fin old new a b cut g t = let e = dry old new a b 1 g t.0 in (rw (← e) (header_cut new cut), record { none_ahead = t.0; held = e; why = rw t.1 refl })
interrupted_polled interrupt.Reset old new a b cut g t = let e = dry old new a b 1 g t.0 in (rw (← e) (header_cut new cut), record { none_ahead = t.0; held = e; why = rw t.1 refl })
interrupted_polled interrupt.NotConnected old new a b cut g t = let e = dry old new a b 1 g t.0 in (rw (← e) (header_cut new cut), record { none_ahead = t.0; held = e; why = rw t.1 refl })

pub interrupted_told : (s t : Option Source) (x : Interrupted) (n : ℕ) (old new : List ℕ) → n ≡ length new → length new < header_need new → HasModel s t (λ a b. Gains old new a b 1 × InterruptIsTrue x a b) → HasModel s t (HeaderPolled (interrupted_at x n) old new)
interrupted_told s t x n old new is cut p = telling_map s t _ (HeaderPolled (interrupted_at x n) old new) (λ a b q. rw is (interrupted_polled x old new a b cut q.0 q.1)) p

pub interrupted_given : (x : Interrupted) (n m : ℕ) (old new : List ℕ) → take m new ≡ old → HeaderGiven (interrupted_at x n) old new
interrupted_given interrupt.NotReady n m old new e = begins m old new e
interrupted_given interrupt.Fin n m old new e = begins m old new e
interrupted_given interrupt.Reset n m old new e = begins m old new e
interrupted_given interrupt.NotConnected n m old new e = begins m old new e

pub asks_interrupted : (s t : Option Source) (x : Interrupted) (old new : List ℕ) → length new < header_need new → HasModel s t (λ a b. Gains old new a b 1 × InterruptIsTrue x a b) → HasModel s t (PollsAtMost 16)
asks_interrupted s t x old new cut p = telling_map s t _ (PollsAtMost 16) (λ a b q. let g = q.0 in record { asked = let one = g.asked in omega (arith, header_need_most new); no_less = g.no_less; ending = g.ending; waits = g.waits }) p
