-- The first two numbers of a frame and its payload are written one after the other.
use Rattle.std.proofs.Common.{◌≡◌, ℕ, ◌+◌, ◌<◌, ◌≤◌, List, [], ◌++◌, length, take, drop, Option, Result, refl, sym, ap, ◌∙◌, arith, inl, inr, append-nil}
use Rattle.std.proofs.lemmas.Bool.{cases_lt}
use Rattle.std.proofs.lemmas.List.{drop-append-le}
use Rattle.std.proofs.Math.Seq.{drop-append-add, take-append-add, take-length, drop-append_seam}
use Rattle.wtp_core.specs.declared.bytes.poll.Polled.{Polled}
use Rattle.wtp_core.specs.declared.bytes.error.IoWriteError.{IoWriteError}
use Rattle.wtp_core.specs.Source.{HasModel}
use Rattle.wtp_core.specs.Sink.{Sink, Took}
use Rattle.wtp_core.specs.Put.{SinkTook}
use Rattle.wtp_core.proofs.TellingLemmas.{telling_then}
use Rattle.wtp_core.proofs.DrainLemmas.{sink_then}

drop_whole : (xs : List ℕ) → drop (length xs) xs ≡ []
drop_whole xs = ap (λ l. drop (length xs) l) (sym (append-nil xs)) ∙ drop-append_seam xs []

two_ranges : (h p : List ℕ) (i j k : ℕ) → i ≤ length h → (0 < j → i ≡ length h) → drop i (take (length h) h) ++ drop j (take k p) ≡ drop (i + j) (take (length h + k) (h ++ p))
two_ranges h p i j k le behind = elim (cases_lt 0 j) [
  | inl some ↦
      let at = behind some in
      sym (rw (at, take-append-add h p k, drop-append-add h (take k p) j, take-length h, drop_whole h) refl)
  | inr none ↦
      let zero : j ≡ 0 = omega arith in
      let i_is : i + 0 ≡ i = omega arith in
      sym (rw (zero, i_is, take-append-add h p k, drop-append-le i h (take k p) le, take-length h) refl)
]

-- the first part was sent completely, and then the second until the sink accepted no more
pub both_told : {U : Type 0} (r : Polled (Result U IoWriteError)) (s t u : Option Sink) (h p : List ℕ) (i j k : ℕ) → i ≤ length h → (0 < j → i ≡ length h)
    → HasModel s t (λ a b. Took a b (drop i (take (length h) h)) 0 0 0) → HasModel t u (SinkTook r (drop j (take k p))) → HasModel s u (SinkTook r (drop (i + j) (take (length h + k) (h ++ p))))
both_told r s t u h p i j k le behind g q = rw (← two_ranges h p i j k le behind) (telling_then s t u _ _ _ (λ a b c x y. sink_then r _ _ a b c x y) g q)
