-- The result of one poll for a number or into a buffer.
use Rattle.std.proofs.Common.{◌≡◌, ℕ, ◌<◌, ◌≤◌, List, [], ◌++◌, length, take, drop, Option, Some, Result, Ok, refl, sym, ap, ◌∙◌, arith, append-nil, length-append}
use Rattle.wtp_core.specs.declared.bytes.poll.Polled.TheVariants.{Ready}
use Rattle.wtp_core.specs.declared.polling.fill.Interrupted.{Interrupted}
use Rattle.wtp_core.specs.declared.polling.fill.Interrupted.TheVariants as interrupt
use Rattle.wtp_core.specs.Varint.{number_at}
use Rattle.wtp_core.specs.VarintLenNeeded.{varint_len_needed, IsCutNumber}
use Rattle.wtp_core.specs.Source.{Source, HasModel}
use Rattle.wtp_core.specs.declared.bytes.poll.Polled.{Polled}
use Rattle.wtp_core.specs.declared.bytes.error.IoReadError.{IoReadError}
use Rattle.wtp_core.specs.Fill.{Gains, InterruptIsTrue, interrupt_fault, InterruptsAs, interrupted_poll}
use Rattle.wtp_core.specs.Polled.{IsPaced}
use Rattle.wtp_core.specs.Get.{VarintPolled, VarintGiven, BufferGiven}
use Rattle.wtp_core.proofs.TellingLemmas.{telling_map}
use Rattle.wtp_core.proofs.FillLemmas.{begins, interrupted_as}
use Rattle.wtp_core.proofs.EncodingLemmas.{number_at-more}
use Rattle.wtp_core.proofs.NeedLemmas.{number_at-cut, number_at-whole}

-- the result of a poll that stopped after n bytes
abbrev pub interrupted_at : {T : Type 0} → Interrupted → ℕ → Polled (Result T IoReadError)
interrupted_at x n = interrupted_poll (λ f. f) (interrupt_fault x n)

pub interrupted_plain : {T : Type 0} (x : Interrupted) (n : ℕ) (r : Polled (Result T IoReadError)) → InterruptsAs (λ f e. e ≡ f) (interrupt_fault x n) r → r ≡ interrupted_at x n
interrupted_plain x n r h = interrupted_as (λ f. f) (interrupt_fault x n) r h

-- each call but the last took a byte
paced : (old new : List ℕ) (a b : Source) (e : ℕ) → Gains old new a b e → e ≤ 1 → IsPaced a b
paced old new a b e g l = let one = g.asked in omega (arith, one, l, ap length g.kept, length-append old a.ahead, length-append new b.ahead)

pub paced_whole : (x y : Option Source) (old new : List ℕ) → HasModel x y (λ a b. Gains old new a b 0) → HasModel x y IsPaced
paced_whole x y old new h = telling_map x y _ _ (λ a b g. paced old new a b 0 g (omega arith)) h

pub paced_interrupted : (x y : Option Source) (i : Interrupted) (old new : List ℕ) → HasModel x y (λ a b. Gains old new a b 1 × InterruptIsTrue i a b) → HasModel x y IsPaced
paced_interrupted x y i old new h = telling_map x y _ _ (λ a b g. paced old new a b 1 g.0 (omega arith)) h

-- no byte is ahead any more
pub dry : (old new : List ℕ) (a b : Source) (e : ℕ) → Gains old new a b e → b.ahead ≡ [] → new ≡ old ++ a.ahead
dry old new a b e g none = sym (g.kept ∙ ap (λ l. new ++ l) none ∙ append-nil new)

interrupted_varint : (x : Interrupted) (old new : List ℕ) (a b : Source) → IsCutNumber new → Gains old new a b 1 → InterruptIsTrue x a b → VarintPolled (interrupted_at x (length new)) old new a b
interrupted_varint interrupt.NotReady old new a b cut g t = record { waited = t; kept = sym g.kept }
interrupted_varint interrupt.Fin old new a b cut g t = let e = dry old new a b 1 g t.0 in (rw (← e) (number_at-cut new cut), record { none_ahead = t.0; held = e; why = rw t.1 refl })
interrupted_varint interrupt.Reset old new a b cut g t = let e = dry old new a b 1 g t.0 in (rw (← e) (number_at-cut new cut), record { none_ahead = t.0; held = e; why = rw t.1 refl })
interrupted_varint interrupt.NotConnected old new a b cut g t = let e = dry old new a b 1 g t.0 in (rw (← e) (number_at-cut new cut), record { none_ahead = t.0; held = e; why = rw t.1 refl })

pub interrupted_varint_told : (s t : Option Source) (x : Interrupted) (n : ℕ) (old new : List ℕ) → n ≡ length new → IsCutNumber new → HasModel s t (λ a b. Gains old new a b 1 × InterruptIsTrue x a b) → HasModel s t (VarintPolled (interrupted_at x n) old new)
interrupted_varint_told s t x n old new is cut p = telling_map s t _ (VarintPolled (interrupted_at x n) old new) (λ a b q. rw is (interrupted_varint x old new a b cut q.0 q.1)) p

pub interrupted_varint_given : (x : Interrupted) (n m : ℕ) (old new : List ℕ) → take m new ≡ old → VarintGiven (interrupted_at x n) old new
interrupted_varint_given interrupt.NotReady n m old new e = begins m old new e
interrupted_varint_given interrupt.Fin n m old new e = begins m old new e
interrupted_varint_given interrupt.Reset n m old new e = begins m old new e
interrupted_varint_given interrupt.NotConnected n m old new e = begins m old new e

-- a complete encoding is read, and no byte is left
read_whole : (v k : ℕ) (h : List ℕ) → varint_len_needed h ≡ length h → number_at h ≡ Some (v, drop k h) → number_at h ≡ Some (v, [])
read_whole v k h w e = let (u, is) = number_at-whole h w in is ∙ ap (λ (x : ℕ). Some (x, [])) (same_number (u, []) (v, drop k h) (sym is ∙ e))
  where
    same_number : (x y : ℕ × List ℕ) → Some x ≡ Some y → x.0 ≡ y.0
    same_number x y e = let same : x ≡ y = cc in ap (λ (p : ℕ × List ℕ). p.0) same

pub whole_varint_told : (s t : Option Source) (v k : ℕ) (old h : List ℕ) → varint_len_needed h ≡ length h → number_at h ≡ Some (v, drop k h) → HasModel s t (λ a b. Gains old h a b 0) → HasModel s t (VarintPolled (Ready (Ok v)) old [])
whole_varint_told s t v k old h w e p = telling_map s t _ (VarintPolled (Ready (Ok v)) old []) (λ a b g. ap number_at g.kept ∙ number_at-more v h [] b.ahead (read_whole v k h w e)) p

pub whole_varint_given : (v k m : ℕ) (old h : List ℕ) → take m h ≡ old → varint_len_needed h ≡ length h → number_at h ≡ Some (v, drop k h) → VarintGiven (Ready (Ok v)) old []
whole_varint_given v k m old h front w e = let (more, is) = begins m old h front in (refl, (more, ap number_at (sym is) ∙ read_whole v k h w e))

pub interrupted_buffer_given : (U : Type 0) (x : Interrupted) (n m room : ℕ) (old new : List ℕ) → length new < room → take m new ≡ old → BufferGiven {U = U} (interrupted_at x n) room old new
interrupted_buffer_given U interrupt.NotReady n m room old new l e = (l, begins m old new e)
interrupted_buffer_given U interrupt.Fin n m room old new l e = (l, begins m old new e)
interrupted_buffer_given U interrupt.Reset n m room old new l e = (l, begins m old new e)
interrupted_buffer_given U interrupt.NotConnected n m room old new l e = (l, begins m old new e)
