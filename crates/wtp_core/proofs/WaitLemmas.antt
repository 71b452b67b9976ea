-- How often a source was not ready.
use Rattle.std.proofs.Common.{◌≡◌, ℕ, ◌+◌, List, Option, Result, Err, arith}
use Rattle.wtp_core.specs.declared.bytes.source.ReadStep.{ReadStep}
use Rattle.wtp_core.specs.declared.bytes.source.ReadStep.TheVariants.{Bytes, NotReady, Reset, NotConnected}
use Rattle.wtp_core.specs.declared.bytes.error.IoReadError.{IoReadError}
use Rattle.wtp_core.specs.declared.polling.fill.Interrupted.{Interrupted}
use Rattle.wtp_core.specs.declared.polling.fill.Interrupted.TheVariants as interrupt
use Rattle.wtp_core.specs.Source.{Source, HasModel, StepMoves, StepWaits}
use Rattle.wtp_core.specs.Polled.{WaitsAs}
use Rattle.wtp_core.specs.Fill.{InterruptWaits, interrupt_fault, interrupted_poll}
use Rattle.wtp_core.proofs.TellingLemmas.{telling_map, telling_then}

-- one call's count of waits
pub step_waited : (step : ReadStep) (buf : List ℕ) (a b : Source) → StepMoves step buf a b → StepWaits step a b
step_waited (Bytes n) buf a b m = omega (arith, m.1)
step_waited NotReady buf a b m = m.1
step_waited Reset buf a b m = omega (arith, m.waits)
step_waited NotConnected buf a b m = omega (arith, m.waits)

pub waits_then : (n : ℕ) (x y z : Option Source) → HasModel x y (λ a b. b.waits ≡ a.waits) → HasModel y z (λ a b. b.waits ≡ a.waits + n) → HasModel x z (λ a b. b.waits ≡ a.waits + n)
waits_then n x y z p q = telling_then x y z _ _ (λ a b. b.waits ≡ a.waits + n) (λ a b c e f. omega arith) p q

pub none_waits : (x y : Option Source) → HasModel x y (λ a b. b.waits ≡ a.waits + 0) → HasModel x y (λ a b. b.waits ≡ a.waits)
none_waits x y p = telling_map x y _ (λ a b. b.waits ≡ a.waits) (λ a b e. omega arith) p

pub waits_none : (x y : Option Source) → HasModel x y (λ a b. b.waits ≡ a.waits) → HasModel x y (λ a b. b.waits ≡ a.waits + 0)
waits_none x y p = telling_map x y _ (λ a b. b.waits ≡ a.waits + 0) (λ a b e. omega arith) p

-- a poll that stopped with a fill has the fill's waits
pub interrupted_waits : (T E U : Type 0) (wrap : IoReadError → E) (h : Interrupted) (n : ℕ) (s t : Option Source) → HasModel s t (InterruptWaits {U = U} (Err h)) → HasModel s t (WaitsAs {T = Result T E} (interrupted_poll wrap (interrupt_fault h n)))
interrupted_waits T E U wrap interrupt.NotReady n s t e = e
interrupted_waits T E U wrap interrupt.Fin n s t e = e
interrupted_waits T E U wrap interrupt.Reset n s t e = e
interrupted_waits T E U wrap interrupt.NotConnected n s t e = e
