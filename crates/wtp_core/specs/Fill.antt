-- The effect of filling a buffer on its source.
use Rattle.std.specs.Prelude.{◌≡◌, ℕ, ◌+◌, ◌<◌, ◌≤◌, List, [], ◌++◌, length, Option, Some, None, Result, Ok, Err}
use Rattle.wtp_core.specs.declared.polling.fill.Interrupted.{Interrupted}
use Rattle.wtp_core.specs.declared.polling.fill.Interrupted.TheVariants as interrupt
use Rattle.wtp_core.specs.declared.bytes.poll.Polled.{Polled}
use Rattle.wtp_core.specs.declared.bytes.poll.Polled.TheVariants.{Ready, Pending}
use Rattle.wtp_core.specs.declared.bytes.error.IoReadError.{IoReadError}
use Rattle.wtp_core.specs.Source.{Source, AtEnd, AtReset, AtDisconnection, HasModel}
use Rattle.wtp_core.specs.Polled.{stop}

-- the buffer is full exactly if the result is Ok
abbrev pub FillKeepsLengths : {U : Type 0} → Result U Interrupted → ℕ → ℕ → Type 0
FillKeepsLengths (Ok _) at room = at ≡ room
FillKeepsLengths (Err _) at room = at < room

-- The source's first bytes were appended to the bytes held. Every call but at most `extra` ones
-- gave at least one byte.
pub record Gains (held new : List ℕ) (a b : Source) (extra : ℕ) : Type 0 where
  pub kept : held ++ a.ahead ≡ new ++ b.ahead
  pub ending : b.ending ≡ a.ending
  pub asked : b.asked + length held ≤ a.asked + length new + extra
  pub no_less : a.asked ≤ b.asked
  pub waits : a.waits ≤ b.waits

-- the source is in the state that the reason states
abbrev pub InterruptIsTrue : Interrupted → Source → Source → Type 0
InterruptIsTrue interrupt.NotReady a b = a.waits < b.waits
InterruptIsTrue interrupt.Fin a b = (b.ahead ≡ []) × (a.ending ≡ AtEnd)
InterruptIsTrue interrupt.Reset a b = (b.ahead ≡ []) × (a.ending ≡ AtReset)
InterruptIsTrue interrupt.NotConnected a b = (b.ahead ≡ []) × (a.ending ≡ AtDisconnection)

-- the effect of a fill with this result on the bytes held and on the model of the source
abbrev pub FillMoves : {U : Type 0} → Result U Interrupted → List ℕ → List ℕ → Source → Source → Type 0
FillMoves (Ok _) held new a b = Gains held new a b 0
FillMoves (Err h) held new a b = Gains held new a b 1 × InterruptIsTrue h a b

-- the same for a source that may have no model
abbrev pub FillModel :
    {U : Type 0} → Result U Interrupted → List ℕ → List ℕ → Option Source → Option Source → Type 0
FillModel r held new old now = HasModel old now (λ a b. FillMoves r held new a b)

-- how often the source was not ready: once if this is the reason why no more bytes came, and
-- otherwise never
abbrev pub interrupt_waits : {U : Type 0} → Result U Interrupted → ℕ
interrupt_waits (Ok _) = 0
interrupt_waits (Err interrupt.NotReady) = 1
interrupt_waits (Err interrupt.Fin) = 0
interrupt_waits (Err interrupt.Reset) = 0
interrupt_waits (Err interrupt.NotConnected) = 0

-- the count of waits rose by exactly this number
abbrev pub InterruptWaits : {U : Type 0} → Result U Interrupted → Source → Source → Type 0
InterruptWaits r a b = b.waits ≡ a.waits + interrupt_waits r

-- the read error of a stopped fill after this many bytes of the item, or None if the source was not
-- ready
abbrev pub interrupt_fault : Interrupted → ℕ → Option IoReadError
interrupt_fault interrupt.NotReady taken = None
interrupt_fault interrupt.Fin taken = Some (stop taken AtEnd)
interrupt_fault interrupt.Reset taken = Some (stop taken AtReset)
interrupt_fault interrupt.NotConnected taken = Some (stop taken AtDisconnection)

-- the result of a poll that stopped with this error, or Pending if there is none; `gives` relates
-- read errors to the errors of the poll
abbrev pub InterruptsAs :
    {T E : Type 0} → (IoReadError → E → Type 0) → Option IoReadError → Polled (Result T E) → Type 0
InterruptsAs gives None result = result ≡ Pending
InterruptsAs {E = E} gives (Some fault) result = (e : E) × gives fault e × (result ≡ Ready (Err e))

-- the result of a poll that stopped with this error, converted by `wrap`, or Pending if there is
-- none
abbrev pub interrupted_poll :
    {T E : Type 0} → (IoReadError → E) → Option IoReadError → Polled (Result T E)
interrupted_poll wrap None = Pending
interrupted_poll wrap (Some fault) = Ready (Err (wrap fault))
