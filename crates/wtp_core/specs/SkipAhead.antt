-- Skipping bytes.
use Rattle.std.specs.Prelude.{◌≡◌, ℕ, ◌+◌, ◌<◌, ◌≤◌, [], length, drop, Option, Result, Ok, Err}
use Rattle.wtp_core.specs.declared.polling.fill.Interrupted.{Interrupted}
use Rattle.wtp_core.specs.declared.bytes.source.ReadStep.{ReadStep}
use Rattle.wtp_core.specs.declared.bytes.source.ReadStep.TheVariants.{Bytes, NotReady, Reset, NotConnected}
use Rattle.wtp_core.specs.Source.{Source, AtEnd, AtReset, AtDisconnection, AsksOnce, HasModel}
use Rattle.wtp_core.specs.Fill.{InterruptIsTrue}

-- the maximum number of bytes that one poll skips
abbrev pub max_skipped : ℕ
max_skipped = 4096

-- this many bytes were skipped, in at most that many calls plus `extra`
pub record Skipped (gone : ℕ) (a b : Source) (extra : ℕ) : Type 0 where
  pub there : gone ≤ length a.ahead
  pub rest : b.ahead ≡ drop gone a.ahead
  pub ending : b.ending ≡ a.ending
  pub asked : b.asked ≤ a.asked + gone + extra
  pub no_less : a.asked ≤ b.asked
  pub waits : a.waits ≤ b.waits

-- the effect of skipping with this result on the model of the source
abbrev pub SkipMoves : {U : Type 0} → Result U Interrupted → ℕ → Source → Source → Type 0
SkipMoves (Ok _) gone a b = Skipped gone a b 0
SkipMoves (Err h) gone a b = Skipped gone a b 1 × InterruptIsTrue h a b

-- the same for a source that may have no model
abbrev pub SkipModel : {U : Type 0} → Result U Interrupted → ℕ → Option Source → Option Source → Type 0
SkipModel r gone old now = HasModel old now (λ a b. SkipMoves r gone a b)

-- ---- one call

-- a call gives no more bytes than fit into the buffer
abbrev pub CountFits : ReadStep → ℕ → Type 0
CountFits (Bytes n) room = n ≤ room
CountFits NotReady room = Unit {0}
CountFits Reset room = Unit {0}
CountFits NotConnected room = Unit {0}

-- the effect of one call that skips bytes on a source that may have no model
abbrev pub StepSkips : ReadStep → Option Source → Option Source → Type 0
StepSkips (Bytes n) old now =
    HasModel old now
    (λ a b. Skipped n a b 1 × AsksOnce a b × (n ≡ 0 → (b.ahead ≡ []) × (a.ending ≡ AtEnd)))
StepSkips NotReady old now = HasModel old now (λ a b. Skipped 0 a b 1 × (a.waits < b.waits))
StepSkips Reset old now =
    HasModel old now (λ a b. Skipped 0 a b 1 × (b.ahead ≡ []) × (a.ending ≡ AtReset))
StepSkips NotConnected old now =
    HasModel old now (λ a b. Skipped 0 a b 1 × (b.ahead ≡ []) × (a.ending ≡ AtDisconnection))
