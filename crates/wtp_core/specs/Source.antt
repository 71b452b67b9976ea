-- The model of a polled source, and the effect of one call on it.
use Rattle.std.specs.Prelude.{◌≡◌, ℕ, ◌+◌, ◌<◌, ◌≤◌, List, [], ◌++◌, length, take, Option, Some, None}
use Rattle.wtp_core.specs.declared.bytes.source.ReadStep.{ReadStep}
use Rattle.wtp_core.specs.declared.bytes.source.ReadStep.TheVariants.{Bytes, NotReady, Reset, NotConnected}

-- how a source ends once all bytes ahead are taken
pub data SourceEnding : Type 0 where
  AtEnd : SourceEnding
  AtReset : SourceEnding
  AtDisconnection : SourceEnding

-- the model of a source: the bytes ahead, how they end, a count that each call raises by at most
-- one, and how often it was not ready so far
pub record Source : Type 0 where
  pub ahead : List ℕ
  pub ending : SourceEnding
  pub asked : ℕ
  pub waits : ℕ

-- the model of a slice: these bytes and then the end; it is always ready, and does not count its
-- calls
abbrev pub all_ahead : List ℕ → Source
all_ahead bytes = record { ahead = bytes; ending = AtEnd; asked = 0; waits = 0 }

-- if there is a model before, there is one after, and P relates the two
abbrev pub HasModel : {X : Type 0} → Option X → Option X → (X → X → Type 0) → Type 0
HasModel None new P = Unit {0}
HasModel (Some a) None P = ⊥
HasModel (Some a) (Some b) P = P a b

-- ---- one call

-- The count fits the buffer: no more bytes are given than fit, and for an empty buffer the result
-- is Bytes 0. This holds for every source, even without a model.
abbrev pub StepKeepsLengths : ReadStep → ℕ → Type 0
StepKeepsLengths (Bytes n) room = n ≤ room
StepKeepsLengths NotReady room = 0 < room
StepKeepsLengths Reset room = 0 < room
StepKeepsLengths NotConnected room = 0 < room

-- the count of calls rose by at most one, and the ending is unchanged
pub record AsksOnce (a b : Source) : Type 0 where
  pub ending : b.ending ≡ a.ending
  pub asked : b.asked ≤ a.asked + 1
  pub no_less : a.asked ≤ b.asked

-- no byte is ahead before and after the call, and the source ends in this way
pub record IsOver (a b : Source) (ending : SourceEnding) : Type 0 where
  pub before : a.ahead ≡ []
  pub after : b.ahead ≡ []
  pub how : a.ending ≡ ending
  pub waits : b.waits ≡ a.waits

-- the effect of one call by its result: the bytes moved from those ahead to the start of the
-- buffer, or none did
abbrev pub StepMoves : ReadStep → List ℕ → Source → Source → Type 0
StepMoves (Bytes n) buf a b =
    (a.ahead ≡ take n buf ++ b.ahead)
    × (b.waits ≡ a.waits)
    × (n ≡ 0 → 0 < length buf → IsOver a b AtEnd)
StepMoves NotReady buf a b = (b.ahead ≡ a.ahead) × (b.waits ≡ a.waits + 1)
StepMoves Reset buf a b = IsOver a b AtReset
StepMoves NotConnected buf a b = IsOver a b AtDisconnection

-- the effect of one call on a source that may have no model
abbrev pub StepModel : ReadStep → List ℕ → Option Source → Option Source → Type 0
StepModel step buf old new = HasModel old new (λ a b. AsksOnce a b × StepMoves step buf a b)

-- how often the source was not ready in one call: once or never
abbrev pub step_waits : ReadStep → ℕ
step_waits (Bytes n) = 0
step_waits NotReady = 1
step_waits Reset = 0
step_waits NotConnected = 0

-- the count of waits rose by one if the result is NotReady, and otherwise not
abbrev pub StepWaits : ReadStep → Source → Source → Type 0
StepWaits step a b = b.waits ≡ a.waits + step_waits step

-- ---- the buffered bytes

-- the bytes are a prefix of the bytes ahead
abbrev pub Shows : List ℕ → Option Source → Type 0
Shows bytes None = Unit {0}
Shows bytes (Some a) = (rest : List ℕ) × (a.ahead ≡ bytes ++ rest)

-- one call took this many of the bytes ahead
abbrev pub TakesBuffered : ℕ → Source → Source → Type 0
TakesBuffered count a b =
    AsksOnce a b
    × (a.ahead ≡ take count a.ahead ++ b.ahead)
    × (count ≤ length a.ahead)
    × (b.waits ≡ a.waits)
