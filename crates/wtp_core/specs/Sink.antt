-- The model of a polled sink, and the effect of one call on it.
use Rattle.std.specs.Prelude.{◌≡◌, ℕ, ◌+◌, ◌<◌, ◌≤◌, List, [], ◌++◌, take, Option}
use Rattle.wtp_core.specs.declared.bytes.sink.WriteStep.{WriteStep}
use Rattle.wtp_core.specs.declared.bytes.sink.WriteStep.TheVariants.{Bytes, NotReady, Stopped, NotConnected, NoMemory}
use Rattle.wtp_core.specs.Source.{HasModel}

-- the model of a sink: the bytes taken so far, and how often it was not ready, stopped and not
-- connected
pub record Sink : Type 0 where
  pub taken : List ℕ
  pub waits : ℕ
  pub stops : ℕ
  pub losses : ℕ

-- the model of a vector: these bytes were taken, and all counts are 0
abbrev pub all_taken : List ℕ → Sink
all_taken bytes = record { taken = bytes; waits = 0; stops = 0; losses = 0 }

-- The count fits the buffer: from a buffer that is not empty at least one byte is taken, and for an
-- empty buffer the result is Bytes 0. This holds for every sink, even without a model.
abbrev pub SinkKeepsLengths : WriteStep → ℕ → Type 0
SinkKeepsLengths (Bytes n) room = (n ≤ room) × (0 < room → 0 < n)
SinkKeepsLengths NotReady room = 0 < room
SinkKeepsLengths Stopped room = 0 < room
SinkKeepsLengths NotConnected room = 0 < room
SinkKeepsLengths NoMemory room = 0 < room

-- the sink took these bytes, and its counts rose by these numbers
pub record Took (a b : Sink) (bytes : List ℕ) (waits stops losses : ℕ) : Type 0 where
  pub taken : b.taken ≡ a.taken ++ bytes
  pub waits_is : b.waits ≡ a.waits + waits
  pub stops_is : b.stops ≡ a.stops + stops
  pub losses_is : b.losses ≡ a.losses + losses

-- the effect of one call with this result on the model of a sink
abbrev pub SinkMoves : WriteStep → List ℕ → Sink → Sink → Type 0
SinkMoves (Bytes n) buf a b = Took a b (take n buf) 0 0 0
SinkMoves NotReady buf a b = Took a b [] 1 0 0
SinkMoves Stopped buf a b = Took a b [] 0 1 0
SinkMoves NotConnected buf a b = Took a b [] 0 0 1
SinkMoves NoMemory buf a b = Took a b [] 0 0 0

-- the same for a sink that may have no model
abbrev pub SinkModel : WriteStep → List ℕ → Option Sink → Option Sink → Type 0
SinkModel step buf old new = HasModel old new (λ a b. SinkMoves step buf a b)

-- the whole buffer was taken, or allocation failed
abbrev pub TakesWhole : WriteStep → ℕ → Type 0
TakesWhole (Bytes n) room = n ≡ room
TakesWhole NotReady room = ⊥
TakesWhole Stopped room = ⊥
TakesWhole NotConnected room = ⊥
TakesWhole NoMemory room = Unit {0}
