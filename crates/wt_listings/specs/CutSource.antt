-- A source that returns few bytes per call and is not always ready.
use Rattle.std.specs.Prelude.{◌≡◌, ℕ, ◌-◌, ◌^◌, ◌<◌, ◌≤◌, Bool, true, false, List}
use Rattle.wtransport_proto.specs.declared.bytes.source.ReadStep.{ReadStep}
use Rattle.wtransport_proto.specs.declared.bytes.source.ReadStep.TheVariants.{Bytes, NotReady}
use Rattle.wtransport_proto.specs.declared.bytes.source.ReadStep.TheVariants.{Reset, NotConnected}
use Rattle.wtransport_proto.specs.Source.{Source, AtEnd}

-- the model of the source: these bytes, then an end of the stream; its wait count starts at a
-- number that leaves room for the waits to come
abbrev pub source_of : List ℕ → ℕ → Source
source_of bytes waits_left =
    record { ahead = bytes; ending = AtEnd; asked = 0; waits = 2 ^ 64 - waits_left }

-- the result of one call, by the room in the buffer, the most bytes per call, and whether the
-- source is ready before and after it. A ready source returns at most that many bytes and is then
-- not ready, or returns its end and stays ready. A source that is not ready returns `NotReady`
-- and is then ready
abbrev pub Cuts : ReadStep → ℕ → ℕ → Bool → Bool → Type 0
Cuts (Bytes n) room max_len ready next =
    (n ≤ max_len) × (0 < room → ready ≡ true) × (0 < n → next ≡ false) × (n ≡ 0 → next ≡ ready)
Cuts NotReady room max_len ready next = (ready ≡ false) × (next ≡ true)
Cuts Reset room max_len ready next = ⊥
Cuts NotConnected room max_len ready next = ⊥
