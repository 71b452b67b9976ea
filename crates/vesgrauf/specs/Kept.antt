-- Runs of calls, and the bytes that are kept of each stream in between.
use Rattle.std.specs.Prelude.{◌≡◌, List, [], ◌∷◌}
use Rattle.vesgrauf.specs.declared.connection.Connection.{Connection}
use Rattle.vesgrauf.specs.Bounds.{IsBounded}
use Rattle.vesgrauf.specs.Theirs.{Left}

-- Of each stream no more bytes are kept than may be, if that was so before, as after a `next_event` that returns and leaves the
-- connection open; or no byte is read and none is lost, unless the stream is read no further, as after other calls. The
-- configuration stays.
pub data KeepsKept (c d : Connection) : Type 0 where
  Reads : (config : d.config ≡ c.config) → (bounded : IsBounded c → IsBounded d) → KeepsKept c d
  Leaves : (config : d.config ≡ c.config) → (left : Left c.streams.entries d.streams.entries) → KeepsKept c d

-- such calls, after each of which the connection is one of these
abbrev pub AllKeep : List Connection → Connection → Connection → Type 0
AllKeep [] c d = d ≡ c
AllKeep (m ∷ ms) c d = KeepsKept c m × AllKeep ms m d
