-- The number of missing payload bytes of an unknown frame.
use Rattle.std.specs.Prelude.{ℕ, ◌-◌, List, length, Option, Some, None}
use Rattle.wtp_core.specs.Varint.{number_at}
use Rattle.wtp_wire.specs.declared.frame.kind.FrameKind.{FrameKind}
use Rattle.wtp_wire.specs.Kind.{kind_of}

-- the number of missing bytes of a payload of this size, of which this many are there; 0 for a
-- known type
abbrev pub due_of : Option FrameKind → ℕ → ℕ → ℕ
due_of None size there = size - there
due_of (Some kind) size there = 0

-- the same, given the length and the bytes after it, or 0 if the length is incomplete
abbrev pub due_second : Option FrameKind → Option (ℕ × List ℕ) → ℕ
due_second kind None = 0
due_second kind (Some size) = due_of kind size.0 (length size.1)

-- the same, given the type and the bytes after it, or 0 if the type is incomplete
abbrev pub due_first : Option (ℕ × List ℕ) → ℕ
due_first None = 0
due_first (Some id) = due_second (kind_of id.0) (number_at id.1)

-- the number of missing payload bytes of the unknown frame that the bytes start with, or 0 if they
-- do not start with one
unfoldable pub due_in : List ℕ → ℕ
due_in bytes = due_first (number_at bytes)
