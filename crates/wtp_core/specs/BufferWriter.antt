-- The bytes that a writer into a slice has written, and the space it has left.
use Rattle.std.specs.Prelude.{◌≡◌, ℕ, List, ◌++◌, length, take, drop}
use Rattle.std.specs.Borrow.{GName}
use Rattle.wtp_core.specs.declared.bytes.buffer_writer.BufferWriter.{BufferWriter}

-- the bytes written: those of the slice before the position
abbrev pub written_in : BufferWriter → List ℕ
written_in w = take w.offset w.buffer.now

-- the bytes in the space left: those of the slice after the position
abbrev pub room_in : BufferWriter → List ℕ
room_in w = drop w.offset w.buffer.now

-- the name of the borrow of the slice
abbrev pub loan_of : BufferWriter → GName
loan_of w = w.buffer.ghost_name

-- nothing was written between old and new
pub record IsUnwritten (old new : BufferWriter) : Type 0 where
  pub written : written_in new ≡ written_in old
  pub room : room_in new ≡ room_in old

-- new is old with these bytes appended; the bytes after them are unchanged
pub record Wrote (bytes : List ℕ) (old new : BufferWriter) : Type 0 where
  pub written : written_in new ≡ written_in old ++ bytes
  pub room : room_in new ≡ drop (length bytes) (room_in old)
