-- The position of a reader in its slice, and of a child reader in the bytes that its parent has
-- left.
use Rattle.std.specs.Prelude.{◌≡◌, ◌+◌, ◌-◌, ℕ, List, drop, length}
use Rattle.wtp_core.specs.Reader.{Kept}
use Rattle.wtp_core.specs.declared.bytes.buffer_reader.BufferReader.{BufferReader}
use Rattle.wtp_core.specs.declared.bytes.child.BufferReaderChild.{BufferReaderChild}

-- the whole slice
abbrev pub whole_of : BufferReader → List ℕ
whole_of r = r.buffer.now

-- the bytes left: those after the position
abbrev pub left_of : BufferReader → List ℕ
left_of r = r.rest.now

-- the position: the number of bytes before it
abbrev pub offset_of : BufferReader → ℕ
offset_of r = length r.buffer.now - length r.rest.now

-- new is n bytes further than old, over the same bytes
pub record MovesBy (n : ℕ) (old new : BufferReader) : Type 0 where
  pub whole : whole_of new ≡ whole_of old
  pub left : left_of new ≡ drop n (left_of old)
  pub offset : offset_of new ≡ offset_of old + n

module _ {P : Type 0} where
  -- the bytes that the child's parent has left
  abbrev pub whole_in : BufferReaderChild P → List ℕ
  whole_in c = c.buffer.now

  -- the position of the child: how many of these bytes it has read
  abbrev pub offset_in : BufferReaderChild P → ℕ
  offset_in c = c.offset

  -- the bytes that the child has left
  abbrev pub left_in : BufferReaderChild P → List ℕ
  left_in c = drop c.offset c.buffer.now

  -- the position of the child plus the number of bytes it has left, which reading does not change
  abbrev pub end_in : BufferReaderChild P → ℕ
  end_in c = offset_in c + length (left_in c)

  -- the part of a child that reading leaves unchanged; whole and behind return the slice of a
  -- parent and the bytes that it has left
  abbrev pub kept_in : (P → List ℕ) → (P → List ℕ) → BufferReaderChild P → Kept
  kept_in whole behind c = record {
    whole = c.buffer.now;
    parent_whole = whole c.parent.now;
    parent_left = behind c.parent.now;
    parent_name = c.parent.ghost_name;
    child_end = end_in c;
  }
