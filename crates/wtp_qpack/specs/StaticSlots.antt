-- The slots by which names and fields of the static table are looked up: each name has a slot of its
-- own, and so has each field.
use Rattle.std.specs.Prelude.{ℕ, ◌+◌, ◌-◌, ◌*◌, ◌%◌, List, length, slice_index}
use Rattle.wtp_qpack.specs.declared.qpack.static_table.TheConstants.{STARTS}

-- the byte at a place of a text, or 0 past its end
abbrev pub byte_at : List ℕ → ℕ → ℕ
byte_at text place = slice_index text place

-- the slot of a name: by its length, its first byte, and the last but one
unfoldable pub name_slot : List ℕ → ℕ
name_slot name =
    (length name % 32 * 8 + byte_at name 0 * 9 + byte_at name (length name - 2)) % 256

-- how many slots after the first of its name a value has its slot
unfoldable pub value_slot : List ℕ → ℕ
value_slot value =
    (byte_at value 6 * 2 + byte_at value (length value - 1) * 11
    + byte_at value (length value - 3) * 2) % 32

-- the slot of a field, by the first entry of its name
unfoldable pub field_slot : ℕ → List ℕ → ℕ
field_slot first value = (slice_index STARTS first + value_slot value) % 256
