-- The encoder stream of the end that sent a recording (RFC 9204, sections 2.1.1, 4.3 and 4.5.1.1).
use Rattle.std.specs.Prelude.{ℕ, ◌-◌, ◌*◌, ◌<◌, ◌≤◌, ◌&&◌, nat_lt, nat_le, if◌then◌else◌, ◌==◌, List, length, take, Option, Some, None}
use Rattle.wtp_core.specs.Varint.{number_at}
use Rattle.wtp_dynamic.specs.InsertCount.{most_entries}
use Rattle.wtp_dynamic.specs.Section.{Prefix, is_blocked}
use Rattle.wtp_dynamic.specs.Stream.{Stands}
use Rattle.wtp_dynamic.specs.Table.{Table, empty_table, insert_count}

-- the limit of the capacity, the bytes of the instructions, and the table after them
pub record Sent : Type 0 where
  pub limit : ℕ
  pub bytes : List ℕ
  pub table : Table

-- the bytes after the type of an encoder stream, 2 (section 4.2), if they begin with that
abbrev pub instructions_by : List ℕ → Option (ℕ × List ℕ) → List ℕ
instructions_by bytes None = bytes
instructions_by bytes (Some (number, rest)) = if number == 2 then rest else bytes

abbrev pub instructions_in : List ℕ → List ℕ
instructions_in bytes = instructions_by bytes (number_at bytes)

-- after these bytes the table has had fewer insertions
abbrev pub HasFewer : (limit : ℕ) → List ℕ → (count : ℕ) → Type 0
HasFewer limit bytes count =
    (table : Table) × (held : List ℕ) × Stands (empty_table limit) bytes table held
    × (insert_count table < count)

-- The table after the fewest bytes of a stream with which it has had so many insertions, or after
-- all bytes if these are too few. At that moment a section that needs so many is first not blocked,
-- so each entry to which it may refer is live (section 2.1.1).
pub record IsTableAt (limit : ℕ) (bytes : List ℕ) (count : ℕ) (table : Table) : Type 0 where
  pub n : ℕ
  pub held : List ℕ
  pub within : n ≤ length bytes
  pub stands : Stands (empty_table limit) (take n bytes) table held
  pub enough : n < length bytes → count ≤ insert_count table
  pub first : 0 < n → HasFewer limit (take (n - 1) bytes) count

-- twice the most entries: encoded counts begin again after so many insertions (section 4.5.1.1)
abbrev pub full_range : Table → ℕ
full_range table = 2 * most_entries table.limit

-- The prefix with the count that its encoded number means to a decoder that has read the whole
-- stream. A count above all insertions is taken for the one before it that has the same number,
-- since the section was sent after the insertions that it needs.
abbrev pub latest : Table → Prefix → Prefix
latest table prefix =
    let range = full_range table in
    if is_blocked table prefix && nat_lt range prefix.required && nat_le range prefix.base
    then record prefix { required = prefix.required - range; base = prefix.base - range }
    else prefix
