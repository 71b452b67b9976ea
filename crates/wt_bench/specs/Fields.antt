-- The size of a field list.
use Rattle.std.specs.Prelude.{ℕ, ◌+◌, List, length, sum_by}
use Rattle.wtp_fields.specs.Field.{Field}

-- the size of a field: the lengths of its name and value, plus 32 (RFC 9114, section 4.2.2)
abbrev pub field_size : Field → ℕ
field_size field = 32 + length field.0 + length field.1

-- the size of a field list: the sum of the sizes of its fields (RFC 9114, section 4.2.2)
abbrev pub list_size : List Field → ℕ
list_size = sum_by field_size
