-- The lines of a section, one by one.
use Rattle.std.specs.Prelude.{◌≡◌, ◌≢◌, ℕ, ◌<◌, List, [], length, Option, Some, None, Result, Ok, Err}
use Rattle.std.specs.Vec.{vec_capacity}
use Rattle.wtp_qpack.specs.declared.qpack.field_lines.FieldLine.{FieldLine}
use Rattle.wtp_qpack.specs.Field.{Field}
use Rattle.wtp_dynamic.specs.declared.error.SectionError.{SectionError}
use Rattle.wtp_dynamic.specs.declared.error.SectionError.TheVariants.{Memory}
use Rattle.wtp_dynamic.specs.Table.{Table}
use Rattle.wtp_dynamic.specs.Section.{Prefix, table_line_at}
use Rattle.wtp_dynamic_decoder.specs.declared.lines.LineRoom.{LineRoom}

-- how many bytes of memory a room has
abbrev pub room_bytes : LineRoom → ℕ
room_bytes room = vec_capacity room.texts

abbrev pub seen_line : FieldLine → Field
seen_line line = (line.name.now, line.value.now)

-- The bytes of lines before and after one was taken: there is none; it is the line at the start; or
-- it has a fault, and nothing was taken.
abbrev pub TakesLine : Table → Prefix → List ℕ → List ℕ → Option (Result FieldLine SectionError)
    → Type 0
TakesLine table prefix old new None = (old ≡ []) × (new ≡ [])
TakesLine table prefix old new (Some (Ok line)) =
    table_line_at table prefix old ≡ Ok (seen_line line, new)
TakesLine table prefix old new (Some (Err fault)) =
    (0 < length old) × (new ≡ old) × (fault ≢ Memory → table_line_at table prefix old ≡ Err fault)
