-- Texts that are in a section, in a table, or decoded in a room.
use Rattle.std.specs.Prelude.{ℕ, List, Result}
use Rattle.wtp_qpack.specs.Field.{Field}
use Rattle.wtp_qpack.specs.FieldLine.{parts_view}
use Rattle.wtp_qpack.specs.declared.qpack.field_line.Parts.{Parts}
use Rattle.wtp_dynamic.specs.declared.error.SectionError.{SectionError}
use Rattle.wtp_dynamic.specs.Faults.{ReadsUnlessMemory}

-- what was read of a line is the line, with its texts in this room, unless allocation failed
abbrev pub ReadsParts :
    List ℕ → Result Parts SectionError → Result (Field × List ℕ) SectionError → Type 0
ReadsParts room result line = ReadsUnlessMemory (parts_view room) result line
