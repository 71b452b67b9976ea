-- The names of the instructions of QPACK's streams (RFC 9204, sections 4.3 and 4.4).
use Rattle.std.specs.Prelude.{ℕ, List, codes}
use Rattle.wt_inspection_model.specs.declared.item.instruction.Instruction.{Instruction}
use Rattle.wt_inspection_model.specs.declared.item.instruction.Instruction.TheVariants as is

-- the name of an instruction
abbrev pub instruction_text : Instruction → List ℕ
instruction_text (is.SetCapacity capacity) = codes "Set Dynamic Table Capacity"
instruction_text (is.InsertStatic index line) = codes "Insert with Name Reference"
instruction_text (is.InsertDynamic line) = codes "Insert with Name Reference"
instruction_text (is.InsertLiteral line) = codes "Insert with Literal Name"
instruction_text (is.Duplicate line) = codes "Duplicate"
instruction_text (is.AcknowledgeSection stream) = codes "Section Acknowledgment"
instruction_text (is.CancelStream stream) = codes "Stream Cancellation"
instruction_text (is.IncrementCount count) = codes "Insert Count Increment"
