-- The instructions of QPACK's encoder and decoder streams, as items show them (RFC 9204, sections
-- 4.3 and 4.4).
use Rattle.std.specs.Prelude.{◌≡◌, ◌==◌, ℕ, Bool, true, false, List, [], drop, codes, Option, Some, None, Result, Ok, Err}
use Rattle.wtp_qpack.specs.StaticTable.{entry_at}
use Rattle.wtp_qpack.specs.declared.qpack.DecodingError.{DecodingError}
use Rattle.wtp_qpack.specs.declared.qpack.DecodingError.TheVariants.{UnexpectedFin}
use Rattle.wtp_dynamic.specs.Chain.{◌>>=◌, or_fault}
use Rattle.wtp_dynamic.specs.DecoderStream.{acknowledgment_at}
use Rattle.wtp_dynamic.specs.Instruction.{Coded, Instruction, SetCapacity, InsertNamed, InsertLiteral, Duplicate, instruction_at}
use Rattle.wtp_dynamic.specs.Steps.{literal_entry, named_entry, text_of}
use Rattle.wtp_dynamic.specs.declared.acknowledgment.Acknowledgment.{Acknowledgment}
use Rattle.wtp_dynamic.specs.declared.acknowledgment.Acknowledgment.TheVariants as acknowledgment-is
use Rattle.wtp_dynamic.specs.declared.error.EncoderStreamError.{EncoderStreamError}
use Rattle.wtp_dynamic.specs.declared.error.EncoderStreamError.TheVariants.{IndexNotFound}
use Rattle.wt_inspection_model.specs.declared.item.ending.FaultCode.{FaultCode}
use Rattle.wt_inspection_model.specs.declared.item.ending.FaultCode.TheVariants as code-is
use Rattle.wt_inspection_model.specs.declared.item.fields.Index.TheVariants.{Relative}
use Rattle.wt_inspection_model.specs.declared.item.fields.Unknown.TheVariants as unknown-is
use Rattle.wt_inspection_model.specs.declared.item.instruction.Instruction.{Instruction as Item}
use Rattle.wt_inspection_model.specs.declared.item.instruction.Instruction.TheVariants as is
use Rattle.wt_inspection.specs.declared.reading.Next.TheVariants as next-is
use Rattle.wt_inspection.specs.Sections.{Shown, shown_of}
use Rattle.wt_inspection.specs.Stops.{IsCut, StopsBy, Then}

-- ---- what an instruction says, with the texts of its strings

pub data Said : Type 0 where
  Capacity : (capacity : ℕ) → Said
  Static : (index : ℕ) → (line : Shown) → Said
  Dynamic : (line : Shown) → Said
  Literal : (line : Shown) → Said
  Again : (line : Shown) → Said
  Decoded : (stream : ℕ) → Said
  Cancelled : (stream : ℕ) → Said
  Received : (count : ℕ) → Said

-- what an item says
abbrev pub said_by : Item → Said
said_by (is.SetCapacity capacity) = Capacity capacity
said_by (is.InsertStatic index line) = Static index (shown_of line)
said_by (is.InsertDynamic line) = Dynamic (shown_of line)
said_by (is.InsertLiteral line) = Literal (shown_of line)
said_by (is.Duplicate line) = Again (shown_of line)
said_by (is.AcknowledgeSection stream) = Decoded stream
said_by (is.CancelStream stream) = Cancelled stream
said_by (is.IncrementCount count) = Received count

-- ---- the encoder stream

-- a name of the static table and a value (section 4.3.2)
abbrev pub static_said : ℕ → Coded → Result Said EncoderStreamError
static_said index value = do
  named ← or_fault IndexNotFound (entry_at index)
  line ← named_entry named.0 value
  Ok (Static index (None, line))

-- a name of the dynamic table, which only the table has, and a value (section 4.3.2)
abbrev pub dynamic_said : ℕ → Coded → Result Said EncoderStreamError
dynamic_said index value = do
  text ← text_of value
  Ok (Dynamic (Some (unknown-is.Name (Relative index)), ([], text)))

-- a name and a value (section 4.3.3)
abbrev pub literal_said : Coded → Coded → Result Said EncoderStreamError
literal_said name value = do
  line ← literal_entry name value
  Ok (Literal (None, line))

-- what an instruction says, or why it says nothing: a string is not Huffman text, or the static
-- table has no entry of the index
abbrev pub said : Instruction → Result Said EncoderStreamError
said (SetCapacity capacity) = Ok (Capacity capacity)
said (InsertNamed true index value) = static_said index value
said (InsertNamed false index value) = dynamic_said index value
said (InsertLiteral name value) = literal_said name value
said (Duplicate index) = Ok (Again (Some (unknown-is.Field (Relative index)), ([], [])))

-- the first len bytes are an instruction of an encoder stream, which this item shows
pub record IsInsertion (bytes : List ℕ) (len : ℕ) (item : Item) (after : Then) : Type 0 where
  pub next : Instruction
  pub read : instruction_at bytes ≡ Ok (next, drop len bytes)
  pub says : said next ≡ Ok (said_by item)
  pub goes : after ≡ Ok next-is.Encoder

-- no instruction can be read: the bytes are too few for one, or they are none, which is a fault of
-- this code (section 6)
abbrev pub IsUnreadable : ℕ → FaultCode → DecodingError → Then → Type 0
IsUnreadable at c UnexpectedFin after = IsCut at (codes "instruction") 1 after
IsUnreadable at c other after = StopsBy at c after

-- the same of an encoder stream, where an instruction that can be read may say nothing
abbrev pub IsNoInsertion : ℕ → Result (Instruction × List ℕ) DecodingError → Then → Type 0
IsNoInsertion at (Err cause) after = IsUnreadable at code-is.EncoderStream cause after
IsNoInsertion at (Ok (next, rest)) after =
    ((cause : EncoderStreamError) × (said next ≡ Err cause)) × StopsBy at code-is.EncoderStream after

-- ---- the decoder stream

abbrev pub acknowledged : Acknowledgment → Said
acknowledged (acknowledgment-is.Section stream) = Decoded stream
acknowledged (acknowledgment-is.Cancellation stream) = Cancelled stream
acknowledged (acknowledgment-is.Increment count) = Received count

-- an increment of 0 says nothing (section 4.4.3)
abbrev pub is_empty : Acknowledgment → Bool
is_empty (acknowledgment-is.Increment count) = count == 0
is_empty other = false

-- the first len bytes are an instruction of a decoder stream, which this item shows
pub record IsAcknowledgment (bytes : List ℕ) (len : ℕ) (item : Item) (after : Then) : Type 0 where
  pub next : Acknowledgment
  pub read : acknowledgment_at bytes ≡ Ok (next, drop len bytes)
  pub some : is_empty next ≡ false
  pub says : said_by item ≡ acknowledged next
  pub goes : after ≡ Ok next-is.Decoder

-- none can be read, or it says nothing
abbrev pub IsNoAcknowledgment : ℕ → Result (Acknowledgment × List ℕ) DecodingError → Then → Type 0
IsNoAcknowledgment at (Err cause) after = IsUnreadable at code-is.DecoderStream cause after
IsNoAcknowledgment at (Ok (next, rest)) after = (is_empty next ≡ true) × StopsBy at code-is.DecoderStream after
