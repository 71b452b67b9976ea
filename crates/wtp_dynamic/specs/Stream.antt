-- The encoder stream: its instructions, one after the other (RFC 9204, section 4.3).
use Rattle.std.specs.Prelude.{◌≡◌, ◌≢◌, ◌⊎◌, ℕ, ◌<◌, List, [], ◌∷◌, ◌++◌, length, Result, Ok, Err, MatchResult}
use Rattle.wtp_qpack.specs.declared.qpack.DecodingError.{DecodingError}
use Rattle.wtp_qpack.specs.declared.qpack.DecodingError.TheVariants as reading
use Rattle.wtp_dynamic.specs.declared.error.EncoderStreamError.{EncoderStreamError}
use Rattle.wtp_dynamic.specs.declared.error.EncoderStreamError.TheVariants as fault
use Rattle.wtp_dynamic.specs.Table.{Table}
use Rattle.wtp_dynamic.specs.Instruction.{Instruction, SetCapacity}
use Rattle.wtp_dynamic.specs.Front.{Front, Whole, Cut, TooLong, Faulty, most_bytes, front_at}
use Rattle.wtp_dynamic.specs.Steps.{step, HasText, NeedsMemory as InstructionNeeds}

-- the first instruction of bytes, by the limit of a table
abbrev pub first_of : Table → List ℕ → Front
first_of table bytes = front_at (most_bytes table.limit) bytes

-- The bytes start with these instructions, followed by the rest, and they lead from one table to
-- another.
abbrev pub Leads : List Instruction → Table → List ℕ → Table → List ℕ → Type 0
Leads [] table bytes after rest = (after ≡ table) × (rest ≡ bytes)
Leads (first ∷ others) table bytes after rest =
    (next : Table) × (behind : List ℕ) × (first_of table bytes ≡ Whole first behind)
    × (step first table ≡ Ok next) × Leads others next behind after rest

-- the bytes end within an instruction, or before one
abbrev pub IsCut : Table → List ℕ → Type 0
IsCut table bytes = first_of table bytes ≡ Cut

-- the fault of the bytes of an instruction
abbrev pub reading_fault : DecodingError → EncoderStreamError
reading_fault reading.IntegerOverflow = fault.IntegerOverflow
reading_fault _ = fault.InvalidString

-- the first instruction has a fault: its bytes are too many, or are not one, or the table does not
-- allow it
abbrev pub HasFault : Table → List ℕ → EncoderStreamError → Type 0
HasFault table bytes e =
    ((first_of table bytes ≡ TooLong) × (e ≡ fault.InstructionTooLong))
    ⊎ (((f : DecodingError) × (first_of table bytes ≡ Faulty f) × (e ≡ reading_fault f))
    ⊎ ((first : Instruction) × (behind : List ℕ) × (first_of table bytes ≡ Whole first behind)
    × (step first table ≡ Err e)))

-- The stream so far led to a table, and the bytes of a cut instruction are held.
pub record Stands (start : Table) (bytes : List ℕ) (table : Table) (held : List ℕ) : Type 0 where
  pub instructions : List Instruction
  pub leads : Leads instructions start bytes table held
  pub cut : IsCut table held

-- The stream has a fault, after the instructions that led to a table.
pub record Breaks (start : Table) (bytes : List ℕ) (table : Table) (e : EncoderStreamError)
    : Type 0 where
  pub instructions : List Instruction
  pub rest : List ℕ
  pub leads : Leads instructions start bytes table rest
  pub fault : HasFault table rest e

-- Instructions at the start of bytes led from one table to another.
abbrev pub Reaches : Table → List ℕ → Table → Type 0
Reaches start bytes table =
    (instructions : List Instruction) × (rest : List ℕ) × Leads instructions start bytes table rest

-- What reading bytes of the stream did to a table: on an error, which is the fault unless
-- allocation failed, the table is what the instructions before it made.
abbrev pub StreamRead : {X : Type 0} → (X → List ℕ) → (old : Table) → List ℕ → (new : Table)
    → Result X EncoderStreamError → Type 0
StreamRead held old bytes new result =
    MatchResult result (λ x. Stands old bytes new (held x))
    (λ e. Reaches old bytes new × (e ≢ fault.Memory → Breaks old bytes new e))

-- ---- memory

-- the first instruction needs memory, or one that is cut is kept
abbrev pub NeedsMemory : Table → List ℕ → Type 0
NeedsMemory table bytes =
    ((0 < length bytes) × IsCut table bytes)
    ⊎ ((first : Instruction) × (behind : List ℕ) × (first_of table bytes ≡ Whole first behind)
    × InstructionNeeds first table)

-- The stream needs memory after the instructions that led to a table.
pub record Lacks (start : Table) (bytes : List ℕ) (table : Table) : Type 0 where
  pub instructions : List Instruction
  pub rest : List ℕ
  pub leads : Leads instructions start bytes table rest
  pub needs : NeedsMemory table rest

-- The same of a piece after bytes of a cut instruction that are held. The piece is joined to these
-- before an instruction is read.
abbrev pub PieceLacks : Table → (held piece : List ℕ) → Table → Type 0
PieceLacks start held piece table =
    ((0 < length held) × (0 < length piece) × (table ≡ start))
    ⊎ Lacks start (held ++ piece) table

-- why reading a piece stopped: the stream has a fault, or allocation failed and the piece needs memory
abbrev pub Stops : Table → (held piece : List ℕ) → Table → EncoderStreamError → Type 0
Stops start held piece table e =
    (e ≢ fault.Memory → Breaks start (held ++ piece) table e)
    × (e ≡ fault.Memory → PieceLacks start held piece table)

-- these instructions set the capacity
abbrev pub OnlyCapacities : List Instruction → Type 0
OnlyCapacities [] = Unit {0}
OnlyCapacities (SetCapacity capacity ∷ others) = OnlyCapacities others
OnlyCapacities (first ∷ others) = ⊥

-- the first instruction has no Huffman text that is decoded
abbrev pub HasNoText : Table → List ℕ → Type 0
HasNoText table bytes =
    (first : Instruction) (behind : List ℕ) → first_of table bytes ≡ Whole first behind
    → ¬ HasText first table
