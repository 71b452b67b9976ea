-- What the instructions of the encoder stream do to the table (RFC 9204, sections 3.2 and 4.3).
use Rattle.std.specs.Prelude.{◌≡◌, ◌≢◌, ◌⊎◌, ℕ, ◌^◌, nat_lt, nat_le, if◌then◌else◌, ◌&&◌, ◌||◌, Bool, true, false, IsTrue, List, length, Result, Ok, Err, MatchResult}
use Rattle.wtp_qpack.specs.Field.{Field}
use Rattle.wtp_qpack.specs.StaticTable.{entry_at}
use Rattle.wtp_qpack.specs.StringLiteral.{huffman_text}
use Rattle.wtp_dynamic.specs.declared.error.EncoderStreamError.{EncoderStreamError}
use Rattle.wtp_dynamic.specs.declared.error.EncoderStreamError.TheVariants as fault
use Rattle.wtp_dynamic.specs.Chain.{◌>>=◌, or_fault}
use Rattle.wtp_dynamic.specs.Table.{Table, entry_size, insert_count, resized, inserted, relative_entry}
use Rattle.wtp_dynamic.specs.Instruction.{Coded, Instruction, SetCapacity, InsertNamed, InsertLiteral, Duplicate}

-- the text of a string
abbrev pub text_of : Coded → Result (List ℕ) EncoderStreamError
text_of string =
    if string.0 then or_fault fault.InvalidString (huffman_text string.1) else Ok string.1

-- a new capacity, which is at most the limit (section 4.3.1)
abbrev pub set_step : ℕ → Table → Result Table EncoderStreamError
set_step capacity table =
    if nat_lt table.limit capacity then Err fault.CapacityAboveLimit else Ok (resized capacity table)

-- one more entry, which is not larger than the capacity (section 3.2.2)
abbrev pub insert_step : Field → Table → Result Table EncoderStreamError
insert_step entry table =
    if nat_lt table.capacity (entry_size entry) then Err fault.EntryTooLarge
    else if nat_le (2 ^ 62) (insert_count table) then Err fault.TooManyInsertions
    else Ok (inserted entry table)

-- the entry of an index: of the static table, or the latest of the dynamic table at 0
abbrev pub referred : Bool → ℕ → Table → Result Field EncoderStreamError
referred true index table = or_fault fault.IndexNotFound (entry_at index)
referred false index table =
    or_fault fault.EntryNotFound (relative_entry table (insert_count table) index)

-- the entry with this name and the text of a value
abbrev pub named_entry : List ℕ → Coded → Result Field EncoderStreamError
named_entry name value = do
  text ← text_of value
  Ok (name, text)

-- the entry with the name of another and the text of a value
abbrev pub referring_entry : Bool → ℕ → Coded → Table → Result Field EncoderStreamError
referring_entry is_static index value table = do
  named ← referred is_static index table
  named_entry named.0 value

-- the entry with the texts of a name and a value
abbrev pub literal_entry : Coded → Coded → Result Field EncoderStreamError
literal_entry name value = do
  first ← text_of name
  text ← text_of value
  Ok (first, text)

abbrev pub step : Instruction → Table → Result Table EncoderStreamError
step (SetCapacity capacity) table = set_step capacity table
step (InsertNamed is_static index value) table = do
  entry ← referring_entry is_static index value table
  insert_step entry table
step (InsertLiteral name value) table = do
  entry ← literal_entry name value
  insert_step entry table
step (Duplicate index) table = do
  entry ← referred false index table
  insert_step entry table

-- a call did this step to a table: on an error, which is the fault unless allocation failed, it did
-- nothing
abbrev pub Steps : Result Table EncoderStreamError → (old new : Table)
    → Result (Unit {0}) EncoderStreamError → Type 0
Steps stepped old new result =
    MatchResult result (λ _. stepped ≡ Ok new)
    (λ e. (new ≡ old) × (e ≢ fault.Memory → stepped ≡ Err e))

-- what a call made is what a step makes, unless allocation failed
abbrev pub Makes : {X Y : Type 0} → (X → Y) → Result X EncoderStreamError
    → Result Y EncoderStreamError → Type 0
Makes view result made =
    MatchResult result (λ x. made ≡ Ok (view x)) (λ e. e ≢ fault.Memory → made ≡ Err e)

-- ---- which instructions need memory

-- a string of Huffman text, which is decoded unless it is empty
abbrev pub is_decoded : Coded → Bool
is_decoded string = string.0 && nat_lt 0 (length string.1)

-- the instruction has Huffman text to decode, and no fault before it
abbrev pub HasText : Instruction → Table → Type 0
HasText (SetCapacity capacity) table = ⊥
HasText (InsertNamed is_static index value) table =
    IsTrue (is_decoded value) × (named : Field) × (referred is_static index table ≡ Ok named)
HasText (InsertLiteral name value) table = IsTrue (is_decoded name || is_decoded value)
HasText (Duplicate index) table = ⊥

-- the instruction inserts an entry
abbrev pub AddsEntry : Instruction → Table → Type 0
AddsEntry instruction table = (entry : Field) × (step instruction table ≡ Ok (inserted entry table))

-- The instruction needs memory: for Huffman text, or for the entry that it inserts. To set the
-- capacity needs none, nor does a fault, unless Huffman text comes before it.
abbrev pub NeedsMemory : Instruction → Table → Type 0
NeedsMemory instruction table = HasText instruction table ⊎ AddsEntry instruction table

-- what was made for an instruction: the entry that it inserts, if it may be inserted; or its fault;
-- or nothing, since allocation failed
abbrev pub MakesEntry : {X : Type 0} → (X → Field) → Instruction → Table
    → Result X EncoderStreamError → Type 0
MakesEntry view instruction table result =
    MatchResult result (λ entry. step instruction table ≡ insert_step (view entry) table)
    (λ e. (e ≢ fault.Memory → step instruction table ≡ Err e)
    × (e ≡ fault.Memory → NeedsMemory instruction table))
