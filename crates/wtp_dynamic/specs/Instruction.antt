-- The instructions of the encoder stream (RFC 9204, section 4.3).
use Rattle.std.specs.Prelude.{◌≡◌, ℕ, ◌/◌, ◌%◌, ◌^◌, nat_lt, if◌then◌else◌, Bool, true, false, List, [], ◌∷◌, ◌++◌, length, take, drop, slice_index, Result, Ok, Err}
use Rattle.wtp_qpack.specs.declared.qpack.DecodingError.{DecodingError}
use Rattle.wtp_qpack.specs.declared.qpack.DecodingError.TheVariants.{UnexpectedFin}
use Rattle.wtp_qpack.specs.Qpack.{◌>>=◌}
use Rattle.wtp_qpack.specs.Integer.{IsInt, integer_at}
use Rattle.wtp_qpack.specs.StringLiteral.{flag_above}
use Rattle.wtp_qpack.specs.FieldLine.{bit}

-- a string as it was sent: whether it is Huffman text, and its bytes
abbrev pub Coded : Type 0
Coded = Bool × List ℕ

-- what an instruction says
pub data Instruction : Type 0 where
  SetCapacity : (capacity : ℕ) → Instruction
  InsertNamed : (is_static : Bool) → (index : ℕ) → (value : Coded) → Instruction
  InsertLiteral : (name value : Coded) → Instruction
  Duplicate : (index : ℕ) → Instruction

-- ---- the definition: the bytes of an instruction

-- s is a string with its length in n bits: an integer gives the number of bytes after it
pub record IsCoded (n : ℕ) (string : Coded) (s : List ℕ) : Type 0 where
  pub size : List ℕ
  pub parts : s ≡ size ++ string.1
  pub is_size : IsInt n (length string.1) size
  pub flag : flag_above n size ≡ string.0

-- the high bits of the first byte, above n bits
abbrev pub high_bits : ℕ → List ℕ → ℕ
high_bits n s = slice_index s 0 / 2 ^ n

abbrev pub IsInstruction : Instruction → List ℕ → Type 0
-- 001 and the capacity (section 4.3.1)
IsInstruction (SetCapacity capacity) s = (high_bits 5 s % 8 ≡ 1) × IsInt 5 capacity s
-- 1T and the index, and the value (section 4.3.2)
IsInstruction (InsertNamed is_static index value) s =
    (name : List ℕ) × (text : List ℕ) × (s ≡ name ++ text) × (bit 7 (slice_index s 0) ≡ true)
    × (bit 6 (slice_index s 0) ≡ is_static) × IsInt 6 index name × IsCoded 7 value text
-- 01 and the name, and the value (section 4.3.3)
IsInstruction (InsertLiteral name value) s =
    (first : List ℕ) × (text : List ℕ) × (s ≡ first ++ text) × (high_bits 6 s % 4 ≡ 1)
    × IsCoded 5 name first × IsCoded 7 value text
-- 000 and the index (section 4.3.4)
IsInstruction (Duplicate index) s = (high_bits 5 s % 8 ≡ 0) × IsInt 5 index s

-- ---- reading: the instruction at the start and the bytes after it, or the first fault

unfoldable pub coded_at : ℕ → List ℕ → Result (Coded × List ℕ) DecodingError
coded_at n bytes = do
  size ← integer_at n bytes
  if nat_lt (length size.1) size.0 then Err UnexpectedFin
      else Ok ((flag_above n bytes, take size.0 size.1), drop size.0 size.1)

abbrev pub Instructions : Type 0
Instructions = List ℕ → Result (Instruction × List ℕ) DecodingError

unfoldable pub capacity_at : Instructions
capacity_at bytes = do
  capacity ← integer_at 5 bytes
  Ok (SetCapacity capacity.0, capacity.1)

unfoldable pub named_at : Bool → Instructions
named_at is_static bytes = do
  index ← integer_at 6 bytes
  value ← coded_at 7 index.1
  Ok (InsertNamed is_static index.0 value.0, value.1)

unfoldable pub literal_at : Instructions
literal_at bytes = do
  name ← coded_at 5 bytes
  value ← coded_at 7 name.1
  Ok (InsertLiteral name.0 value.0, value.1)

unfoldable pub duplicate_at : Instructions
duplicate_at bytes = do
  index ← integer_at 5 bytes
  Ok (Duplicate index.0, index.1)

-- by the first three bits, the highest first
abbrev pub instruction_by : Bool → Bool → Bool → Instructions
instruction_by true is_static _ bytes = named_at is_static bytes
instruction_by false true _ bytes = literal_at bytes
instruction_by false false true bytes = capacity_at bytes
instruction_by false false false bytes = duplicate_at bytes

unfoldable pub instruction_at : Instructions
instruction_at [] = Err UnexpectedFin
instruction_at (first ∷ bytes) =
    instruction_by (bit 7 first) (bit 6 first) (bit 5 first) (first ∷ bytes)
