-- Field lines in arrays of the caller (RFC 9204, section 4.5).
use Rattle.std.specs.Prelude.{◌≡◌, ℕ, ◌+◌, ◌-◌, ◌^◌, ◌<◌, ◌≤◌, ◌⊎◌, nat_lt, if◌then◌else◌, List, []}
use Rattle.std.specs.List.{flat_map}
use Rattle.std.specs.Prelude.{◌++◌, ◌∷◌, map, length, take, drop, slice_set, IsTrue, Ok, Err}
use Rattle.wtp_fields.specs.declared.qpack.DecodingError.{DecodingError}
use Rattle.wtp_fields.specs.Field.{Field}
use Rattle.wtp_fields.specs.FieldSection.{after_prefix}
use Rattle.wtp_fields.specs.FieldLines.{octet_line_at, AreOctetLines, is_coded_line}
use Rattle.wt_c.specs.declared.fields.WtField.{WtField}

-- ---- the lines of a section

-- these are the lines of the section, in order
pub record AreLinesOf (section : List ℕ) (lines : List Field) : Type 0 where
  pub start : List ℕ
  pub prefix : after_prefix section ≡ Ok start
  pub are : AreOctetLines start lines []

-- the section contains a line with an error, after valid lines
pub record HasFaultyLine (section : List ℕ) : Type 0 where
  pub start : List ℕ
  pub lines : List Field
  pub rest : List ℕ
  pub error : DecodingError
  pub prefix : after_prefix section ≡ Ok start
  pub are : AreOctetLines start lines rest
  pub some : 0 < length rest
  pub fault : octet_line_at rest ≡ Err error

-- the section prefix or a line of the section has an error
abbrev pub HasSectionFault : List ℕ → Type 0
HasSectionFault section =
    ((e : DecodingError) × (after_prefix section ≡ Err e)) ⊎ HasFaultyLine section

-- the section contains a line with a Huffman string, after valid lines
pub record HasCodedLine (section : List ℕ) : Type 0 where
  pub start : List ℕ
  pub lines : List Field
  pub rest : List ℕ
  pub prefix : after_prefix section ≡ Ok start
  pub are : AreOctetLines start lines rest
  pub coded : IsTrue (is_coded_line rest)

-- the section contains a line that needs an allocation, after valid lines: it has a Huffman
-- string, or it is valid, so its field is stored
pub record HasStoredLine (section : List ℕ) : Type 0 where
  pub start : List ℕ
  pub lines : List Field
  pub rest : List ℕ
  pub prefix : after_prefix section ≡ Ok start
  pub are : AreOctetLines start lines rest
  pub needs : IsTrue (is_coded_line rest)
      ⊎ ((line : Field) × (behind : List ℕ) × (octet_line_at rest ≡ Ok (line, behind)))

-- ---- lines in arrays

-- the field whose name and value are at these offsets of the texts
abbrev pub field_in : List ℕ → WtField → Field
field_in texts w =
    (take w.name_len (drop w.name_offset texts), take w.value_len (drop w.value_offset texts))

-- the name and the value are within the first n bytes
pub record IsWithin (n : ℕ) (w : WtField) : Type 0 where
  pub name : w.name_offset + w.name_len ≤ n
  pub value : w.value_offset + w.value_len ≤ n

-- the names and values of these fields are within the first n bytes
abbrev pub AreWithin : ℕ → List WtField → Type 0
AreWithin n [] = Unit {0}
AreWithin n (w ∷ ws) = IsWithin n w × AreWithin n ws

-- the total length of the names and values
abbrev pub texts_size : List Field → ℕ
texts_size [] = 0
texts_size (line ∷ lines) = (length line.0 + length line.1) + texts_size lines

-- the name of a line, followed by its value
abbrev pub line_texts : Field → List ℕ
line_texts line = line.0 ++ line.1

-- the first `count` fields are these lines, and the first `used` bytes are their texts; the rest
-- of each array is unchanged
pub record HoldLines (old : List WtField) (old_texts : List ℕ) (fields : List WtField)
    (texts : List ℕ) (count used : ℕ) (lines : List Field) : Type 0 where
  pub count_is : count ≡ length lines
  pub used_is : used ≡ texts_size lines
  pub room : count ≤ length fields
  pub texts_room : used ≤ length texts
  pub within : AreWithin used (take count fields)
  pub says : map (λ w. field_in texts w) (take count fields) ≡ lines
  pub texts_are : take used texts ≡ flat_map line_texts lines
  pub fields_after : drop count fields ≡ drop count old
  pub texts_after : drop used texts ≡ drop used old_texts

-- the C form of a size: the number itself, or the largest 64-bit number if the size is larger
abbrev pub capped : ℕ → ℕ
capped n = if nat_lt n (2 ^ 64) then n else 2 ^ 64 - 1

-- an array is too short for these lines, and `count` and `used` are the capped sizes that they
-- need
pub record LackRoom (fields : List WtField) (texts : List ℕ) (count used : ℕ)
    (lines : List Field) : Type 0 where
  pub count_is : count ≡ capped (length lines)
  pub used_is : used ≡ capped (texts_size lines)
  pub short : (length fields < count) ⊎ (length texts < used)

-- ---- one line

-- the C form of a line whose name and value are stored one after the other from offset `at` on
abbrev pub place_of : ℕ → List ℕ → List ℕ → WtField
place_of at name value = record {
  name_offset = at;
  name_len = length name;
  value_offset = at + length name;
  value_len = length value;
}

-- the line is stored after the first n fields, and its texts after the first `at` bytes; the rest
-- of each array is unchanged
pub record LinePut (old : List WtField) (old_texts : List ℕ) (n at : ℕ) (name value : List ℕ)
    (new : List WtField) (texts : List ℕ) : Type 0 where
  pub fields_are : new ≡ slice_set old n (place_of at name value)
  pub front : take at texts ≡ take at old_texts
  pub name_is : take (length name) (drop at texts) ≡ name
  pub value_is : take (length value) (drop (at + length name) texts) ≡ value
  pub after : drop ((at + length name) + length value) texts
      ≡ drop ((at + length name) + length value) old_texts
