-- Field lists: the fields of a section in order, with repeated names, as bytes (RFC 9110, sections
-- 5.2 and 5.3; RFC 9114, section 4.2).
use Rattle.std.specs.Prelude.{◌≡◌, ◌⊎◌, ℕ, ◌+◌, ◌<◌, ◌≤◌, List, [], ◌∷◌, map, filter, length, take, drop, sum_by}
use Rattle.std.specs.Prelude.{Bool, Result, Ok, Err, IsTrue}
use Rattle.std.specs.Str.{bytes_eq}
use Rattle.wtp_qpack.specs.declared.qpack.DecodingError.{DecodingError}
use Rattle.wtp_qpack.specs.Field.{Field}
use Rattle.wtp_qpack.specs.FieldSection.{after_prefix}
use Rattle.wtp_qpack.specs.FieldLines.{octet_line_at, AreOctetLines, is_coded_line}
use Rattle.wtp_fields.specs.declared.fields.texts.Place.{Place}
use Rattle.wtp_fields.specs.declared.fields.FieldSectionError.{FieldSectionError}
use Rattle.wtp_fields.specs.declared.fields.FieldSectionError.TheVariants.{Decoding, TooLarge}
use Rattle.wtp_fields.specs.declared.fields.FieldSectionError.TheVariants.{Memory}

-- the name and the value of the field at a place of the texts
abbrev pub stored : List ℕ → Place → Field
stored texts place = (drop place.start (take place.middle texts), drop place.middle (take place.end texts))

-- the fields at these places, in order
abbrev pub all_stored : List ℕ → List Place → List Field
all_stored texts places = map (stored texts) places

-- the place of a field whose name and value are appended to the texts
abbrev pub place_after : List ℕ → List ℕ → List ℕ → Place
place_after texts name value = record {
  start = length texts;
  middle = length texts + length name;
  end = length texts + length name + length value;
}

-- the place is within texts of so many bytes
pub record IsWithin (len : ℕ) (place : Place) : Type 0 where
  pub name : place.start ≤ place.middle
  pub value : place.middle ≤ place.end
  pub end : place.end ≤ len

-- all these places are
abbrev pub AreWithin : ℕ → List Place → Type 0
AreWithin len [] = Unit {0}
AreWithin len (place ∷ places) = IsWithin len place × AreWithin len places

-- the field has this name
abbrev pub has_name : List ℕ → Field → Bool
has_name name field = bytes_eq field.0 name

-- the values of all fields with a name, in order
abbrev pub values_of : List ℕ → List Field → List (List ℕ)
values_of name fields = map (λ (field : Field). field.1) (filter (has_name name) fields)

-- ---- the size

-- the size of a field: the lengths of its name and its value, plus 32 (RFC 9114, section 4.2.2)
abbrev pub field_size : Field → ℕ
field_size field = 32 + (length field.0 + length field.1)

-- the size of a list of fields: the sum of their sizes
abbrev pub list_size : List Field → ℕ
list_size = sum_by field_size

-- ---- reading

-- after its prefix, the section starts with the lines of these fields, followed by rest; the size
-- of the fields is at most the limit
pub record Reaches (limit : ℕ) (section : List ℕ) (fields : List Field) (rest : List ℕ) : Type 0 where
  pub start : List ℕ
  pub prefix : after_prefix section ≡ Ok start
  pub are : AreOctetLines start fields rest
  pub fits : list_size fields ≤ limit

-- after lines within the limit, the next line cannot be decoded, with this error
pub record HasFaultyLine (limit : ℕ) (section : List ℕ) (fault : DecodingError) : Type 0 where
  pub fields : List Field
  pub rest : List ℕ
  pub reached : Reaches limit section fields rest
  pub some : 0 < length rest
  pub is : octet_line_at rest ≡ Err fault

-- after lines within the limit, the size with the next field exceeds the limit
pub record ExceedsLimit (limit : ℕ) (section : List ℕ) : Type 0 where
  pub fields : List Field
  pub rest : List ℕ
  pub field : Field
  pub behind : List ℕ
  pub reached : Reaches limit section fields rest
  pub is : octet_line_at rest ≡ Ok (field, behind)
  pub exceeds : limit < list_size fields + field_size field

-- the next line is valid, and the size with its field does not exceed the limit
pub record FitsNext (limit : ℕ) (fields : List Field) (rest : List ℕ) : Type 0 where
  pub field : Field
  pub behind : List ℕ
  pub is : octet_line_at rest ≡ Ok (field, behind)
  pub fits : list_size fields + field_size field ≤ limit

-- after lines within the limit, the next line needs memory: it has a Huffman-encoded string, or its
-- field is within the limit and is copied
pub record NeedsMemory (limit : ℕ) (section : List ℕ) : Type 0 where
  pub fields : List Field
  pub rest : List ℕ
  pub reached : Reaches limit section fields rest
  pub needs : IsTrue (is_coded_line rest) ⊎ FitsNext limit fields rest

-- The result of decoding a section with a limit: its fields, or the error at the first line, in
-- byte order, that cannot be decoded or with which the limit is exceeded.
abbrev pub DecodesTo : ℕ → List ℕ → Result (List Field) FieldSectionError → Type 0
DecodesTo limit section (Ok fields) = Reaches limit section fields []
DecodesTo limit section (Err (Decoding fault)) =
    (after_prefix section ≡ Err fault) ⊎ HasFaultyLine limit section fault
DecodesTo limit section (Err TooLarge) = ExceedsLimit limit section
DecodesTo limit section (Err Memory) = NeedsMemory limit section
