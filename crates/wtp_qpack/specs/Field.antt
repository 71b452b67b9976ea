-- Fields: a name and a value, as bytes; and the map of them.
use Rattle.std.specs.Prelude.{ℕ, ◌<◌, ◌^◌, List, [], ◌∷◌, map, length, Option, Some, None}
use Rattle.std.specs.Prelude.{if◌then◌else◌, string_bytes, String, IsUtf8}
use Rattle.std.specs.Borrow.{Bor}
use Rattle.std.specs.List.{fold}
use Rattle.std.specs.List.Sorted.{IsStrictlySortedBy}
use Rattle.std.specs.Str.{bytes_eq}
use Rattle.std.specs.Global.{Global}
use Rattle.std.specs.Cmp.Lexicographic.{slice_cmp}
use Rattle.std.specs.Ordering.{nat_cmp}
use Rattle.std.specs.BTreeMap.{BTreeMap, insert_entry}
use Rattle.wtp_huffman.specs.Huffman.{IsBytes}

-- a name and a value
abbrev pub Field : Type 0
Field = List ℕ × List ℕ

-- a pair of borrowed texts
abbrev pub field_of_texts : Bor (List ℕ) × Bor (List ℕ) → Field
field_of_texts e = (e.0.now, e.1.now)

-- pairs of borrowed texts
abbrev pub fields_of_texts : List (Bor (List ℕ) × Bor (List ℕ)) → List Field
fields_of_texts = map field_of_texts

-- a text of fewer than 2^64 bytes
pub record IsText (t : List ℕ) : Type 0 where
  pub utf8 : IsUtf8 t
  pub few : length t < 2 ^ 64

abbrev pub AreTexts : List Field → Type 0
AreTexts [] = Unit {0}
AreTexts (field ∷ fields) = IsText field.0 × IsText field.1 × AreTexts fields

-- bytes, fewer than 2^64
pub record IsOctets (t : List ℕ) : Type 0 where
  pub bytes : IsBytes t
  pub few : length t < 2 ^ 64

abbrev pub AreOctets : List Field → Type 0
AreOctets [] = Unit {0}
AreOctets (field ∷ fields) = IsOctets field.0 × IsOctets field.1 × AreOctets fields

-- ---- maps

abbrev pub field_of : String Global × String Global → Field
field_of e = (string_bytes e.0, string_bytes e.1)

-- the contents of a map, by the bytes of the names
abbrev pub fields_of : BTreeMap (String Global) (String Global) → List Field
fields_of m = map field_of m.entries

-- each name once, in byte order
abbrev pub IsMap : List Field → Type 0
IsMap fields = IsStrictlySortedBy (slice_cmp nat_cmp) (map (λ (field : Field). field.0) fields)

-- a field put into a map, in place of the one of its name
abbrev pub put : List Field → Field → List Field
put fields field = insert_entry (slice_cmp nat_cmp) fields field.0 field.1

-- the map of lines: each is put into it in turn
unfoldable pub field_map : List Field → List Field
field_map = fold put []

-- the value of the first field of a name
abbrev pub field_value : List ℕ → List Field → Option (List ℕ)
field_value name [] = None
field_value name (field ∷ fields) =
    if bytes_eq field.0 name then Some field.1 else field_value name fields

abbrev pub or_else : Option (List ℕ) → Option (List ℕ) → Option (List ℕ)
or_else (Some value) other = Some value
or_else None other = other

-- the value of the last line of a name
abbrev pub last_value : List ℕ → List Field → Option (List ℕ)
last_value name [] = None
last_value name (line ∷ lines) =
    or_else (last_value name lines) (if bytes_eq line.0 name then Some line.1 else None)
