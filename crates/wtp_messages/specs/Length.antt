-- The content-length of a message (RFC 9110, section 8.6).
use Rattle.std.specs.Prelude.{ℕ, ◌==◌, ◌≡◌, ◌⊎◌, ◌+◌, ◌*◌, ◌≤◌, nat_lt, ◌^◌, Bool, true, false, not, ◌&&◌, if◌then◌else◌, List, [], ◌∷◌, codes}
use Rattle.std.specs.Prelude.{Option, Some, None, map}
use Rattle.std.specs.List.{list_all, flat_map}
use Rattle.std.specs.Char.{digit_value}
use Rattle.std.specs.Str.Parse.{digits_value}
use Rattle.wtp_qpack.specs.Field.{Field}
use Rattle.wtp_fields.specs.FieldWriting.{is_blank}
use Rattle.wtp_fields.specs.FieldList.{values_of}
use Rattle.wtp_messages.specs.Names.{is_some_text}

-- ---- the parts of a list

-- the byte, before the first of the parts
abbrev pub before_first : ℕ → List (List ℕ) → List (List ℕ)
before_first byte [] = (byte ∷ []) ∷ []
before_first byte (part ∷ parts) = (byte ∷ part) ∷ parts

-- the parts between commas (RFC 9110, section 5.6.1)
abbrev pub parts_of : List ℕ → List (List ℕ)
parts_of [] = [] ∷ []
parts_of (byte ∷ bytes) =
    if byte == 44 then [] ∷ parts_of bytes else before_first byte (parts_of bytes)

-- the text without spaces and tabs at its start
abbrev pub without_start : List ℕ → List ℕ
without_start [] = []
without_start (byte ∷ bytes) = if is_blank byte then without_start bytes else byte ∷ bytes

-- the text without spaces and tabs at its end
abbrev pub without_end : List ℕ → List ℕ
without_end [] = []
without_end (byte ∷ bytes) =
    if list_all is_blank (byte ∷ bytes) then [] else byte ∷ without_end bytes

-- ---- numbers

-- the byte is a decimal digit
abbrev pub is_digit : ℕ → Bool
is_digit byte = nat_lt 47 byte && nat_lt byte 58

-- the number below 2^62 that one or more decimal digits denote
abbrev pub number_of : List ℕ → Option ℕ
number_of text =
    if is_some_text text && list_all is_digit text && nat_lt (digits_value 10 text) (2 ^ 62)
    then Some (digits_value 10 text)
    else None

-- the byte is no digit, or the number with it has more than 64 bits
abbrev pub HasNoDigit : ℕ → ℕ → Type 0
HasNoDigit number byte = (is_digit byte ≡ false) ⊎ (2 ^ 64 ≤ number * 10 + digit_value byte)

-- the lengths in a value, one for each part; None for a part that is no length
abbrev pub lengths_in : List ℕ → List (Option ℕ)
lengths_in value =
    map (λ part. number_of (without_end (without_start part))) (parts_of value)

-- the lengths in all content-length fields
abbrev pub lengths_of : List Field → List (Option ℕ)
lengths_of fields = flat_map lengths_in (values_of (codes "content-length") fields)

-- ---- agreement

-- the length is this one
abbrev pub is_length : ℕ → Option ℕ → Bool
is_length n None = false
is_length n (Some m) = m == n

-- a length was found, and it is another one
abbrev pub is_other : Option ℕ → ℕ → Bool
is_other None n = false
is_other (Some m) n = not (m == n)

-- all are the same length
abbrev pub all_agree : List (Option ℕ) → Bool
all_agree [] = true
all_agree (None ∷ others) = false
all_agree (Some n ∷ others) = list_all (is_length n) others

-- the first length
abbrev pub first_length : List (Option ℕ) → Option ℕ
first_length [] = None
first_length (length ∷ others) = length

-- the content-length of the fields, if they have one
abbrev pub content_length : List Field → Option ℕ
content_length fields = first_length (lengths_of fields)

-- the length that was found, if one was, before these
abbrev pub before : Option ℕ → List (Option ℕ) → List (Option ℕ)
before None lengths = lengths
before (Some n) lengths = Some n ∷ lengths

-- the parts of what follows a comma, if there is one
abbrev pub later_parts : Option (List ℕ) → List (List ℕ)
later_parts None = []
later_parts (Some text) = parts_of text
