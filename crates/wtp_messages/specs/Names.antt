-- Names and values of fields (RFC 9114, sections 4.2 and 4.3; RFC 9110, sections 5.1, 5.5 and
-- 5.6.2).
use Rattle.std.specs.Prelude.{ℕ, ◌==◌, Bool, true, false, not, ◌&&◌, List, [], ◌∷◌}
use Rattle.std.specs.Prelude.{Option, Some, None}
use Rattle.std.specs.List.{list_all, list_any}
use Rattle.std.specs.Str.{bytes_eq}
use Rattle.wtp_qpack.specs.Field.{Field, field_value}
use Rattle.wtp_fields.specs.FieldWriting.{is_upper, is_tchar}
use Rattle.wtp_fields.specs.FieldList.{has_name}

-- the first byte is this one
abbrev pub starts_with : ℕ → List ℕ → Bool
starts_with byte [] = false
starts_with byte (first ∷ others) = first == byte

-- the field is a pseudo-header field: its name starts with a colon
abbrev pub is_pseudo : Field → Bool
is_pseudo field = starts_with 58 field.0

-- there is at least one byte
abbrev pub is_some_text : List ℕ → Bool
is_some_text [] = false
is_some_text (first ∷ others) = true

-- the bytes are a token
abbrev pub is_whole_token : List ℕ → Bool
is_whole_token text = is_some_text text && list_all is_tchar text

-- the bytes are a name of a field other than a pseudo-header field: a token without upper-case
-- letters
abbrev pub is_field_name : List ℕ → Bool
is_field_name name = is_whole_token name && not (list_any is_upper name)

-- the name is one of these
abbrev pub is_one_of : List (List ℕ) → List ℕ → Bool
is_one_of names name = list_any (λ one. bytes_eq name one) names

-- there is a field with this name
abbrev pub has_field : List ℕ → List Field → Bool
has_field name fields = list_any (has_name name) fields

-- there is a value, of which this holds
abbrev pub is_and : (List ℕ → Bool) → Option (List ℕ) → Bool
is_and test None = false
is_and test (Some value) = test value

-- there is a value, of which this does not hold
abbrev pub is_and_not : (List ℕ → Bool) → Option (List ℕ) → Bool
is_and_not test None = false
is_and_not test (Some value) = not (test value)

-- the value of the first field of this name is this text
abbrev pub has_value : List ℕ → List ℕ → List Field → Bool
has_value name text fields = is_and (λ value. bytes_eq value text) (field_value name fields)
