-- Lists of strings, and one string, as structured fields (RFC 9651, sections 3.1, 3.3.3 and 4.2).
-- Parameters (section 3.1.2) have no meaning here. Of a parameter's value that is no string, only its
-- bytes are checked: see docs/DIFFERENCES.md.
use Rattle.std.specs.Prelude.{◌≡◌, ◌==◌, ℕ, nat_lt, Bool, true, false, not, ◌&&◌, ◌||◌, if◌then◌else◌, List, [], ◌∷◌, ◌++◌, map, Option, Some, None, codes}
use Rattle.std.specs.List.{list_all, list_any}
use Rattle.wtp_fields.specs.FieldWriting.{is_blank}
use Rattle.wtp_subprotocols.specs.declared.strings.State.{State}
use Rattle.wtp_subprotocols.specs.declared.strings.State.TheVariants.{Start, Before, Inside, Escape, Closed, Key, InKey, Value, InValue, Quoted, QuotedEscape, Percent, InDisplay, After}

-- ---- bytes

-- the byte is a space
abbrev pub is_space : ℕ → Bool
is_space byte = byte == 32

-- the byte is a quote or a backslash, which are written with a backslash (section 3.3.3)
abbrev pub is_escaped : ℕ → Bool
is_escaped byte = byte == 34 || byte == 92

-- the byte may be in a string: it is a space or a visible character (section 3.3.3)
abbrev pub is_string_byte : ℕ → Bool
is_string_byte byte = nat_lt 31 byte && nat_lt byte 127

-- the byte is a lower-case letter
abbrev pub is_lower : ℕ → Bool
is_lower byte = nat_lt 96 byte && nat_lt byte 123

-- the byte may begin the key of a parameter (section 3.1.2)
abbrev pub is_key_start : ℕ → Bool
is_key_start byte = is_lower byte || byte == 42

-- the byte may be in a key
abbrev pub is_key_byte : ℕ → Bool
is_key_byte byte =
    is_lower byte || (nat_lt 47 byte && nat_lt byte 58) || list_any (λ mark. mark == byte) (codes "_-.*")

-- The byte may be in a value that is no string: it is one of a number, a token, a byte sequence, a
-- boolean or a date (sections 3.3.1, 3.3.2 and 3.3.4 to 3.3.7), in any order.
abbrev pub is_value_byte : ℕ → Bool
is_value_byte byte =
    is_key_byte byte || (byte == 61
    || ((nat_lt 64 byte && nat_lt byte 91) || list_any (λ mark. mark == byte) (codes "!#$%&'+^`|~:/?@")))

-- the byte may begin such a value: a percent sign begins a display string
abbrev pub is_value_start : ℕ → Bool
is_value_start byte = is_value_byte byte && not (byte == 37)

-- The byte may be in a display string (section 3.3.8). The two digits after a percent sign are not
-- checked.
abbrev pub is_display_byte : ℕ → Bool
is_display_byte byte = is_string_byte byte && not (byte == 34)

-- ---- the grammar

-- a character of a string (chr in section 3.3.3)
pub data Char : Type 0 where
  Plain : ℕ → Char
  Escaped : ℕ → Char

-- the value of a parameter: a string, a display string, or another bare item
pub data Bare : Type 0 where
  Text : List Char → Bare
  Display : List ℕ → Bare
  Other : ℕ → List ℕ → Bare

-- a parameter, with the spaces before its key
pub record Parameter : Type 0 where
  pub spaces : List ℕ
  pub first : ℕ
  pub key : List ℕ
  pub bare : Option Bare

-- a string and its parameters, with the optional whitespace (OWS) around them
pub record Member : Type 0 where
  pub before : List ℕ
  pub chars : List Char
  pub parameters : List Parameter
  pub after : List ℕ

-- the character, then more
abbrev pub char_then : Char → List ℕ → List ℕ
char_then (Plain byte) rest = byte ∷ rest
char_then (Escaped byte) rest = 92 ∷ byte ∷ rest

abbrev pub chars_then : List Char → List ℕ → List ℕ
chars_then [] rest = rest
chars_then (char ∷ chars) rest = char_then char (chars_then chars rest)

abbrev pub bare_then : Option Bare → List ℕ → List ℕ
bare_then None rest = rest
bare_then (Some (Text chars)) rest = 61 ∷ 34 ∷ chars_then chars (34 ∷ rest)
bare_then (Some (Display bytes)) rest = 61 ∷ 37 ∷ 34 ∷ (bytes ++ 34 ∷ rest)
bare_then (Some (Other first others)) rest = 61 ∷ first ∷ (others ++ rest)

-- the parameters, each after a semicolon, then more
abbrev pub parameters_then : List Parameter → List ℕ → List ℕ
parameters_then [] rest = rest
parameters_then (p ∷ ps) rest = 59 ∷ (p.spaces ++ p.first ∷ (p.key ++ bare_then p.bare (parameters_then ps rest)))

-- the member, then more: a string is between quotes
abbrev pub member_then : Member → List ℕ → List ℕ
member_then m rest = m.before ++ 34 ∷ chars_then m.chars (34 ∷ parameters_then m.parameters (m.after ++ rest))

-- members after the first, each after a comma
abbrev pub others_bytes : List Member → List ℕ
others_bytes [] = []
others_bytes (m ∷ others) = 44 ∷ member_then m (others_bytes others)

-- the byte of a character
abbrev pub byte_of : Char → ℕ
byte_of (Plain byte) = byte
byte_of (Escaped byte) = byte

-- the value of a string
abbrev pub value_of : Member → List ℕ
value_of m = map byte_of m.chars

abbrev pub is_char : Char → Bool
is_char (Plain byte) = is_string_byte byte && not (is_escaped byte)
is_char (Escaped byte) = is_escaped byte

abbrev pub ValidBare : Option Bare → Type 0
ValidBare None = Unit {0}
ValidBare (Some (Text chars)) = list_all is_char chars ≡ true
ValidBare (Some (Display bytes)) = list_all is_display_byte bytes ≡ true
ValidBare (Some (Other first others)) = (is_value_start first ≡ true) × (list_all is_value_byte others ≡ true)

pub record ValidParameter (p : Parameter) : Type 0 where
  pub spaces : list_all is_space p.spaces ≡ true
  pub first : is_key_start p.first ≡ true
  pub key : list_all is_key_byte p.key ≡ true
  pub bare : ValidBare p.bare

abbrev pub ValidParameters : List Parameter → Type 0
ValidParameters [] = Unit {0}
ValidParameters (p ∷ ps) = ValidParameter p × ValidParameters ps

-- the member is one, with these bytes before and after it
pub record ValidMember (is_before is_after : ℕ → Bool) (m : Member) : Type 0 where
  pub before : list_all is_before m.before ≡ true
  pub chars : list_all is_char m.chars ≡ true
  pub parameters : ValidParameters m.parameters
  pub after : list_all is_after m.after ≡ true

abbrev pub ValidOthers : List Member → Type 0
ValidOthers [] = Unit {0}
ValidOthers (m ∷ others) = ValidMember is_blank is_blank m × ValidOthers others

-- The text is a list of strings with these values. It begins with spaces alone (section 4.2).
pub data IsList (text : List ℕ) (values : List (List ℕ)) : Type 0 where
  Empty : list_all is_space text ≡ true → values ≡ [] → IsList text values
  Members : (first : Member) (others : List Member)
      → ValidMember is_space is_blank first → ValidOthers others
      → member_then first (others_bytes others) ≡ text
      → value_of first ∷ map value_of others ≡ values → IsList text values

-- the text is one string with this value, between spaces alone (section 4.2)
pub record IsItem (text value : List ℕ) : Type 0 where
  pub member : Member
  pub valid : ValidMember is_space is_space member
  pub bytes : member_then member [] ≡ text
  pub is : value_of member ≡ value

-- ---- the same, byte by byte

-- the byte may be after a string of a list, or after one string
abbrev pub is_after : Bool → ℕ → Bool
is_after true byte = is_blank byte
is_after false byte = is_space byte

-- what may follow the byte, after a string and its parameters
abbrev pub state_after : Bool → ℕ → Option State
state_after list byte =
    if is_after list byte then Some After else
    if list && byte == 44 then Some Before else None

-- what may follow it, after a string or a parameter
abbrev pub state_closed : Bool → ℕ → Option State
state_closed list byte = if byte == 59 then Some Key else state_after list byte

-- what may follow the byte, of a list or of one string
abbrev pub next_state : Bool → State → ℕ → Option State
next_state list Start byte =
    if byte == 34 then Some Inside else
    if byte == 32 then Some Start else None
next_state list Before byte =
    if byte == 34 then Some Inside else
    if is_blank byte then Some Before else None
next_state list Inside byte =
    if byte == 34 then Some Closed else
    if byte == 92 then Some Escape else
    if is_string_byte byte then Some Inside else None
next_state list Escape byte = if is_escaped byte then Some Inside else None
next_state list Closed byte = state_closed list byte
next_state list Key byte =
    if is_key_start byte then Some InKey else
    if byte == 32 then Some Key else None
next_state list InKey byte =
    if is_key_byte byte then Some InKey else
    if byte == 61 then Some Value else state_closed list byte
next_state list Value byte =
    if byte == 34 then Some Quoted else
    if byte == 37 then Some Percent else
    if is_value_byte byte then Some InValue else None
next_state list InValue byte =
    if is_value_byte byte then Some InValue else state_closed list byte
next_state list Quoted byte =
    if byte == 34 then Some Closed else
    if byte == 92 then Some QuotedEscape else
    if is_string_byte byte then Some Quoted else None
next_state list QuotedEscape byte = if is_escaped byte then Some Quoted else None
next_state list Percent byte = if byte == 34 then Some InDisplay else None
next_state list InDisplay byte =
    if byte == 34 then Some Closed else
    if is_string_byte byte then Some InDisplay else None
next_state list After byte = state_after list byte

-- the text may end here
abbrev pub may_end : Bool → State → Bool
may_end list Start = list
may_end list Closed = true
may_end list InKey = true
may_end list InValue = true
may_end list After = true
may_end list _ = false

-- the bytes of the string so far, with the next byte of the text
abbrev pub current_after : State → ℕ → List ℕ → List ℕ
current_after Inside byte current =
    if byte == 34 then [] else
    if byte == 92 then current else current ++ byte ∷ []
current_after Escape byte current = current ++ byte ∷ []
current_after _ byte current = current

-- the strings so far, with the next byte of the text
abbrev pub values_after : State → ℕ → List ℕ → List (List ℕ) → List (List ℕ)
values_after Inside byte current values =
    if byte == 34 then values ++ current ∷ [] else values
values_after _ byte current values = values

abbrev pub with_state : Option State → (State → Option (List (List ℕ))) → Option (List (List ℕ))
with_state None read = None
with_state (Some state) read = read state

-- the strings of a list (or the one string) with the rest of its text, in a state; None: it is invalid
abbrev pub strings_after : Bool → State → List (List ℕ) → List ℕ → List ℕ → Option (List (List ℕ))
strings_after list state values current [] =
    if may_end list state then Some values else None
strings_after list state values current (byte ∷ rest) = with_state (next_state list state byte)
    (λ next. strings_after list next (values_after state byte current values) (current_after state byte current) rest)

-- the strings of a list
abbrev pub strings_of : List ℕ → Option (List (List ℕ))
strings_of text = strings_after true Start [] [] text

-- the last of these, if there is one
abbrev pub last_string : List (List ℕ) → Option (List ℕ)
last_string [] = None
last_string (value ∷ []) = Some value
last_string (value ∷ next ∷ others) = last_string (next ∷ others)

abbrev pub one_string : Option (List (List ℕ)) → Option (List ℕ)
one_string None = None
one_string (Some values) = last_string values

-- the value of one string
abbrev pub string_of : List ℕ → Option (List ℕ)
string_of text = one_string (strings_after false Start [] [] text)

-- the text begins with a string, after spaces alone: before that nothing has to be kept
abbrev pub begins_string : List ℕ → Bool
begins_string [] = false
begins_string (byte ∷ rest) = byte == 34 || (is_space byte && begins_string rest)

-- the place is after the quote that begins the first string
abbrev pub is_started : State → Bool
is_started Start = false
is_started _ = true

-- ---- writing

-- a character with a backslash if it is a quote or one itself (section 4.1.6)
abbrev pub char_of : ℕ → Char
char_of byte = if is_escaped byte then Escaped byte else Plain byte

-- the string of this value, after these bytes
abbrev pub string_after : List ℕ → List ℕ → Member
string_after before value = record { before = before; chars = map char_of value; parameters = []; after = [] }

abbrev pub written_string : List ℕ → List ℕ
written_string value = member_then (string_after [] value) []

-- a list of these values: after each comma is a space (section 4.1.1)
abbrev pub written_list : List (List ℕ) → List ℕ
written_list [] = []
written_list (first ∷ others) =
    member_then (string_after [] first) (others_bytes (map (string_after (32 ∷ [])) others))

-- the bytes are a string's
abbrev pub is_string : List ℕ → Bool
is_string value = list_all is_string_byte value
