-- Lines of JSON, one object per line.
use Rattle.std.specs.Prelude.{◌≡◌, ℕ, ◌+◌, Bool, true, false, List, [], ◌∷◌, ◌++◌, ◌&&◌, ◌||◌, nat_le, fold}
use Rattle.std.specs.Prelude.{length, if◌then◌else◌, ◌==◌, codes, decimal, get_or}
use Rattle.std.specs.List.{flat_map, list_any}
use Rattle.std.specs.Str.{IsUtf8, chars}
use Rattle.json.specs.Token.{Token}
use Rattle.json.specs.Lex.{tokens}
use Rattle.json.specs.Print.{print, print_from, ArePrintable}
use Rattle.wt_inspection_model.specs.declared.item.Inspection.{Inspection}
use Rattle.wt_inspection_views.specs.Characters.{is_invisible}

-- a control character that JSON does not escape: DEL, or U+0080 to U+009F
abbrev pub is_late_control : ℕ → Bool
is_late_control c = nat_le 127 c && nat_le c 159

-- a character that no string has, since JSON shows it as it is and it is not seen, or changes the
-- direction of text
abbrev pub is_unseen : ℕ → Bool
is_unseen c = is_late_control c || is_invisible c

-- the byte is DEL or not ASCII
abbrev pub is_late_byte : ℕ → Bool
is_late_byte b = nat_le 127 b

-- the text has such a character
abbrev pub has_unseen : List ℕ → Bool
has_unseen text = list_any is_unseen (chars text)

-- the state of a JSON text after some tokens: before its object; in an object, before a member or
-- the end; after the name of a member; in an array; after the object; or not valid JSON. The list
-- gives the enclosing brackets, innermost first: true for an object, false for an array
pub data Place : Type 0 where
  start : Place
  in_object : List Bool → Place
  after_name : List Bool → Place
  in_array : List Bool → Place
  done : Place
  wrong : Place

-- the state after a value within these enclosing brackets
abbrev pub after_value : List Bool → Place
after_value [] = done
after_value (true ∷ outer) = in_object outer
after_value (false ∷ outer) = in_array outer

-- the state after the first token of a value, which is the value of a member or an element of an
-- array, within these enclosing brackets. A string has no unseen character
abbrev pub value_place : Bool → List Bool → Token → Place
value_place is_member outer Token.begin_object = in_object (is_member ∷ outer)
value_place is_member outer Token.begin_array = in_array (is_member ∷ outer)
value_place is_member outer (Token.string s) =
    if has_unseen s then wrong else after_value (is_member ∷ outer)
value_place is_member outer (Token.number s) = after_value (is_member ∷ outer)
value_place is_member outer (Token.boolean b) = after_value (is_member ∷ outer)
value_place is_member outer Token.null = after_value (is_member ∷ outer)
value_place is_member outer other = wrong

-- the state after a token inside an object
abbrev pub member_place : List Bool → Token → Place
member_place outer (Token.key s) = after_name outer
member_place outer Token.end_object = after_value outer
member_place outer other = wrong

-- the state after a token inside an array
abbrev pub element_place : List Bool → Token → Place
element_place outer Token.end_array = after_value outer
element_place outer other = value_place false outer other

-- the state after the first token
abbrev pub first_place : Token → Place
first_place Token.begin_object = in_object []
first_place other = wrong

-- the state after one more token (RFC 8259, sections 2, 4 and 5)
abbrev pub next_place : Place → Token → Place
next_place start t = first_place t
next_place (in_object outer) t = member_place outer t
next_place (after_name outer) t = value_place true outer t
next_place (in_array outer) t = element_place outer t
next_place done t = wrong
next_place wrong t = wrong

-- the state after these tokens
abbrev pub place_of : List Token → Place
place_of = fold next_place start

-- the tokens are one complete object
abbrev pub IsObject : List Token → Type 0
IsObject ts = place_of ts ≡ done

-- the line of these tokens: their text as the crate json prints it, with strings escaped (RFC
-- 8259, section 7), and a line feed
abbrev pub json_line : List Token → List ℕ
json_line ts = print ts ++ 10 ∷ []

-- the printed tokens are UTF-8 and parse to the same tokens
abbrev pub ReadsBack : List Token → Type 0
ReadsBack ts = (tokens (print ts) ≡ ts) × IsUtf8 (print ts)

-- the bytes are one line of JSON, which contains an object and reads back as the same tokens
abbrev pub IsJsonLine : List ℕ → Type 0
IsJsonLine line = (ts : List Token) × (line ≡ json_line ts) × ReadsBack ts × IsObject ts

-- the bytes complete a line of JSON after the first member of its object
abbrev pub CompletesLine : List ℕ → Type 0
CompletesLine bytes =
    (rest : List Token)
    × (bytes ≡ print_from true rest ++ 10 ∷ []) × IsUtf8 (print_from true rest)
    × ArePrintable rest × (fold next_place (in_object []) rest ≡ done)

-- members of an object without the brace before them, after a comma unless there are none
abbrev pub with_comma : List ℕ → List ℕ
with_comma members = if get_or members 0 0 == 34 then 44 ∷ members else members

-- a line whose object begins with this offset, and its other members
abbrev pub placed_line : ℕ → List ℕ → List ℕ
placed_line at rest = codes "{\"at\":" ++ (decimal at ++ rest)

-- each token list is an object and reads back as the same tokens
abbrev pub AreObjects : List (List Token) → Type 0
AreObjects [] = Unit {0}
AreObjects (ts ∷ more) = (ReadsBack ts × IsObject ts) × AreObjects more

-- the bytes are this number of lines of JSON and nothing else
abbrev pub AreJsonLines : ℕ → List ℕ → Type 0
AreJsonLines n bytes =
    (lines : List (List Token))
    × (length lines ≡ n) × (bytes ≡ flat_map json_line lines) × AreObjects lines

-- the number of lines for an inspection: its items, its warnings, and one for how the input ends
abbrev pub object_lines : Inspection → ℕ
object_lines inspection =
    length inspection.items.items + length inspection.warnings.items + 1
