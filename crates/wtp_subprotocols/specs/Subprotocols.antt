-- The fields of subprotocols of a session of WebTransport (later drafts of webtransport over HTTP/3).
use Rattle.std.specs.Prelude.{ℕ, Bool, true, false, List, [], ◌∷◌, ◌++◌, codes, Option, Some, None}
use Rattle.std.specs.List.{flat_map, list_any}
use Rattle.std.specs.Str.{bytes_eq}
use Rattle.wtp_qpack.specs.Field.{Field}
use Rattle.wtp_fields.specs.FieldList.{values_of}
use Rattle.wtp_subprotocols.specs.Strings.{strings_of, string_of, begins_string}

-- the strings of the lines of a list, which are joined by a comma and a space (RFC 9110, section 5.2);
-- None: there is no line, or the list is invalid
abbrev pub strings_of_lines : List (List ℕ) → Option (List (List ℕ))
strings_of_lines [] = None
strings_of_lines (first ∷ others) =
    strings_of (first ++ flat_map (λ line. codes ", " ++ line) others)

-- the string of the only line
abbrev pub string_of_lines : List (List ℕ) → Option (List ℕ)
string_of_lines [] = None
string_of_lines (line ∷ []) = string_of line
string_of_lines (line ∷ next ∷ others) = None

-- Reading these lines as a list takes memory: there are several, which are joined, or the only one
-- begins with a string.
abbrev pub list_needs_memory : List (List ℕ) → Bool
list_needs_memory [] = false
list_needs_memory (line ∷ []) = begins_string line
list_needs_memory (line ∷ next ∷ others) = true

-- reading these lines as one string takes memory: there is only one, and it begins with a string
abbrev pub string_needs_memory : List (List ℕ) → Bool
string_needs_memory [] = false
string_needs_memory (line ∷ []) = begins_string line
string_needs_memory (line ∷ next ∷ others) = false

-- the subprotocols that the fields of a request offer
abbrev pub offered_in : List Field → Option (List (List ℕ))
offered_in fields = strings_of_lines (values_of (codes "wt-available-protocols") fields)

-- the subprotocol that the fields of a response choose
abbrev pub chosen_in : List Field → Option (List ℕ)
chosen_in fields = string_of_lines (values_of (codes "wt-protocol") fields)

-- the choice is one of the offers, or none
abbrev pub is_fine : Option (List ℕ) → List (List ℕ) → Bool
is_fine None offered = true
is_fine (Some chosen) offered = list_any (λ offer. bytes_eq offer chosen) offered

-- the code WT_ALPN_ERROR
abbrev pub alpn_error : ℕ
alpn_error = 0x0817b3dd
