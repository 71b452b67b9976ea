-- Hexadecimal text. Without blanks and line ends it is pairs of characters, each the prefix 0x or
-- the two digits of a byte.
use Rattle.std.specs.Prelude.{◌≡◌, ◌≢◌, ℕ, ◌+◌, ◌-◌, ◌*◌, Bool, ◌&&◌, ◌||◌, ◌==◌, if◌then◌else◌}
use Rattle.std.specs.Prelude.{List, [], ◌∷◌, ◌++◌, Option, Some, None, nat_le}
use Rattle.std.specs.List.{flat_map}

-- a space, a tab, a carriage return or a line feed
abbrev pub is_blank : ℕ → Bool
is_blank c = (c == 32) || ((c == 9) || ((c == 13) || (c == 10)))

-- the character, unless it is a blank
abbrev pub unless_blank : ℕ → List ℕ
unless_blank c = if is_blank c then [] else c ∷ []

-- the text without blanks and line ends
abbrev pub without_blanks : List ℕ → List ℕ
without_blanks = flat_map unless_blank

-- the value of a hexadecimal digit: 0 to 9, a to f, or A to F
abbrev pub hex_value : ℕ → Option ℕ
hex_value c =
    if nat_le 48 c && nat_le c 57 then Some (c - 48) else
    if nat_le 97 c && nat_le c 102 then Some (c - 97 + 10) else
    if nat_le 65 c && nat_le c 70 then Some (c - 65 + 10) else None

-- the letter x or X
abbrev pub is_x : ℕ → Bool
is_x c = (c == 120) || (c == 88)

-- the two characters are the prefix 0x or 0X
abbrev pub is_prefix : ℕ → ℕ → Bool
is_prefix a b = (a == 48) && is_x b

-- the byte of two digits
abbrev pub byte_of : Option ℕ → Option ℕ → Option (List ℕ)
byte_of (Some high) (Some low) = Some ((16 * high + low) ∷ [])
byte_of (Some high) None = None
byte_of None low = None

-- the bytes of a pair of characters: none for a prefix, one for two digits
abbrev pub pair_bytes : ℕ → ℕ → Option (List ℕ)
pair_bytes a b = if is_prefix a b then Some [] else byte_of (hex_value a) (hex_value b)

-- these bytes, and then those, if both are bytes
abbrev pub joined : Option (List ℕ) → Option (List ℕ) → Option (List ℕ)
joined (Some first) (Some more) = Some (first ++ more)
joined (Some first) None = None
joined None more = None

-- the bytes of pairs of characters, if they are that
abbrev pub pairs_bytes : List ℕ → Option (List ℕ)
pairs_bytes [] = Some []
pairs_bytes (a ∷ []) = None
pairs_bytes (a ∷ b ∷ rest) = joined (pair_bytes a b) (pairs_bytes rest)

-- the bytes of hexadecimal text; none if it has another character, or ends after half a byte
abbrev pub hex_bytes : List ℕ → Option (List ℕ)
hex_bytes text = pairs_bytes (without_blanks text)

-- the text has a byte before its first fault
abbrev pub HasByte : List ℕ → Type 0
HasByte text =
    (front : List ℕ) × (rest : List ℕ) × (bytes : List ℕ)
    × (text ≡ front ++ rest) × (hex_bytes front ≡ Some bytes) × (bytes ≢ [])
