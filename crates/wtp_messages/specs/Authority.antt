-- Authorities without user information: a host, and maybe a port after a colon (RFC 3986, sections
-- 3.2.2 and 3.2.3; RFC 9110, sections 4.2 and 7.2).
use Rattle.std.specs.Prelude.{◌≡◌, ◌==◌, ℕ, nat_lt, Bool, true, false, not, ◌&&◌, ◌||◌, if◌then◌else◌, List, [], ◌∷◌, ◌++◌, Option, Some, None, codes}
use Rattle.std.specs.List.{list_all, list_any}
use Rattle.wtp_fields.specs.FieldWriting.{is_alphanumeric}
use Rattle.wtp_messages.specs.Length.{is_digit}
use Rattle.wtp_messages.specs.Names.{is_some_text}

-- ---- bytes

-- the byte is unreserved or a sub-delimiter (RFC 3986, sections 2.2 and 2.3)
abbrev pub is_plain_byte : ℕ → Bool
is_plain_byte byte =
    is_alphanumeric byte || list_any (λ mark. mark == byte) (codes "-._~!$&'()*+,;=")

-- the byte is a hexadecimal digit
abbrev pub is_hex : ℕ → Bool
is_hex byte =
    is_digit byte || (nat_lt 64 byte && nat_lt byte 71) || (nat_lt 96 byte && nat_lt byte 103)

-- The byte is allowed between the brackets of an IP literal. Of an address of version 6 no more is
-- checked than that its bytes are hexadecimal digits, colons and dots; of one of a later version no
-- more than that, after the v, they are unreserved, sub-delimiters or colons.
abbrev pub is_literal_byte : Bool → ℕ → Bool
is_literal_byte true byte = is_plain_byte byte || byte == 58
is_literal_byte false byte = is_hex byte || byte == 58 || byte == 46

-- the byte is a v, which begins an address of a later version
abbrev pub is_v : ℕ → Bool
is_v byte = byte == 118 || byte == 86

-- ---- the grammar

-- a part of a name: a byte, or a percent-encoded one with its two digits (RFC 3986, section 2.1)
pub data Part : Type 0 where
  Plain : ℕ → Part
  Encoded : ℕ → ℕ → Part

-- A host: a registered name, which an address of version 4 is too by its bytes; an address of version
-- 6 in brackets; or one of a later version in brackets, of which this is what follows the v.
pub data Host : Type 0 where
  Name : Part → List Part → Host
  Version6 : ℕ → List ℕ → Host
  Later : ℕ → List ℕ → Host

-- with the digits of its port, if there is a colon
pub record Authority : Type 0 where
  pub host : Host
  pub port : Option (List ℕ)

abbrev pub part_then : Part → List ℕ → List ℕ
part_then (Plain byte) rest = byte ∷ rest
part_then (Encoded first second) rest = 37 ∷ first ∷ second ∷ rest

abbrev pub parts_then : List Part → List ℕ → List ℕ
parts_then [] rest = rest
parts_then (part ∷ parts) rest = part_then part (parts_then parts rest)

abbrev pub port_bytes : Option (List ℕ) → List ℕ
port_bytes None = []
port_bytes (Some digits) = 58 ∷ digits

abbrev pub host_then : Host → List ℕ → List ℕ
host_then (Name part parts) rest = part_then part (parts_then parts rest)
host_then (Version6 first others) rest = 91 ∷ first ∷ (others ++ 93 ∷ rest)
host_then (Later v others) rest = 91 ∷ v ∷ (others ++ 93 ∷ rest)

-- the bytes of an authority
abbrev pub written : Authority → List ℕ
written a = host_then a.host (port_bytes a.port)

abbrev pub ValidPart : Part → Type 0
ValidPart (Plain byte) = is_plain_byte byte ≡ true
ValidPart (Encoded first second) = (is_hex first ≡ true) × (is_hex second ≡ true)

abbrev pub ValidParts : List Part → Type 0
ValidParts [] = Unit {0}
ValidParts (part ∷ parts) = ValidPart part × ValidParts parts

abbrev pub ValidHost : Host → Type 0
ValidHost (Name part parts) = ValidPart part × ValidParts parts
ValidHost (Version6 first others) =
    (is_literal_byte false first ≡ true) × (list_all (is_literal_byte false) others ≡ true)
ValidHost (Later v others) =
    (is_v v ≡ true) × (list_all (is_literal_byte true) others ≡ true)

-- Where a port must be there, it has a digit (RFC 9110, section 9.3.6).
abbrev pub ValidPort : Bool → Option (List ℕ) → Type 0
ValidPort must None = must ≡ false
ValidPort must (Some digits) =
    (list_all is_digit digits ≡ true) × ((not must || is_some_text digits) ≡ true)

-- The text is an authority, with a port if there must be one. Its host is not empty (RFC 9110, section
-- 4.2.2).
pub record IsAuthority (must : Bool) (text : List ℕ) : Type 0 where
  pub authority : Authority
  pub host : ValidHost authority.host
  pub port : ValidPort must authority.port
  pub bytes : written authority ≡ text

-- ---- the same as a test

-- the text is the digits of a port
abbrev pub is_port : Bool → List ℕ → Bool
is_port must digits = list_all is_digit digits && (not must || is_some_text digits)

-- the text is what may follow a host
abbrev pub is_port_after : Bool → List ℕ → Bool
is_port_after must [] = not must
is_port_after must (first ∷ others) = first == 58 && is_port must others

-- the text begins with two hexadecimal digits
abbrev pub starts_with_hex : List ℕ → Bool
starts_with_hex (first ∷ second ∷ others) = is_hex first && is_hex second
starts_with_hex _ = false

-- the byte is allowed in a name, before these
abbrev pub is_name_byte : ℕ → List ℕ → Bool
is_name_byte byte others = is_plain_byte byte || (byte == 37 && starts_with_hex others)

-- the text is the rest of a name, and what may follow it
abbrev pub is_name_rest : Bool → List ℕ → Bool
is_name_rest must [] = not must
is_name_rest must (byte ∷ others) =
    if byte == 58 then is_port must others else
    is_name_byte byte others && is_name_rest must others

-- the text is the rest of an IP literal up to its bracket, and what may follow it
abbrev pub is_literal_rest : Bool → Bool → List ℕ → Bool
is_literal_rest later must [] = false
is_literal_rest later must (byte ∷ others) =
    if byte == 93 then is_port_after must others else
    is_literal_byte later byte && is_literal_rest later must others

-- the text is what follows the first bracket
abbrev pub is_literal : Bool → List ℕ → Bool
is_literal must [] = false
is_literal must (first ∷ others) =
    if is_v first then is_literal_rest true must others else
    is_literal_byte false first && is_literal_rest false must others

-- the text is an authority
abbrev pub is_authority : Bool → List ℕ → Bool
is_authority must [] = false
is_authority must (first ∷ others) =
    if first == 91 then is_literal must others else
    is_name_byte first others && is_name_rest must others
