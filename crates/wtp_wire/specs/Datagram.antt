-- HTTP datagrams (RFC 9297, section 2.1).
use Rattle.std.specs.Prelude.{◌≡◌, ℕ, ◌^◌, ◌<◌, List, ◌++◌, nat_lt, if◌then◌else◌, Option, Some, None}
use Rattle.wtp_core.specs.Varint.{Encodes, shortest, number_at}

-- s is an encoding of a quarter stream ID below 2^60, followed by the payload
pub record IsDatagram (id : ℕ) (payload s : List ℕ) : Type 0 where
  pub head : List ℕ
  pub encoded : Encodes id head
  pub quarter : id < 2 ^ 60
  pub parts : s ≡ head ++ payload

-- ---- the same, computed

-- the number and the bytes after it, or None if the number is 2^60 or more
abbrev pub quarter_of : ℕ × List ℕ → Option (ℕ × List ℕ)
quarter_of found = if nat_lt found.0 (2 ^ 60) then Some found else None

-- the same for a number that may be missing
abbrev pub quarter_in : Option (ℕ × List ℕ) → Option (ℕ × List ℕ)
quarter_in None = None
quarter_in (Some found) = quarter_of found

-- the quarter stream ID and the payload of the datagram with these bytes, or None if it is
-- malformed
unfoldable pub datagram_in : List ℕ → Option (ℕ × List ℕ)
datagram_in bytes = quarter_in (number_at bytes)

-- the bytes of a written datagram, with its quarter stream ID in the shortest encoding
unfoldable pub datagram_wire : ℕ × List ℕ → List ℕ
datagram_wire d = shortest d.0 ++ d.1
