-- IDs of streams (RFC 9000, section 2.1) and of WebTransport sessions, and status codes (RFC 9110,
-- section 15).
use Rattle.std.specs.Prelude.{◌≡◌, ℕ, ◌%◌, ◌/◌, ◌≤◌, List}
use Rattle.std.specs.Str.Parse.{IsNumeral, digits_value, without_leading_plus}

-- the stream is bidirectional: the second lowest bit is 0
abbrev pub IsBidirectional : ℕ → Type 0
IsBidirectional id = id / 2 % 2 ≡ 0

-- the client opened the stream: the lowest bit is 0
abbrev pub IsClientInitiated : ℕ → Type 0
IsClientInitiated id = id % 2 ≡ 0

-- the stream is a session's: it is bidirectional and the client opened it, so both bits are 0
abbrev pub IsSession : ℕ → Type 0
IsSession id = id % 4 ≡ 0

-- the number is an HTTP status code
abbrev pub IsStatus : ℕ → Type 0
IsStatus code = (100 ≤ code) × (code ≤ 599)

-- the number that decimal digits after an optional plus sign denote
abbrev pub status_in : List ℕ → ℕ
status_in text = digits_value 10 (without_leading_plus text)

-- the text is a status code: an optional plus sign and at least one decimal digit, with a value
-- from 100 to 599
abbrev pub IsStatusText : List ℕ → Type 0
IsStatusText text = IsNumeral 10 (without_leading_plus text) × IsStatus (status_in text)
