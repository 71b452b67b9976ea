-- The bytes after the numbers at the start of bytes (RFC 9000, section 16).
use Rattle.std.specs.Prelude.{ℕ, List, Option, Some, None}
use Rattle.wtp_core.specs.Varint.{number_at}

-- the bytes after a number, or all bytes if there is none
abbrev pub past_some : List ℕ → Option (ℕ × List ℕ) → List ℕ
past_some bytes None = bytes
past_some bytes (Some number) = number.1

-- the bytes after the number at the start, or all bytes if it is incomplete
unfoldable pub past_number : List ℕ → List ℕ
past_number bytes = past_some bytes (number_at bytes)

-- the bytes after the first two numbers, as far as these are complete
abbrev pub past_two : List ℕ → List ℕ
past_two bytes = past_number (past_number bytes)
