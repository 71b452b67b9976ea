-- Variable-length integers (RFC 9000, section 16).
use Rattle.std.specs.Prelude.{◌≡◌, ℕ, ◌+◌, ◌*◌, ◌-◌, ◌%◌, ◌^◌, List, [], ◌∷◌, Option, Some, None, length, take, drop, slice_index, nat_lt, if◌then◌else◌}
use Rattle.std.specs.Int.{Width, w8, w16, w32, w64, byte_len, from_be_bytes, to_be_bytes}

-- the width of an encoding, given by the two top bits of its first byte: 1, 2, 4 or 8 bytes for 0,
-- 1, 2 or 3
abbrev pub width_of : ℕ → Width
width_of first =
    if nat_lt first 64
    then w8
    else (if nat_lt first 128 then w16 else (if nat_lt first 192 then w32 else w64))

-- the big-endian value of the bytes without the two top bits
unfoldable pub value_of : Width → List ℕ → ℕ
value_of w bytes = from_be_bytes w bytes % 2 ^ (8 * byte_len w - 2)

-- s is an encoding of v: the two top bits of its first byte give its size, and the other bits are v
pub record Encodes (v : ℕ) (s : List ℕ) : Type 0 where
  pub size : length s ≡ byte_len (width_of (slice_index s 0))
  pub value : v ≡ value_of (width_of (slice_index s 0)) s

-- the shortest encoding of v
unfoldable pub shortest : ℕ → List ℕ
shortest v =
    if nat_lt v (2 ^ 6)
    then v ∷ []
    else (if nat_lt v (2 ^ 14)
    then to_be_bytes w16 (2 ^ 14 + v)
    else (if nat_lt v (2 ^ 30)
    then to_be_bytes w32 (2 * 2 ^ 30 + v)
    else to_be_bytes w64 (3 * 2 ^ 62 + v)))

-- ---- reading from the start of a list of bytes

-- the number encoded at the start of the bytes, and the bytes after its encoding; None if there are
-- too few bytes
unfoldable pub number_at : List ℕ → Option (ℕ × List ℕ)
number_at bytes =
    if nat_lt (length bytes) (byte_len (width_of (slice_index bytes 0)))
    then None
    else Some (
      value_of (width_of (slice_index bytes 0))
          (take (byte_len (width_of (slice_index bytes 0))) bytes),
      drop
          (byte_len (width_of (slice_index bytes 0))) bytes,
    )

-- the first n bytes, and the bytes after them; None if there are fewer
unfoldable pub bytes_at : ℕ → List ℕ → Option (List ℕ × List ℕ)
bytes_at n bytes = if nat_lt (length bytes) n then None else Some (take n bytes, drop n bytes)
