-- The size of an encoding, as far as its first bytes determine it (RFC 9000, section 16).
use Rattle.std.proofs.Common.{◌≡◌, ℕ, ◌<◌, ◌≤◌, List, [], ◌∷◌, ◌++◌, length, slice_index, refl, arith, inl, inr}
use Rattle.std.proofs.lemmas.Bool.{cases_lt, lt-ltb, le-ltb}
use Rattle.std.specs.Int.{byte_len}
use Rattle.wtp_core.specs.Varint.{width_of}

-- the minimum size of an encoding that starts with these bytes
abbrev pub varint_len_needed : List ℕ → ℕ
varint_len_needed bytes = byte_len (width_of (slice_index bytes 0))

-- the bytes are a proper prefix of an encoding
abbrev pub IsCutNumber : List ℕ → Type 0
IsCutNumber bytes = length bytes < varint_len_needed bytes

-- ---- facts for readers that continue from these bytes

pub byte_len_range : (b : ℕ) → (0 < byte_len (width_of b)) × (byte_len (width_of b) ≤ 8)
byte_len_range b = elim (cases_lt b 64) [
  | inl l ↦ rw (lt-ltb b 64 l) (omega arith, omega arith)
  | inr l ↦ elim (cases_lt b 128) [
    | inl m ↦ rw (le-ltb b 64 l, lt-ltb b 128 m) (omega arith, omega arith)
    | inr m ↦ elim (cases_lt b 192) [
      | inl n ↦ rw (le-ltb b 64 l, le-ltb b 128 m, lt-ltb b 192 n) (omega arith, omega arith)
      | inr n ↦ rw (le-ltb b 64 l, le-ltb b 128 m, le-ltb b 192 n) (omega arith, omega arith)
    ]
  ]
]

pub varint_need_range : (h : List ℕ) → (0 < varint_len_needed h) × (varint_len_needed h ≤ 8)
varint_need_range [] = (omega arith, omega arith)
varint_need_range (b ∷ h) = byte_len_range b

pub varint_need_most : (h : List ℕ) → varint_len_needed h ≤ 8
varint_need_most h = (varint_need_range h).1

pub varint_need_grows : (h t : List ℕ) → varint_len_needed h ≤ varint_len_needed (h ++ t)
varint_need_grows [] [] = omega arith
varint_need_grows [] (c ∷ t) = (byte_len_range c).0
varint_need_grows (b ∷ h) t = omega arith

pub varint_need_more :
    (h xs : List ℕ) → varint_len_needed h ≤ length h → varint_len_needed (h ++ xs) ≡ varint_len_needed h
varint_need_more [] xs l = absurd (omega arith)
varint_need_more (b ∷ h) xs l = refl
