-- The shortest encoding is an encoding.
use Rattle.std.proofs.Common.{◌≡◌, ℕ, ◌+◌, ◌*◌, ◌^◌, ◌<◌, ◌≤◌, List, [], ◌∷◌, length, get_or, refl, arith, inl, inr}
use Rattle.std.specs.Int.{Width, w8, w16, w32, w64, byte_len, to_be_bytes}
use Rattle.std.proofs.lemmas.Bool.{cases_lt, lt-ltb, le-ltb}
use Rattle.std.proofs.lemmas.Nat.{from_be_bytes-to_be_bytes_2, from_be_bytes-to_be_bytes_4, from_be_bytes-to_be_bytes_8}
use Rattle.wtp_core.specs.Varint.{Encodes, width_of, value_of, shortest}

width8 : (b : ℕ) → b < 64 → width_of b ≡ w8
width8 b h = rw (lt-ltb b 64 h) refl

width16 : (b : ℕ) → 64 ≤ b → b < 128 → width_of b ≡ w16
width16 b l h = rw (le-ltb b 64 l, lt-ltb b 128 h) refl

width32 : (b : ℕ) → 128 ≤ b → b < 192 → width_of b ≡ w32
width32 b l h = rw (le-ltb b 64 (omega arith), le-ltb b 128 l, lt-ltb b 192 h) refl

width64 : (b : ℕ) → 192 ≤ b → width_of b ≡ w64
width64 b l = rw (le-ltb b 64 (omega arith), le-ltb b 128 (omega arith), le-ltb b 192 l) refl

-- bytes are an encoding if their number is the width that the first one gives
encoded : (w : Width) (v : ℕ) (s : List ℕ) → width_of (get_or s 0 0) ≡ w → length s ≡ byte_len w → v ≡ value_of w s → Encodes v s
encoded w v s first size value = record { size = rw first size; value = rw first value }

value8 : (v : ℕ) → v < 64 → v ≡ value_of w8 (v ∷ [])
unfolding value_of
value8 v h = omega arith

value16 : (v : ℕ) → v < 2 ^ 14 → v ≡ value_of w16 (to_be_bytes w16 (2 ^ 14 + v))
unfolding value_of
value16 v h = rw (from_be_bytes-to_be_bytes_2 (2 ^ 14 + v) (omega arith)) (omega arith)

value32 : (v : ℕ) → v < 2 ^ 30 → v ≡ value_of w32 (to_be_bytes w32 (2 * 2 ^ 30 + v))
unfolding value_of
value32 v h = rw (from_be_bytes-to_be_bytes_4 (2 * 2 ^ 30 + v) (omega arith)) (omega arith)

value64 : (v : ℕ) → v < 2 ^ 62 → v ≡ value_of w64 (to_be_bytes w64 (3 * 2 ^ 62 + v))
unfolding value_of
value64 v h = rw (from_be_bytes-to_be_bytes_8 (3 * 2 ^ 62 + v) (omega arith)) (omega arith)

pub shortest-encodes : (v : ℕ) → v < 2 ^ 62 → Encodes v (shortest v)
unfolding shortest
shortest-encodes v fits = elim (cases_lt v (2 ^ 6)) [
  | inl h ↦ rw (lt-ltb v (2 ^ 6) h) (encoded w8 v (v ∷ []) (width8 v h) refl (value8 v h))
  | inr h6 ↦ elim (cases_lt v (2 ^ 14)) [
    | inl h ↦ rw (le-ltb v (2 ^ 6) h6, lt-ltb v (2 ^ 14) h) (encoded w16 v (to_be_bytes w16 (2 ^ 14 + v)) (width16 (get_or (to_be_bytes w16 (2 ^ 14 + v)) 0 0) (omega arith) (omega arith)) refl (value16 v h))
    | inr h14 ↦ elim (cases_lt v (2 ^ 30)) [
      | inl h ↦ rw (le-ltb v (2 ^ 6) h6, le-ltb v (2 ^ 14) h14, lt-ltb v (2 ^ 30) h) (encoded w32 v (to_be_bytes w32 (2 * 2 ^ 30 + v)) (width32 (get_or (to_be_bytes w32 (2 * 2 ^ 30 + v)) 0 0) (omega arith) (omega arith)) refl (value32 v h))
      | inr h30 ↦ rw (le-ltb v (2 ^ 6) h6, le-ltb v (2 ^ 14) h14, le-ltb v (2 ^ 30) h30) (encoded w64 v (to_be_bytes w64 (3 * 2 ^ 62 + v)) (width64 (get_or (to_be_bytes w64 (3 * 2 ^ 62 + v)) 0 0) (omega arith)) refl (value64 v fits))
    ]
  ]
]
