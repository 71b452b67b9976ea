-- Reading a number from its bytes.
use Rattle.std.proofs.Common.{◌≡◌, ℕ, ◌≤◌, List, [], ◌∷◌, length, take, drop, Some, None, slice_index, refl, ap, ◌∙◌, arith, length-drop}
use Rattle.std.proofs.lemmas.Bool.{lt-ltb, le-ltb}
use Rattle.wtp_core.specs.Varint.{number_at, width_of, value_of}
use Rattle.wtp_core.specs.VarintLenNeeded.{varint_len_needed, IsCutNumber}

pub number_at-cut : (bytes : List ℕ) → IsCutNumber bytes → number_at bytes ≡ None
unfolding number_at
number_at-cut bytes l = rw (lt-ltb (length bytes) (varint_len_needed bytes) l) refl

pub number_at-full : (bytes : List ℕ) → varint_len_needed bytes ≤ length bytes → (v : ℕ) × (number_at bytes ≡ Some (v, drop (varint_len_needed bytes) bytes))
unfolding number_at
number_at-full bytes l = (value_of (width_of (slice_index bytes 0)) (take (varint_len_needed bytes) bytes), rw (le-ltb (length bytes) (varint_len_needed bytes) l) refl)

pub drop_all : (n : ℕ) (bytes : List ℕ) → length bytes ≤ n → drop n bytes ≡ []
drop_all n bytes l = empty (drop n bytes) (omega (arith, length-drop n bytes))
  where
    empty : (s : List ℕ) → length s ≡ 0 → s ≡ []
    empty [] z = refl
    empty (b ∷ s) z = absurd (omega arith)

-- a complete encoding with no bytes after it is read
pub number_at-whole : (bytes : List ℕ) → varint_len_needed bytes ≡ length bytes → (v : ℕ) × (number_at bytes ≡ Some (v, []))
number_at-whole bytes e =
    let (v, is) = number_at-full bytes (omega arith) in
    (v, is ∙ ap (λ (x : List ℕ). Some (v, x)) (drop_all (varint_len_needed bytes) bytes (omega arith)))
