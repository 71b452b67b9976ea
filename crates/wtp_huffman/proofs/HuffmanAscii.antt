-- Whether a growing text is ASCII.
use Rattle.std.proofs.Common.{◌≡◌, ℕ, zero, suc, ◌/◌, ◌%◌, ◌<◌, ◌≤◌, Bool, true, false, List, [], ◌∷◌, ◌++◌, length, take, refl, arith, ◌&&◌, nat_lt, inl, inr}
use Rattle.std.proofs.lemmas.Bool.{and_parts, cases_lt, le-ltb, lt-ltb, ltb-true}
use Rattle.std.specs.Prelude.{slice_index}
use Rattle.std.specs.Str.{IsAscii, IsNotAscii}
use Rattle.wtp_huffman.specs.HuffmanPairs.{pair_first_at, pair_second_at}
use Rattle.wtp_huffman.specs.HuffmanDecoding.{TellsAscii}
use Rattle.wtp_huffman.specs.declared.huffman.pairs.TheConstants.{PAIRS}
use Rattle.wtp_huffman.proofs.HuffmanPairs.{pairs_length}

joined_ascii : (t more : List ℕ) → IsAscii t → IsAscii more → (i : ℕ) → slice_index (t ++ more) i < 128
joined_ascii [] more front behind i = behind i
joined_ascii (x ∷ t) more front behind zero = front zero
joined_ascii (x ∷ t) more front behind (suc i) = joined_ascii t more (λ k. front (suc k)) behind i

pub other_in_front : (t more : List ℕ) (i : ℕ) → 128 ≤ slice_index t i → IsNotAscii (t ++ more)
other_in_front [] more i high = absurd (omega (arith, high))
other_in_front (x ∷ t) more zero high = (zero, high)
other_in_front (x ∷ t) more (suc i) high = let next = other_in_front t more i high in (suc next.0, next.1)

other_after : (t more : List ℕ) → IsNotAscii more → IsNotAscii (t ++ more)
other_after [] more high = high
other_after (x ∷ t) more high = let next = other_after t more high in (suc next.0, next.1)

pub none_ascii : IsAscii []
none_ascii = λ i. omega arith

-- appending ASCII bytes does not change the flag
pub stays : (is_ascii : Bool) (t more : List ℕ) → IsAscii more → TellsAscii is_ascii t → TellsAscii is_ascii (t ++ more)
stays true t more ascii told = joined_ascii t more told ascii
stays false t more ascii told = other_in_front t more told.0 told.1

one_byte : (x : ℕ) → x < 128 → (i : ℕ) → slice_index (x ∷ []) i < 128
one_byte x small zero = small
one_byte x small (suc i) = omega arith

-- after an ASCII text, the appended byte decides
pub pushed : (x : ℕ) (t : List ℕ) → IsAscii t → TellsAscii (nat_lt x 128) (t ++ x ∷ [])
pushed x t told = elim (cases_lt x 128) [
  | inl small ↦ rw (lt-ltb x 128 small) (joined_ascii t (x ∷ []) told (one_byte x small))
  | inr high ↦ rw (le-ltb x 128 high) (other_after t (x ∷ []) (zero, high))
]

-- ---- the bytes of pairs

ascii_ok : List ℕ → Bool
ascii_ok (e ∷ es) = nat_lt (e / 256 % 256) 128 && (nat_lt (e / 65536 % 256) 128 && ascii_ok es)
ascii_ok [] = true

all_ascii : ascii_ok PAIRS ≡ true
unfolding ascii_ok
all_ascii = refl

ascii_at : (k : ℕ) (es : List ℕ) → ascii_ok es ≡ true → k < length es → (slice_index es k / 256 % 256 < 128) × (slice_index es k / 65536 % 256 < 128)
unfolding ascii_ok
ascii_at zero (e ∷ es) h lt =
    let p = and_parts (nat_lt (e / 256 % 256) 128) (nat_lt (e / 65536 % 256) 128 && ascii_ok es) h in
    let q = and_parts (nat_lt (e / 65536 % 256) 128) (ascii_ok es) p.1 in
    (ltb-true (e / 256 % 256) 128 p.0, ltb-true (e / 65536 % 256) 128 q.0)
ascii_at (suc k) (e ∷ es) h lt =
    let p = and_parts (nat_lt (e / 256 % 256) 128) (nat_lt (e / 65536 % 256) 128 && ascii_ok es) h in
    let q = and_parts (nat_lt (e / 65536 % 256) 128) (ascii_ok es) p.1 in
    ascii_at k es q.1 (omega arith)
ascii_at k [] h lt = absurd (omega arith)

two_bytes : (n x y : ℕ) → x < 128 → y < 128 → (i : ℕ) → slice_index (take n (x ∷ y ∷ [])) i < 128
two_bytes zero x y small small2 i = omega arith
two_bytes (suc zero) x y small small2 i = one_byte x small i
two_bytes (suc (suc n)) x y small small2 zero = small
two_bytes (suc (suc n)) x y small small2 (suc zero) = small2
two_bytes (suc (suc zero)) x y small small2 (suc (suc i)) = omega arith
two_bytes (suc (suc (suc n))) x y small small2 (suc (suc i)) = omega arith

pub pair_ascii : (n i : ℕ) → i < 4064 → IsAscii (take n (pair_first_at i ∷ pair_second_at i ∷ []))
unfolding pair_first_at pair_second_at
pair_ascii n i h =
    let both = ascii_at i PAIRS all_ascii (rw pairs_length h) in
    two_bytes n (slice_index PAIRS i / 256 % 256) (slice_index PAIRS i / 65536 % 256) both.0 both.1
