-- The code's tables agree with its definition, row by row.
use Rattle.std.proofs.Common.{Bool, List, [], arith, cond, inl, inr, nat_le, nat_lt, refl, suc, true, ℕ, ◌&&◌, ◌*◌, ◌+◌, ◌-◌, ◌/◌, ◌<◌, ◌==◌, ◌^◌, ◌∷◌, ◌≡◌, ◌≤◌}
use Rattle.std.proofs.lemmas.Bool.{and_parts, cases_order, eqb-true, leb-true, ltb-true}
use Rattle.std.proofs.lemmas.Nat.{div_below, le-div, pow_pos}
use Rattle.std.specs.Prelude.{slice_index_or}
use Rattle.wtp_huffman.specs.Huffman.{Word, word_of}
use Rattle.wtp_huffman.specs.HuffmanRows.{rows}
use Rattle.wtp_huffman.specs.HuffmanRows.{row_at, symbol_at}
use Rattle.wtp_huffman.specs.HuffmanDecoding.{InRow, IsWord, room, symbol_in}
use Rattle.wtp_huffman.specs.declared.huffman.codes.TheConstants.{CODES}
use Rattle.wtp_huffman.specs.declared.huffman.rows.Row.{Row}
use Rattle.wtp_huffman.specs.declared.huffman.rows.TheConstants.{ROWS}
use Rattle.wtp_huffman.proofs.Tables.{all_below, all_below_at}

-- ---- the rows: their lengths, and each ends where a symbol ends

abbrev pub top_of : ℕ → ℕ
top_of k = (row_at k).limit / 2 ^ room k

row_ok : ℕ → Bool
row_ok k = nat_le 5 (row_at k).bits && (nat_le (row_at k).bits 30 && ((row_at k).limit == top_of k * 2 ^ room k))

rows_ok : all_below row_ok 21 ≡ true
unfolding row_at row_ok
rows_ok = refl

-- ---- a symbol in a row has the word at its place

place_ok : ℕ → ℕ → Bool
place_ok k r =
    let x = symbol_at ((row_at k).skipped + r) in
    let w = word_of x in
    (w.bits == (row_at k).bits) && ((w.number == (row_at k).first + r)
    && (nat_lt ((row_at k).skipped + r) 257 && nat_lt x 257))

places_ok : ℕ → Bool
places_ok k = all_below (place_ok k) (top_of k - (row_at k).first)

all_places : all_below places_ok 21 ≡ true
unfolding row_at symbol_at word_of rows place_ok places_ok
all_places = refl

-- ---- each symbol is in a row

row_with : ℕ → ℕ → List Row → ℕ
row_with bits at [] = at
row_with bits at (r ∷ rs) = cond (r.bits == bits) at (row_with bits (suc at) rs)

row_of : ℕ → ℕ
row_of x = row_with (word_of x).bits 0 ROWS

symbol_ok : ℕ → Bool
symbol_ok x =
    let w = word_of x in
    let k = row_of x in
    nat_lt k 21 && ((w.bits == (row_at k).bits) && (nat_le (row_at k).first w.number && (nat_lt w.number (top_of k)
    && ((symbol_at ((row_at k).skipped + (w.number - (row_at k).first)) == x) && nat_lt w.number (2 ^ w.bits)))))

symbols_ok : all_below symbol_ok 257 ≡ true
unfolding row_at symbol_at word_of rows row_with row_of symbol_ok
symbols_ok = refl

-- ---- the rows do not meet

apart : ℕ → ℕ → Bool
apart k j = nat_le (row_at j).limit ((row_at k).first * 2 ^ room k)

all_apart : all_below (λ k. all_below (apart k) k) 21 ≡ true
unfolding row_at apart
all_apart = refl

-- ---- the facts

pub record RowFacts (k : ℕ) : Type 0 where
  pub least : 5 ≤ (row_at k).bits
  pub most : (row_at k).bits ≤ 30
  pub ends : (row_at k).limit ≡ top_of k * 2 ^ room k

pub row_facts : (k : ℕ) → k < 21 → RowFacts k
unfolding row_ok
row_facts k h =
    let p = and_parts (nat_le 5 (row_at k).bits) (nat_le (row_at k).bits 30 && ((row_at k).limit == top_of k * 2 ^ room k)) (all_below_at row_ok 21 k rows_ok h) in
    let q = and_parts (nat_le (row_at k).bits 30) ((row_at k).limit == top_of k * 2 ^ room k) p.1 in
    record { least = leb-true 5 (row_at k).bits p.0; most = leb-true (row_at k).bits 30 q.0; ends = eqb-true (row_at k).limit (top_of k * 2 ^ room k) q.1 }

-- facts about the symbol at rank r of row k
pub record PlaceFacts (k r : ℕ) : Type 0 where
  pub bits : (word_of (symbol_at ((row_at k).skipped + r))).bits ≡ (row_at k).bits
  pub number : (word_of (symbol_at ((row_at k).skipped + r))).number ≡ (row_at k).first + r
  pub place : (row_at k).skipped + r < 257
  pub symbol : symbol_at ((row_at k).skipped + r) < 257

pub place_facts : (k r : ℕ) → k < 21 → (row_at k).first + r < top_of k → PlaceFacts k r
unfolding place_ok places_ok
place_facts k r h lt =
    let ok : place_ok k r ≡ true = all_below_at (place_ok k) (top_of k - (row_at k).first) r (all_below_at places_ok 21 k all_places h) (omega arith) in
    let x : ℕ = symbol_at ((row_at k).skipped + r) in
    let p = and_parts ((word_of x).bits == (row_at k).bits) (((word_of x).number == (row_at k).first + r) && (nat_lt ((row_at k).skipped + r) 257 && nat_lt x 257)) ok in
    let q = and_parts ((word_of x).number == (row_at k).first + r) (nat_lt ((row_at k).skipped + r) 257 && nat_lt x 257) p.1 in
    let s = and_parts (nat_lt ((row_at k).skipped + r) 257) (nat_lt x 257) q.1 in
    record {
      bits = eqb-true (word_of x).bits (row_at k).bits p.0;
      number = eqb-true (word_of x).number ((row_at k).first + r) q.0;
      place = ltb-true ((row_at k).skipped + r) 257 s.0;
      symbol = ltb-true x 257 s.1;
    }

-- facts about the word that a window in row k finds
pub record Found (v k : ℕ) : Type 0 where
  pub rank : (row_at k).first ≤ v / 2 ^ room k
  pub facts : PlaceFacts k (v / 2 ^ room k - (row_at k).first)
  pub bits : (word_of (symbol_in v k)).bits ≡ (row_at k).bits
  pub number : (word_of (symbol_in v k)).number ≡ v / 2 ^ room k

pub found : (v k : ℕ) → InRow v k → Found v k
found v k h =
    let f = row_facts k h.below in
    let ge : (row_at k).first ≤ v / 2 ^ room k = le-div (row_at k).first v (2 ^ room k) (pow_pos (room k)) h.low in
    let high : v < top_of k * 2 ^ room k = omega (arith, h.high, f.ends) in
    let lt : v / 2 ^ room k < top_of k = div_below v (2 ^ room k) (top_of k) (pow_pos (room k)) high in
    let p : PlaceFacts k (v / 2 ^ room k - (row_at k).first) = place_facts k (v / 2 ^ room k - (row_at k).first) h.below (omega arith) in
    record { rank = ge; facts = p; bits = p.bits; number = omega (arith, p.number) }

-- facts about the row k of symbol x
pub record SymbolFacts (x k : ℕ) : Type 0 where
  pub below : k < 21
  pub bits : (word_of x).bits ≡ (row_at k).bits
  pub low : (row_at k).first ≤ (word_of x).number
  pub high : (word_of x).number < top_of k
  pub symbol : symbol_at ((row_at k).skipped + ((word_of x).number - (row_at k).first)) ≡ x
  pub fits : (word_of x).number < 2 ^ (word_of x).bits

pub symbol_facts : (x : ℕ) → x < 257 → (k : ℕ) × SymbolFacts x k
unfolding symbol_ok
symbol_facts x h =
    let k : ℕ = row_of x in
    let w : Word = word_of x in
    let p = and_parts (nat_lt k 21) ((w.bits == (row_at k).bits) && (nat_le (row_at k).first w.number && (nat_lt w.number (top_of k) && ((symbol_at ((row_at k).skipped + (w.number - (row_at k).first)) == x) && nat_lt w.number (2 ^ w.bits))))) (all_below_at symbol_ok 257 x symbols_ok h) in
    let q = and_parts (w.bits == (row_at k).bits) (nat_le (row_at k).first w.number && (nat_lt w.number (top_of k) && ((symbol_at ((row_at k).skipped + (w.number - (row_at k).first)) == x) && nat_lt w.number (2 ^ w.bits)))) p.1 in
    let s = and_parts (nat_le (row_at k).first w.number) (nat_lt w.number (top_of k) && ((symbol_at ((row_at k).skipped + (w.number - (row_at k).first)) == x) && nat_lt w.number (2 ^ w.bits))) q.1 in
    let t = and_parts (nat_lt w.number (top_of k)) ((symbol_at ((row_at k).skipped + (w.number - (row_at k).first)) == x) && nat_lt w.number (2 ^ w.bits)) s.1 in
    let u = and_parts (symbol_at ((row_at k).skipped + (w.number - (row_at k).first)) == x) (nat_lt w.number (2 ^ w.bits)) t.1 in (
      k,
      record {
        below = ltb-true k 21 p.0;
        bits = eqb-true w.bits (row_at k).bits q.0;
        low = leb-true (row_at k).first w.number s.0;
        high = ltb-true w.number (top_of k) t.0;
        symbol = eqb-true (symbol_at ((row_at k).skipped + (w.number - (row_at k).first))) x u.0;
        fits = ltb-true w.number (2 ^ w.bits) u.1;
      },
    )

-- no window is in two rows
pub one_row : (v j k : ℕ) → InRow v j → InRow v k → j ≡ k
unfolding apart
one_row v j k a b = elim (cases_order j k) [
  | inl same ↦ same
  | inr other ↦ elim other [
    | inl lt ↦
        let h : (row_at j).limit ≤ (row_at k).first * 2 ^ room k = leb-true (row_at j).limit ((row_at k).first * 2 ^ room k) (all_below_at (apart k) k j (all_below_at (λ i. all_below (apart i) i) 21 k all_apart b.below) lt) in
        absurd (omega (arith, a.high, b.low))
    | inr gt ↦
        let h : (row_at k).limit ≤ (row_at j).first * 2 ^ room j = leb-true (row_at k).limit ((row_at j).first * 2 ^ room j) (all_below_at (apart j) j k (all_below_at (λ i. all_below (apart i) i) 21 j all_apart a.below) gt) in
        absurd (omega (arith, b.high, a.low))
  ]
]

-- ---- the words by byte

abbrev pub no_code : ℕ × ℕ
no_code = (0, 0)

length_ok : ℕ → Bool
length_ok x = (slice_index_or CODES x no_code).0 == (word_of x).bits

lengths_ok : all_below length_ok 256 ≡ true
unfolding word_of rows length_ok
lengths_ok = refl

number_ok : ℕ → Bool
number_ok x = (slice_index_or CODES x no_code).1 == (word_of x).number

numbers_ok : all_below number_ok 256 ≡ true
unfolding word_of rows number_ok
numbers_ok = refl

pub length_at : (x : ℕ) → x < 256 → (slice_index_or CODES x no_code).0 ≡ (word_of x).bits
unfolding length_ok
length_at x h = eqb-true ((slice_index_or CODES x no_code).0) (word_of x).bits (all_below_at length_ok 256 x lengths_ok h)

pub number_at : (x : ℕ) → x < 256 → (slice_index_or CODES x no_code).1 ≡ (word_of x).number
unfolding number_ok
number_at x h = eqb-true ((slice_index_or CODES x no_code).1) (word_of x).number (all_below_at number_ok 256 x numbers_ok h)

-- facts about the word of x
pub record WordFacts (x : ℕ) : Type 0 where
  pub least : 5 ≤ (word_of x).bits
  pub most : (word_of x).bits ≤ 30
  pub fits : (word_of x).number < 2 ^ (word_of x).bits

pub word_facts : (x : ℕ) → x < 257 → WordFacts x
word_facts x h =
    let there = symbol_facts x h in
    let s = there.1 in
    let f = row_facts there.0 s.below in
    record { least = omega (arith, f.least, s.bits); most = omega (arith, f.most, s.bits); fits = s.fits }

-- the window of ones begins with the word of EOS
pub end_word : IsWord 1073741823 30 256
unfolding row_at symbol_at
end_word = record { row = 20; in_row = record { below = omega arith; low = omega arith; high = omega arith }; bits_are = refl; symbol_is = refl; least = omega arith; most = omega arith; known = omega arith }
