-- The text of Huffman text, as a function and by the relation.
use Rattle.std.proofs.Common.{◌≡◌, ◌≢◌, ℕ, zero, suc, ◌+◌, ◌-◌, ◌<◌, ◌≤◌, ◌==◌, ◌⊎◌, inl, inr, nat_lt, Bool, true, false, cond, ◌&&◌, List, [], ◌∷◌, ◌++◌, length, take, refl, sym, ◌∙◌, ap, arith, append_assoc, append-nil, subst, Option, Some, None, option_map, eq-eqb}
use Rattle.std.proofs.lemmas.Bool.{cases_lt, lt-ltb, ltb-true, ne_eqb}
use Rattle.std.proofs.lemmas.List.{length-append, append_cancel_left}
use Rattle.std.proofs.Math.Seq.{take-append_seam, take-append-add}
use Rattle.wtp_huffman.specs.Huffman.{code, text_code, bits_of, AllOnes, IsCoded, IsHuffman}
use Rattle.wtp_huffman.specs.HuffmanDecoding.{window_of}
use Rattle.wtp_qpack.specs.StringLiteral.{same_bits, all_ones, symbol_below, by_word, text_of_bits, huffman_text}
use Rattle.wtp_huffman.proofs.HuffmanBits.{window_below}
use Rattle.wtp_huffman.proofs.HuffmanWords.{only_word}
use Rattle.wtp_huffman.proofs.HuffmanLaws.{row_exists, ones_long}
use Rattle.wtp_huffman.proofs.Chosen.{chosen}

from_same_bits : (xs ys : List Bool) → same_bits xs ys ≡ true → xs ≡ ys
from_same_bits [] [] e = refl
from_same_bits [] (y ∷ ys) e = cc
from_same_bits (x ∷ xs) [] e = cc
from_same_bits (true ∷ xs) (true ∷ ys) e = ap (λ z. true ∷ z) (from_same_bits xs ys e)
from_same_bits (true ∷ xs) (false ∷ ys) e = cc
from_same_bits (false ∷ xs) (true ∷ ys) e = cc
from_same_bits (false ∷ xs) (false ∷ ys) e = ap (λ z. false ∷ z) (from_same_bits xs ys e)

same_bits_refl : (xs : List Bool) → same_bits xs xs ≡ true
same_bits_refl [] = refl
same_bits_refl (true ∷ xs) = same_bits_refl xs
same_bits_refl (false ∷ xs) = same_bits_refl xs

ones_are : (bs : List Bool) → all_ones bs ≡ true → AllOnes bs
ones_are [] e = tt
ones_are (true ∷ bs) e = (refl, ones_are bs e)
ones_are (false ∷ bs) e = cc

ones_test : (bs : List Bool) → AllOnes bs → all_ones bs ≡ true
ones_test [] h = refl
ones_test (b ∷ bs) (e, h) = rw (e, ones_test bs h) refl

both : (a b : Bool) → (a && b) ≡ true → (a ≡ true) × (b ≡ true)
both true b e = (refl, e)
both false b e = cc

-- the word of these bits, or none
found_or : (n : ℕ) (w : List Bool) → ((x : ℕ) × (symbol_below n w ≡ Some x) × (x < n) × (code x ≡ w)) ⊎ ((symbol_below n w ≡ None) × ((x : ℕ) → x < n → code x ≢ w))
unfolding symbol_below
found_or zero w = inr (refl, λ x h e. absurd (omega arith))
found_or (suc n) w = elim (chosen (same_bits (code n) w) true false (same_bits (code n) w) (elim (same_bits (code n) w) as (λ b. cond b true false ≡ b) [ true ↦ refl | false ↦ refl ])) [
  | inl same ↦ inl (n, rw same.0 refl, omega arith, from_same_bits (code n) w same.0)
  | inr other ↦ elim (found_or n w) [
    | inl below ↦ inl (below.0, rw other.0 below.1, omega (arith, below.2), below.3)
    | inr none ↦ inr (
      rw other.0 none.0,
      λ x h e. elim (cases_lt x n) [
        | inl less ↦ none.1 x less e
        | inr top ↦
            let top_is : n ≡ x = omega arith in
            let eq : code n ≡ w = ap code top_is ∙ e in
            let equal : same_bits (code n) w ≡ true = ap (same_bits (code n)) (sym eq) ∙ same_bits_refl (code n) in
            cc (equal, other.0)
      ],
    )
  ]
]

-- two words at the start of the same bits are equal
same_word : (x y : ℕ) (more behind : List Bool) → x < 257 → y < 257 → code x ++ more ≡ code y ++ behind → x ≡ y
same_word x y more behind hx hy e =
    let there = row_exists (window_of 30 (code x ++ more)) (window_below 30 (code x ++ more)) in
    (only_word (code x ++ more) more there.0 x there.1 hx refl).0 ∙ sym (only_word (code x ++ more) behind there.0 y there.1 hy e).0

ones_front : (a b : List Bool) → AllOnes (a ++ b) → AllOnes a
ones_front [] b h = tt
ones_front (x ∷ a) b h = (h.0, ones_front a b h.1)

-- a coded text whose first word is known
coded_first : (t : List ℕ) (x : ℕ) (rest : List Bool) → x < 257 → IsCoded t (code x ++ rest) → (u : List ℕ) × (t ≡ x ∷ u) × (x < 256) × IsCoded u rest
unfolding text_code
coded_first [] x rest h (small, pad, p, e) =
    let ones : AllOnes (code x ++ rest) = rw e p.1 in
    absurd (omega (arith, ones_long x h (ones_front (code x) rest ones), ap length e, length-append (code x) rest, p.0))
coded_first (y ∷ u) x rest h (small, pad, p, e) =
    let split : code x ++ rest ≡ code y ++ (text_code u ++ pad) = e ∙ append_assoc (code y) (text_code u) pad in
    let same : x ≡ y = same_word x y rest (text_code u ++ pad) h (omega (arith, small.0)) split in
    let dropped : rest ≡ text_code u ++ pad = append_cancel_left (code x) rest (text_code u ++ pad) (split ∙ ap (λ z. code z ++ (text_code u ++ pad)) (sym same)) in
    (u, ap (λ z. z ∷ u) (sym same), rw same small.0, (small.1, pad, p, dropped))

-- no word is at the start of these bits
abbrev pub HasNoWord : List Bool → Type 0
HasNoWord seen = (x : ℕ) (more : List Bool) → x < 257 → seen ≡ code x ++ more → ⊥

pub code_some : (x : ℕ) → x < 257 → 0 < length (code x)
code_some x h = elim (cases_lt 0 (length (code x))) [
  | inl lt ↦ lt
  | inr none ↦ absurd (none_ones (code x) none (ones_long x h))
]
  where
    none_ones : (w : List Bool) → length w ≤ 0 → (AllOnes w → 8 ≤ length w) → ⊥
    none_ones [] small ones = omega (arith, ones tt)
    none_ones (b ∷ w) small ones = omega arith

no_word_none : HasNoWord []
no_word_none x more h e = omega (arith, code_some x h, ap length e, length-append (code x) more)

empty_from : (bits : List Bool) → length bits ≡ 0 → bits ≡ []
empty_from [] e = refl
empty_from (b ∷ bits) e = absurd (omega arith)

no_word_more : (seen : List Bool) (b : Bool) → HasNoWord seen → ((x : ℕ) → x < 257 → code x ≢ seen ++ b ∷ []) → HasNoWord (seen ++ b ∷ [])
no_word_more seen b none other x more h e =
    let w : List Bool = code x in
    let total : length seen + 1 ≡ length w + length more = sym (length-append seen (b ∷ [])) ∙ ap length e ∙ length-append w more in
    elim (cases_lt (length seen) (length w)) [
      | inl long ↦
          let nothing : more ≡ [] = empty_from more (omega arith) in
          other x h (sym (append-nil w) ∙ ap (λ z. w ++ z) (sym nothing) ∙ sym e)
      | inr short ↦
          let m : ℕ = length seen - length w in
          let size : length seen ≡ length w + m = omega arith in
          let front_l : take (length seen) (seen ++ b ∷ []) ≡ seen = take-append_seam seen (b ∷ []) in
          let front_w : take (length seen) (w ++ more) ≡ w ++ take m more = ap (λ k. take k (w ++ more)) size ∙ take-append-add w more m in
          none x (take m more) h (sym front_l ∙ ap (take (length seen)) e ∙ front_w)
    ]

by_word_some : (o : Option ℕ) (on behind : Option (List ℕ)) (t : List ℕ) → by_word o on behind ≡ Some t
    → ((o ≡ None) × (on ≡ Some t)) ⊎ ((x : ℕ) × (u : List ℕ) × (o ≡ Some x) × (x ≢ 256) × (behind ≡ Some u) × (t ≡ x ∷ u))
by_word_some None on behind t e = inl (refl, e)
by_word_some (Some x) on behind t e = elim (chosen (x == 256) None (option_map (λ t. x ∷ t) behind) (Some t) e) [
  | inl end ↦ cc end.1
  | inr go ↦
      let other : x ≢ 256 = λ same. cc (eq-eqb x 256 same, go.0) in
      inr (mapped behind go.1 other)
]
  where
    mapped : (behind : Option (List ℕ)) → option_map (λ t. x ∷ t) behind ≡ Some t → x ≢ 256 → (y : ℕ) × (u : List ℕ) × (Some x ≡ Some y) × (y ≢ 256) × (behind ≡ Some u) × (t ≡ y ∷ u)
    mapped None e other = cc e
    mapped (Some u) e other = (x, u, refl, other, refl, cc e)

pub from_found : (seen bs : List Bool) (t : List ℕ) → text_of_bits seen bs ≡ Some t → IsCoded t (seen ++ bs)
unfolding text_of_bits text_code
from_found seen [] t e = elim (chosen (nat_lt (length seen) 8 && all_ones seen) (Some []) None (Some t) e) [
  | inl good ↦
      let parts = both (nat_lt (length seen) 8) (all_ones seen) good.0 in
      let none : [] ≡ t = cc good.1 in
      let P : List ℕ → Type 0 = λ z. IsCoded z (seen ++ []) in
      subst P none (tt, seen, (ltb-true (length seen) 8 parts.0, ones_are seen parts.1), append-nil seen)
  | inr bad ↦ cc bad.1
]
from_found seen (b ∷ bs) t e = elim (by_word_some (symbol_below 257 (seen ++ b ∷ [])) (text_of_bits (seen ++ b ∷ []) bs) (text_of_bits [] bs) t e) [
  | inl on ↦
      let P : List Bool → Type 0 = λ z. IsCoded t z in
      subst P (append_assoc seen (b ∷ []) bs) (from_found (seen ++ b ∷ []) bs t on.1)
  | inr word ↦ elim (found_or 257 (seen ++ b ∷ [])) [
    | inr none ↦ cc (none.0, word.2)
    | inl there ↦
        let x : ℕ = word.0 in
        let u : List ℕ = word.1 in
        let same : there.0 ≡ x = cc (there.1, word.2) in
        let small : x < 256 = omega (arith, there.2, word.3) in
        let eq : code x ≡ seen ++ b ∷ [] = ap code (sym same) ∙ there.3 in
        let later = from_found [] bs u word.4 in
        let whole : seen ++ (b ∷ bs) ≡ (code x ++ text_code u) ++ later.1 = sym (append_assoc seen (b ∷ []) bs) ∙ ap (λ z. z ++ bs) (sym eq) ∙ ap (λ z. code x ++ z) later.3 ∙ sym (append_assoc (code x) (text_code u) later.1) in
        let P : List ℕ → Type 0 = λ z. IsCoded z (seen ++ (b ∷ bs)) in
        subst P (sym word.5) ((small, later.0), later.1, later.2, whole)
  ]
]

pub from_only : (seen bs : List Bool) (t : List ℕ) → HasNoWord seen → IsCoded t (seen ++ bs) → text_of_bits seen bs ≡ Some t
unfolding text_of_bits text_code
from_only seen [] [] none (small, pad, p, e) =
    let same : pad ≡ seen = sym e ∙ append-nil seen in
    rw (lt-ltb (length seen) 8 (omega (arith, ap length same, p.0)), ones_test seen (subst (λ z. AllOnes z) same p.1)) refl
from_only seen [] (y ∷ u) none (small, pad, p, e) = absurd (none y (text_code u ++ pad) (omega (arith, small.0)) (sym (append-nil seen) ∙ e ∙ append_assoc (code y) (text_code u) pad))
from_only seen (b ∷ bs) t none h = elim (found_or 257 (seen ++ b ∷ [])) [
  | inr other ↦
      let P : List Bool → Type 0 = λ z. IsCoded t z in
      rw other.0 (from_only (seen ++ b ∷ []) bs t (no_word_more seen b none other.1) (subst P (sym (append_assoc seen (b ∷ []) bs)) h))
  | inl there ↦
      let P : List Bool → Type 0 = λ z. IsCoded t z in
      let regrouped : seen ++ (b ∷ bs) ≡ code there.0 ++ bs = sym (append_assoc seen (b ∷ []) bs) ∙ ap (λ z. z ++ bs) (sym there.3) in
      let one = coded_first t there.0 bs there.2 (subst P regrouped h) in
      rw (there.1, ne_eqb there.0 256 (omega (arith, one.2)), from_only [] bs one.0 no_word_none one.3) (ap Some (sym one.1))
]

pub huffman_found : (t s : List ℕ) → huffman_text s ≡ Some t → IsHuffman t s
unfolding huffman_text
huffman_found t s e = from_found [] (bits_of s) t e

pub huffman_only : (t s : List ℕ) → IsHuffman t s → huffman_text s ≡ Some t
unfolding huffman_text
huffman_only t s h = from_only [] (bits_of s) t no_word_none h

-- no text
pub huffman_none : (s : List ℕ) → ((t : List ℕ) → IsHuffman t s → ⊥) → huffman_text s ≡ None
huffman_none s none = by_cases (huffman_text s) refl
  where
    by_cases : (o : Option (List ℕ)) → huffman_text s ≡ o → huffman_text s ≡ None
    by_cases None e = e
    by_cases (Some t) e = absurd (none t (huffman_found t s e))
