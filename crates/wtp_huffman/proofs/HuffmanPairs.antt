-- The one or two short words within twelve bits.
use Rattle.std.proofs.Common.{Bool, List, [], ap, append-nil, append_assoc, arith, cond, drop, inl, inr, length, nat_le, nat_lt, refl, subst, suc, sym, take, true, zero, ℕ, ◌&&◌, ◌%◌, ◌*◌, ◌++◌, ◌+◌, ◌-◌, ◌/◌, ◌<◌, ◌==◌, ◌^◌, ◌∙◌, ◌∷◌, ◌≡◌, ◌≤◌, ◌⊎◌}
use Rattle.std.proofs.Math.Nat.{div-div-eq-div-mul, mul-div_cancel, mul-le-mul_right, zero-add}
use Rattle.std.proofs.lemmas.Bool.{and_parts, eqb-true, leb-true, ltb-true}
use Rattle.std.proofs.lemmas.List.{drop-drop, length-append, length-drop}
use Rattle.std.proofs.lemmas.Nat.{div_below, le-div, mod_below, pow-add, pow_pos, shr_high, shr_split}
use Rattle.std.specs.Prelude.{slice_index}
use Rattle.wtp_huffman.specs.Huffman.{low_bits}
use Rattle.wtp_huffman.specs.HuffmanRows.{row_at, symbol_at}
use Rattle.wtp_huffman.specs.HuffmanShort.{short_bits_at, short_byte_at}
use Rattle.wtp_huffman.specs.HuffmanPairs.{pair_bits_at, pair_count_at, pair_first_at, pair_second_at}
use Rattle.wtp_huffman.specs.HuffmanDecoding.{Reads, ReadsAfter, Decodes, TellsAscii, waiting_bits, IsClear, IsWord, window_of, room}
use Rattle.wtp_huffman.specs.declared.huffman.pairs.TheConstants.{PAIRS}
use Rattle.wtp_huffman.proofs.Chosen.{chosen}
use Rattle.wtp_huffman.proofs.HuffmanBits.{window_below, window_low_bits, window_split, low_bits_append, low_bits_length}
use Rattle.wtp_huffman.proofs.HuffmanDecoding.{drop_held, reads_more, reads_on_after}
use Rattle.wtp_huffman.proofs.HuffmanTable.{row_facts, top_of}
use Rattle.wtp_huffman.proofs.HuffmanWindows.{moved_on, short_found}

-- ---- the table, entry by entry

-- the eight bits after a word of l bits within twelve bits, filled with zeros
abbrev pub after_word : ℕ → ℕ → ℕ
after_word i l = i % 2 ^ (12 - l) * 2 ^ l / 16

second_ok : ℕ → ℕ → ℕ → ℕ → Bool
second_ok j bits l second = nat_lt j 254 && ((bits == l + short_bits_at j) && (second == short_byte_at j))

pair_ok : ℕ → ℕ → ℕ → ℕ → Bool
pair_ok i bits count second =
    let l = short_bits_at (i / 16) in
    nat_le bits 12 && cond (count == 1) (bits == l) ((count == 2) && second_ok (after_word i l) bits l second)

entry_ok : ℕ → ℕ → Bool
entry_ok i e = (e / 256 % 256 == short_byte_at (i / 16)) && pair_ok i (e % 256) (2 - e / 16777216) (e / 65536 % 256)

pairs_ok : ℕ → List ℕ → Bool
pairs_ok i (e ∷ es) = entry_ok i e && pairs_ok (suc i) es
pairs_ok i [] = true

all_pairs : pairs_ok 0 PAIRS ≡ true
unfolding short_bits_at short_byte_at second_ok pair_ok entry_ok pairs_ok
all_pairs = refl

pub pairs_length : length PAIRS ≡ 4064
pairs_length = refl

pairs_ok_at : (i k : ℕ) (es : List ℕ) → pairs_ok i es ≡ true → k < length es → entry_ok (k + i) (slice_index es k) ≡ true
unfolding pairs_ok
pairs_ok_at i zero (e ∷ es) h lt = rw (zero-add i) (and_parts (entry_ok i e) _ h).0
pairs_ok_at i (suc k) (e ∷ es) h lt =
    let next = pairs_ok_at (suc i) k es (and_parts (entry_ok i e) _ h).1 (omega arith) in
    let same : k + suc i ≡ suc k + i = omega arith in
    rw same at next
pairs_ok_at i k [] h lt = absurd (omega arith)

-- ---- a word within the first m bits of a window is that of each window with these bits

pub same_word : (u v m bits symbol : ℕ) → IsWord v bits symbol → bits ≤ m → m ≤ 30 → u / 2 ^ (30 - m) ≡ v / 2 ^ (30 - m) → IsWord u bits symbol
same_word u v m bits symbol w few most same =
    let k : ℕ = w.row in
    let f = row_facts k w.in_row.below in
    let r : ℕ = room k in
    let parts : r ≡ (30 - m) + (m - bits) = omega (arith, w.bits_are) in
    let split : (x : ℕ) → x / 2 ^ r ≡ x / 2 ^ (30 - m) / 2 ^ (m - bits) = λ x. ap (λ j. x / 2 ^ j) parts ∙ ap (λ d. x / d) (pow-add 2 (30 - m) (m - bits)) ∙ sym (div-div-eq-div-mul x (2 ^ (30 - m)) (2 ^ (m - bits))) in
    let quotient : u / 2 ^ r ≡ v / 2 ^ r = split u ∙ ap (λ z. z / 2 ^ (m - bits)) same ∙ sym (split v) in
    let ge : (row_at k).first ≤ v / 2 ^ r = le-div (row_at k).first v (2 ^ r) (pow_pos r) w.in_row.low in
    let lt : v / 2 ^ r < top_of k = div_below v (2 ^ r) (top_of k) (pow_pos r) (omega (arith, w.in_row.high, f.ends)) in
    let q : ℕ = u / 2 ^ r in
    let whole : q * 2 ^ r + u % 2 ^ r ≡ u = shr_split u r in
    let rest : u % 2 ^ r < 2 ^ r = mod_below u (2 ^ r) (pow_pos r) in
    let low : (row_at k).first * 2 ^ r ≤ q * 2 ^ r = mul-le-mul_right (2 ^ r) (omega (arith, quotient)) in
    let high : (q + 1) * 2 ^ r ≤ top_of k * 2 ^ r = mul-le-mul_right (2 ^ r) (omega (arith, quotient)) in
    record {
      row = k;
      in_row = record { below = w.in_row.below; low = omega (arith, low, whole); high = omega (arith, high, whole, rest, f.ends) };
      bits_are = w.bits_are;
      symbol_is = w.symbol_is ∙ ap (λ z. symbol_at ((row_at k).skipped + (z - (row_at k).first))) (sym quotient);
      least = w.least;
      most = w.most;
      known = w.known;
    }

-- ---- the contents of an entry

-- the second word within twelve bits, after a first one of l bits
pub record Second (i l bits second : ℕ) : Type 0 where
  pub place : after_word i l < 254
  pub both : bits ≡ l + short_bits_at (after_word i l)
  pub byte : second ≡ short_byte_at (after_word i l)

second_facts : (i l bits second : ℕ) → second_ok (after_word i l) bits l second ≡ true → Second i l bits second
unfolding second_ok
second_facts i l bits second h =
    let j : ℕ = after_word i l in
    let p = and_parts (nat_lt j 254) ((bits == l + short_bits_at j) && (second == short_byte_at j)) h in
    let q = and_parts (bits == l + short_bits_at j) (second == short_byte_at j) p.1 in
    record { place = ltb-true j 254 p.0; both = eqb-true bits (l + short_bits_at j) q.0; byte = eqb-true second (short_byte_at j) q.1 }

pub record Entry (i bits count second : ℕ) : Type 0 where
  pub most : bits ≤ 12
  pub words : ((count ≡ 1) × (bits ≡ short_bits_at (i / 16))) ⊎ ((count ≡ 2) × Second i (short_bits_at (i / 16)) bits second)

entry_facts : (i bits count second : ℕ) → pair_ok i bits count second ≡ true → Entry i bits count second
unfolding pair_ok
entry_facts i bits count second h =
    let l : ℕ = short_bits_at (i / 16) in
    let two : Bool = (count == 2) && second_ok (after_word i l) bits l second in
    let p = and_parts (nat_le bits 12) (cond (count == 1) (bits == l) two) h in
    record {
      most = leb-true bits 12 p.0;
      words = elim (chosen (count == 1) (bits == l) two true p.1) [
        | inl one ↦ inl (eqb-true count 1 one.0, eqb-true bits l one.1)
        | inr more ↦
            let q = and_parts (count == 2) (second_ok (after_word i l) bits l second) more.1 in
            inr (eqb-true count 2 q.0, second_facts i l bits second q.1)
      ];
    }

entry_parts : (i e : ℕ) → entry_ok i e ≡ true → (e / 256 % 256 ≡ short_byte_at (i / 16)) × Entry i (e % 256) (2 - e / 16777216) (e / 65536 % 256)
unfolding entry_ok
entry_parts i e h =
    let p = and_parts (e / 256 % 256 == short_byte_at (i / 16)) (pair_ok i (e % 256) (2 - e / 16777216) (e / 65536 % 256)) h in
    (eqb-true (e / 256 % 256) (short_byte_at (i / 16)) p.0, entry_facts i (e % 256) (2 - e / 16777216) (e / 65536 % 256) p.1)

pub entry_at : (i : ℕ) → i < 4064 → (pair_first_at i ≡ short_byte_at (i / 16)) × Entry i (pair_bits_at i) (pair_count_at i) (pair_second_at i)
unfolding pair_bits_at pair_count_at pair_first_at pair_second_at
entry_at i h =
    let place : i + 0 ≡ i = omega arith in
    let ok = rw place at (pairs_ok_at 0 i PAIRS all_pairs (rw pairs_length h)) in
    entry_parts i (slice_index PAIRS i) ok

-- ---- the words at the start of such bits

top_part : (a k b : ℕ) → b < 2 ^ k → (a * 2 ^ k + b) % 2 ^ k ≡ b
top_part a k b small =
    let whole : (a * 2 ^ k + b) / 2 ^ k * 2 ^ k + (a * 2 ^ k + b) % 2 ^ k ≡ a * 2 ^ k + b = shr_split (a * 2 ^ k + b) k in
    omega (arith, rw (shr_high a k b small) at whole)

first_word : (bits : List Bool) (i : ℕ) → window_of 12 bits ≡ i → i < 4064 → IsWord (window_of 30 bits) (short_bits_at (i / 16)) (short_byte_at (i / 16))
first_word bits i e h =
    let v : ℕ = window_of 30 bits in
    let behind : ℕ = window_of 18 (drop 12 bits) in
    let split : v ≡ i * 262144 + behind = window_split 12 18 bits ∙ ap (λ n. n * 262144 + behind) e in
    let small : behind < 262144 = window_below 18 (drop 12 bits) in
    let place : v / 4194304 ≡ i / 16 = omega (arith, split, small) in
    rw place at (short_found v (omega (arith, split, small)))

second_word : (bits : List Bool) (i l : ℕ) → window_of 12 bits ≡ i → l ≤ 12 → after_word i l < 254 → l + short_bits_at (after_word i l) ≤ 12
    → IsWord (window_of 30 (drop l bits)) (short_bits_at (after_word i l)) (short_byte_at (after_word i l))
second_word bits i l e few place fits =
    let m : ℕ = 12 - l in
    let u : ℕ = window_of 30 (drop l bits) in
    let r : ℕ = i % 2 ^ m in
    let j : ℕ = after_word i l in
    let v : ℕ = r * 2 ^ (18 + l) in
    let all : l + m ≡ 12 = omega arith in
    let cut : i ≡ window_of l bits * 2 ^ m + window_of m (drop l bits) = sym e ∙ ap (λ k. window_of k bits) (sym all) ∙ window_split l m bits in
    let known : r ≡ window_of m (drop l bits) = ap (λ z. z % 2 ^ m) cut ∙ top_part (window_of l bits) m (window_of m (drop l bits)) (window_below m (drop l bits)) in
    let window : m + (18 + l) ≡ 30 = omega arith in
    let split : u ≡ r * 2 ^ (18 + l) + window_of (18 + l) (drop m (drop l bits)) =
    ap (λ k. window_of k (drop l bits)) (sym window) ∙ window_split m (18 + l) (drop l bits) ∙ ap (λ z. z * 2 ^ (18 + l) + window_of (18 + l) (drop m (drop l bits))) (sym known) in
    let behind : 30 - m ≡ 18 + l = omega arith in
    let same : u / 2 ^ (18 + l) ≡ v / 2 ^ (18 + l) = ap (λ z. z / 2 ^ (18 + l)) split
    ∙ shr_high r (18 + l) (window_of (18 + l) (drop m (drop l bits))) (window_below (18 + l) (drop m (drop l bits))) ∙ sym (mul-div_cancel r (pow_pos (18 + l))) in
    let parts : v ≡ r * 2 ^ l * 262144 = ap (λ d. r * d) (pow-add 2 18 l) ∙ grind arith in
    let at_j : v / 4194304 ≡ j = omega (arith, parts) in
    let word : IsWord v (short_bits_at j) (short_byte_at j) = rw at_j at (short_found v (omega (arith, at_j, place))) in
    same_word u v m (short_bits_at j) (short_byte_at j) word (omega (arith, fits)) (omega arith) (rw behind same)

-- ---- the words that the decoder takes

pub record Limits (i : ℕ) : Type 0 where
  pub least : 5 ≤ pair_bits_at i
  pub most : pair_bits_at i ≤ 12
  pub few : pair_count_at i ≤ 2
  pub some : 1 ≤ pair_count_at i
  pub each : 5 * pair_count_at i ≤ pair_bits_at i
  pub first : pair_first_at i ≡ short_byte_at (i / 16)

second_least : (i l bits second : ℕ) → Second i l bits second → 5 ≤ short_bits_at (after_word i l)
second_least i l bits second s =
    let j : ℕ = after_word i l in
    let v : ℕ = j * 4194304 in
    let place : v / 4194304 ≡ j = mul-div_cancel j (omega arith) in
    let word = rw place at (short_found v (omega (arith, s.place))) in
    word.least

pub limits : (i : ℕ) → i < 4064 → Limits i
limits i h =
    let entry = (entry_at i h).1 in
    let v : ℕ = i * 4 * 65536 in
    let place : v / 4194304 ≡ i / 16 = omega arith in
    let word = rw place at (short_found v (omega arith)) in
    elim entry.words [
      | inl one ↦
          record { least = omega (arith, one.1, word.least); most = entry.most; few = omega (arith, one.0); some = omega (arith, one.0); each = omega (arith, one.0, one.1, word.least); first = (entry_at i h).0 }
      | inr two ↦
          let more = second_least i (short_bits_at (i / 16)) (pair_bits_at i) (pair_second_at i) two.1 in
          record {
            least = omega (arith, two.1.both, word.least);
            most = entry.most;
            few = omega (arith, two.0);
            some = omega (arith, two.0);
            each = omega (arith, two.0, two.1.both, word.least, more);
            first = (entry_at i h).0;
          }
    ]

pub reads_pair : (text out : List ℕ) (bits : List Bool) (i : ℕ) → Reads text out bits → window_of 12 bits ≡ i → i < 4064 → 12 ≤ length bits
    → short_byte_at (i / 16) < 256 → pair_second_at i < 256
    → Reads text (out ++ take (pair_count_at i) (short_byte_at (i / 16) ∷ pair_second_at i ∷ [])) (drop (pair_bits_at i) bits)
reads_pair text out bits i d e h long small small2 =
    let entry = (entry_at i h).1 in
    let l : ℕ = short_bits_at (i / 16) in
    let x : ℕ = short_byte_at (i / 16) in
    let y : ℕ = pair_second_at i in
    let P : ℕ → ℕ → Type 0 = λ n k. Reads text (out ++ take n (x ∷ y ∷ [])) (drop k bits) in
    let first = first_word bits i e h in
    elim entry.words [
      | inl one ↦
          let next : Reads text (out ++ x ∷ []) (drop l bits) = reads_more text out bits l x d first (omega (arith, one.1, entry.most)) small in
          rw (one.0, one.1) next
      | inr two ↦
          let j : ℕ = after_word i l in
          let fits : l + short_bits_at j ≤ 12 = omega (arith, two.1.both, entry.most) in
          let second = second_word bits i l e (omega (arith, fits)) two.1.place fits in
          let next : Reads text (out ++ x ∷ []) (drop l bits) = reads_more text out bits l x d first (omega (arith, fits)) small in
          let after = reads_more text (out ++ x ∷ []) (drop l bits) (short_bits_at j) (short_byte_at j) next second (omega (arith, fits, length-drop l bits)) (rw (sym two.1.byte) small2) in
          let both : (out ++ x ∷ []) ++ short_byte_at j ∷ [] ≡ out ++ x ∷ y ∷ [] = append_assoc out (x ∷ []) (short_byte_at j ∷ []) ∙ ap (λ z. out ++ x ∷ z ∷ []) (sym two.1.byte) in
          let place : drop (short_bits_at j) (drop l bits) ≡ drop (pair_bits_at i) bits = drop-drop (short_bits_at j) l bits ∙ ap (λ k. drop k bits) (sym two.1.both) in
          rw two.0 (subst (λ b. Reads text (out ++ x ∷ y ∷ []) b) place (subst (λ o. Reads text o (drop (short_bits_at j) (drop l bits))) both after))
    ]

-- the first twelve waiting bits
pub pair_window : (held w : ℕ) (behind : List Bool) → 12 ≤ held → held ≤ 64 → w < 2 ^ 64 → window_of 12 (waiting_bits held w ++ behind) ≡ w / 4503599627370496
pair_window held w behind h most small =
    let v : ℕ = w / 2 ^ (64 - held) in
    let m : ℕ = held - 12 in
    let x : ℕ = v / 2 ^ m in
    let total : 12 + m ≡ held = omega arith in
    let cut : low_bits held v ≡ low_bits 12 x ++ low_bits m (v % 2 ^ m) =
    ap (λ n. low_bits n v) (sym total) ∙ ap (low_bits (12 + m)) (sym (shr_split v m)) ∙ low_bits_append 12 m x (v % 2 ^ m) (mod_below v (2 ^ m) (pow_pos m)) in
    let places : (64 - held) + m ≡ 52 = omega arith in
    let top : x ≡ w / 4503599627370496 = div-div-eq-div-mul w (2 ^ (64 - held)) (2 ^ m) ∙ ap (λ d. w / d) (sym (pow-add 2 (64 - held) m) ∙ ap (λ n. 2 ^ n) places) in
    let fits : x < 4096 = omega (arith, top) in
    rw (cut, append_assoc (low_bits 12 x) (low_bits m (v % 2 ^ m)) behind) (window_low_bits 12 x (low_bits m (v % 2 ^ m) ++ behind) fits ∙ top)

pub takes_pair : (old : List ℕ) (is_ascii : Bool) (held w i : ℕ) → 12 ≤ held → held < 64 → w < 18302628885633695744 → IsClear held w → w / 4503599627370496 ≡ i
    → short_byte_at (i / 16) < 256 → pair_second_at i < 256
    → ((t : List ℕ) → TellsAscii is_ascii t → TellsAscii is_ascii (t ++ take (pair_count_at i) (short_byte_at (i / 16) ∷ pair_second_at i ∷ [])))
    → Decodes old is_ascii held w (old ++ take (pair_count_at i) (short_byte_at (i / 16) ∷ pair_second_at i ∷ [])) is_ascii (held - pair_bits_at i) (w * 2 ^ pair_bits_at i % 18446744073709551616)
takes_pair old is_ascii held w i enough few short clear e small small2 ascii =
    let h : i < 4064 = omega (arith, e) in
    let limit = limits i h in
    let v : ℕ = w / 2 ^ (64 - held) in
    let fits : pair_bits_at i ≤ held = omega (arith, limit.most) in
    let moved = moved_on (pair_bits_at i) held w fits (omega arith) clear in
    let more : List ℕ = take (pair_count_at i) (short_byte_at (i / 16) ∷ pair_second_at i ∷ []) in
    record {
      reads = λ front text behind d.
          let bits : List Bool = waiting_bits held w ++ behind in
          let long : 12 ≤ length bits = omega (arith, length-append (waiting_bits held w) behind, low_bits_length held v) in
          let place : drop (pair_bits_at i) bits ≡ low_bits (held - pair_bits_at i) v ++ behind = drop_held (pair_bits_at i) held v behind fits in
          reads_on_after more refl
          (λ out r. subst (λ b. Reads text (out ++ more) b) (place ∙ ap (λ b. b ++ behind) (sym moved.0))
          (reads_pair text out bits i r (pair_window held w behind enough (omega arith) (omega arith) ∙ e) h long small small2))
          ascii d;
      clear = moved.1;
      fewer = omega (arith, limit.least);
    }

pub takes_both : {a b c : List ℕ} {f g k : Bool} {held w held2 w2 left rest : ℕ} → Decodes a f held w b g held2 w2 → Decodes b g held2 w2 c k left rest → Decodes a f held w c k left rest
takes_both one two = record { reads = λ front text behind d. two.reads front text behind (one.reads front text behind d); clear = two.clear; fewer = omega (arith, one.fewer, two.fewer) }

-- the same, where no bits follow the waiting ones
pub takes_last : {old new : List ℕ} {was_ascii is_ascii : Bool} {held w left rest : ℕ} (front text : List ℕ) → Decodes old was_ascii held w new is_ascii left rest
    → ReadsAfter front text old was_ascii (waiting_bits held w) → ReadsAfter front text new is_ascii (waiting_bits left rest)
takes_last {old} {new} {was_ascii} {is_ascii} {held} {w} {left} {rest} front text step d =
    subst (λ b. ReadsAfter front text new is_ascii b) (append-nil (waiting_bits left rest)) (step.reads front text [] (subst (λ b. ReadsAfter front text old was_ascii b) (sym (append-nil (waiting_bits held w))) d))
