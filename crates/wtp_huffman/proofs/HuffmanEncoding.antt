-- The steps of the encoder over the waiting bits.
use Rattle.std.specs.Prelude.{OnErr}
use Rattle.std.proofs.Common.{Bool, Result, Ok, Err, List, [], drop, length-append, ap, append-nil, append_assoc, arith, get_or, length, refl, subst, suc, sym, take, ℕ, ◌%◌, ◌*◌, ◌++◌, ◌+◌, ◌-◌, ◌/◌, ◌<◌, ◌^◌, ◌∙◌, ◌∷◌, ◌≡◌, ◌≤◌}
use Rattle.std.proofs.Math.Nat.{mul-le-mul_right, mul-div_cancel, mul-mod_left}
use Rattle.std.proofs.Math.Seq.{take-append-add, take-append_seam}
use Rattle.std.proofs.lemmas.List.{drop_all, drop_more, take_more, take-append-drop}
use Rattle.std.proofs.lemmas.Nat.{mod_below, mod-pow-add, pow-add, pow_pos, shl_whole, shr_split}
use Rattle.std.specs.Int.{to_be_bytes, w64}
use Rattle.wtp_huffman.specs.Huffman.{AllOnes, IsBytes, IsPadding, bits_of, code, text_code, low_bits, word_of}
use Rattle.wtp_huffman.specs.HuffmanDecoding.{window_of}
use Rattle.wtp_huffman.specs.HuffmanEncoding.{Adds, AppendsHuffman, BeginsWith, GivesOut}
use Rattle.wtp_huffman.proofs.HuffmanBits.{be_bits_8, bits_append, bits_take, drop_low_bits, window_low_bits, low_bits_append, low_bits_cat, length_bits, low_bits_length, low_bits_mod, ones_bits}
use Rattle.wtp_huffman.proofs.HuffmanDecoding.{coded_append, coded_one}
use Rattle.wtp_huffman.proofs.HuffmanTable.{word_facts}

-- ---- bits after bits

-- a left shift keeps the low bits
shl_cut : (x b : ℕ) → b ≤ 64 → x * 2 ^ b % 18446744073709551616 ≡ (x % 2 ^ (64 - b)) * 2 ^ b
shl_cut x b h =
    let all : (64 - b) + b ≡ 64 = omega arith in
    ap (λ j. x * 2 ^ b % 2 ^ j) (sym all) ∙ mod-pow-add (x * 2 ^ b) (64 - b) b ∙ rw (mul-div_cancel x (pow_pos b), mul-mod_left x (2 ^ b)) (omega arith)

joined_fits : (a b x n : ℕ) → x < 2 ^ a → n < 2 ^ b → x * 2 ^ b + n < 2 ^ (a + b)
joined_fits a b x n h small =
    let p : (x + 1) * 2 ^ b ≤ 2 ^ a * 2 ^ b = mul-le-mul_right (2 ^ b) (omega arith) in
    rw (pow-add 2 a b) (omega arith)

-- the shifted bits plus the added ones fit in 64 bits
pub joined_below : (b x n : ℕ) → b ≤ 64 → n < 2 ^ b → x * 2 ^ b % 18446744073709551616 + n < 18446744073709551616
joined_below b x n h small =
    let all : (64 - b) + b ≡ 64 = omega arith in
    let below : x % 2 ^ (64 - b) < 2 ^ (64 - b) = mod_below x (2 ^ (64 - b)) (pow_pos (64 - b)) in
    let P : ℕ → Type 0 = λ j. (x % 2 ^ (64 - b)) * 2 ^ b + n < 2 ^ j in
    rw (shl_cut x b h) (subst P all (joined_fits (64 - b) b (x % 2 ^ (64 - b)) n below small))

pub joined_bits : (a b x n : ℕ) → a + b ≤ 64 → n < 2 ^ b → low_bits (a + b) (x * 2 ^ b % 18446744073709551616 + n) ≡ low_bits a x ++ low_bits b n
joined_bits a b x n h small =
    let k : ℕ = 64 - b in
    let y : ℕ = x % 2 ^ k in
    let same : low_bits a x ≡ low_bits a y = ap (low_bits a) (sym (shr_split x k)) ∙ low_bits_cat (x / 2 ^ k) k y a (omega arith) in
    rw (shl_cut x b (omega arith)) (low_bits_append a b y n small ∙ ap (λ z. z ++ low_bits b n) (sym same))

pub joined_whole : (a b x n : ℕ) → a + b ≤ 64 → x < 2 ^ a → n < 2 ^ b → x * 2 ^ b % 18446744073709551616 + n < 2 ^ (a + b)
joined_whole a b x n h fits small = rw (shl_whole x a b 64 fits h) (joined_fits a b x n fits small)

-- ---- whole bytes of the waiting bits

-- the whole bytes of a left-aligned number, and the bits left over
whole_bits : (count x : ℕ) → count ≤ 64 → take (8 * (count / 8)) (bits_of (to_be_bytes w64 (x * 2 ^ (64 - count) % 18446744073709551616))) ++ low_bits (count % 8) x ≡ low_bits count x
whole_bits count x h =
    let k : ℕ = count / 8 in
    let r : ℕ = count % 8 in
    let f : ℕ = x * 2 ^ (64 - count) % 18446744073709551616 in
    let A : List Bool = low_bits (8 * k) (x / 2 ^ r) in
    let total : count + (64 - count) ≡ 64 = omega arith in
    let parts : 8 * k + r ≡ count = omega arith in
    let below : f < 2 ^ 64 = omega arith in
    let zeros : List Bool = low_bits (64 - count) 0 in
    let up : low_bits 64 f ≡ low_bits count x ++ zeros =
    ap (λ j. low_bits j f) (sym total) ∙ ap (low_bits (count + (64 - count))) (let e : f ≡ f + 0 = omega arith in e) ∙ joined_bits count (64 - count) x 0 (omega arith) (pow_pos (64 - count)) in
    let cut : low_bits count x ≡ A ++ low_bits r x =
    ap (λ j. low_bits j x) (sym parts) ∙ ap (low_bits (8 * k + r)) (sym (shr_split x r)) ∙ low_bits_append (8 * k) r (x / 2 ^ r) (x % 2 ^ r) (mod_below x (2 ^ r) (pow_pos r))
    ∙ ap (λ z. A ++ z) (sym (low_bits_mod r x)) in
    let bits : bits_of (to_be_bytes w64 f) ≡ A ++ (low_bits r x ++ zeros) = be_bits_8 f below ∙ up ∙ ap (λ z. z ++ zeros) cut ∙ append_assoc A (low_bits r x) zeros in
    let len : 8 * k ≡ length A = sym (low_bits_length (8 * k) (x / 2 ^ r)) in
    let first : take (8 * k) (bits_of (to_be_bytes w64 f)) ≡ A = ap (take (8 * k)) bits ∙ ap (λ j. take j (A ++ (low_bits r x ++ zeros))) len ∙ take-append_seam A (low_bits r x ++ zeros) in
    ap (λ z. z ++ low_bits r x) first ∙ sym cut

pub whole_out : (out : List ℕ) (count x n : ℕ) → count ≤ 64 → n ≡ length out + count / 8
    → GivesOut out count x (take n (out ++ to_be_bytes w64 (x * 2 ^ (64 - count) % 18446744073709551616))) (count % 8) x
whole_out out count x n h e =
    let bytes : List ℕ = to_be_bytes w64 (x * 2 ^ (64 - count) % 18446744073709551616) in
    let some : List ℕ = take (count / 8) bytes in
    let kept : take n (out ++ bytes) ≡ out ++ some = ap (λ j. take j (out ++ bytes)) e ∙ take-append-add out bytes (count / 8) in
    let bits : bits_of some ≡ take (8 * (count / 8)) (bits_of bytes) = bits_take (count / 8) bytes in
    record {
      same = ap (λ z. bits_of z ++ low_bits (count % 8) x) kept ∙ ap (λ z. z ++ low_bits (count % 8) x) (bits_append out some) ∙ append_assoc (bits_of out) (bits_of some) (low_bits (count % 8) x)
          ∙ ap (λ z. bits_of out ++ (z ++ low_bits (count % 8) x)) bits ∙ ap (λ z. bits_of out ++ z) (whole_bits count x h);
      few = mod_below count 8 (omega arith);
    }

-- ---- words

pub code_bits : (x bits number : ℕ) → bits ≡ (word_of x).bits → number ≡ (word_of x).number → low_bits bits number ≡ code x
unfolding code
code_bits x bits number eb en = rw (eb, en) refl

pub code_some : (x : ℕ) → x < 257 → 0 < (word_of x).bits
code_some x h = omega (arith, (word_facts x h).least)

pub coded_four : (s : List ℕ) → length s ≡ 4 → text_code s ≡ (code (get_or s 0 0) ++ code (get_or s 1 0)) ++ (code (get_or s 2 0) ++ code (get_or s 3 0))
unfolding text_code
coded_four [] h = absurd (omega arith)
coded_four (a ∷ []) h = absurd (omega arith)
coded_four (a ∷ b ∷ []) h = absurd (omega arith)
coded_four (a ∷ b ∷ c ∷ []) h = absurd (omega arith)
coded_four (a ∷ b ∷ c ∷ d ∷ []) h =
    ap (λ z. code a ++ (code b ++ (code c ++ z))) (append-nil (code d)) ∙ sym (append_assoc (code a) (code b) (code c ++ code d))
coded_four (a ∷ b ∷ c ∷ d ∷ e ∷ s) h = absurd (omega arith)

-- eight elements in two parts, and the remainder
pub eight_parts : (s four rest next behind : List ℕ) → four ≡ take 4 s → rest ≡ drop 4 s → next ≡ take 4 rest → behind ≡ drop 4 rest → s ≡ (four ++ next) ++ behind
eight_parts s four rest next behind ef er en eb =
    let front : s ≡ four ++ rest = rw (ef, er) (sym (take-append-drop 4 s)) in
    let back : rest ≡ next ++ behind = rw (en, eb) (sym (take-append-drop 4 rest)) in
    front ∙ ap (λ z. four ++ z) back ∙ sym (append_assoc four next behind)

pub coded_eight : (s four next behind : List ℕ) → s ≡ (four ++ next) ++ behind → text_code s ≡ (text_code four ++ text_code next) ++ text_code behind
coded_eight s four next behind e = ap text_code e ∙ coded_append (four ++ next) behind ∙ ap (λ z. z ++ text_code behind) (coded_append four next)

pub coded_more : (i : ℕ) (s : List ℕ) → i < length s → text_code (take (i + 1) s) ≡ text_code (take i s) ++ code (get_or s i 0)
coded_more i s lt = ap text_code (take_more s i 0 lt) ∙ coded_append (take i s) (get_or s i 0 ∷ []) ∙ ap (λ z. text_code (take i s) ++ z) (coded_one (get_or s i 0))

pub coded_next : (i : ℕ) (s : List ℕ) → i < length s → text_code (drop i s) ≡ code (get_or s i 0) ++ text_code (drop (i + 1) s)
unfolding text_code
coded_next i s lt = ap text_code (drop_more s i 0 lt)

-- ---- waiting bits, and bits added

pub adds_none : (out : List ℕ) (count waiting : ℕ) → count < 8 → Adds 8 (text_code []) out count waiting out count waiting
unfolding text_code
adds_none out count waiting few = record { same = ap (λ z. bits_of out ++ z) (sym (append-nil (low_bits count waiting))); few = few }

pub adds_joined : (more : List Bool) (out new : List ℕ) (count waiting many number left rest : ℕ) → low_bits many number ≡ low_bits count waiting ++ more
    → GivesOut out many number new left rest → Adds 8 more out count waiting new left rest
adds_joined more out new count waiting many number left rest e kept = record { same = kept.same ∙ ap (λ z. bits_of out ++ z) e; few = kept.few }

-- the old bits and the added ones together
together : (more behind : List Bool) (out : List ℕ) (count waiting : ℕ)
    → bits_of out ++ (low_bits count waiting ++ (more ++ behind)) ≡ (bits_of out ++ (low_bits count waiting ++ more)) ++ behind
together more behind out count waiting =
    ap (λ z. bits_of out ++ z) (sym (append_assoc (low_bits count waiting) more behind)) ∙ sym (append_assoc (bits_of out) (low_bits count waiting ++ more) behind)

pub goes_on : (limit : ℕ) (all more behind rest : List Bool) (out new : List ℕ) (count waiting left number : ℕ) → all ≡ bits_of out ++ (low_bits count waiting ++ rest) → rest ≡ more ++ behind
    → Adds limit more out count waiting new left number → all ≡ bits_of new ++ (low_bits left number ++ behind)
goes_on limit all more behind rest out new count waiting left number e cut added =
    e ∙ ap (λ z. bits_of out ++ (low_bits count waiting ++ z)) cut ∙ together more behind out count waiting ∙ ap (λ z. z ++ behind) (sym added.same)
    ∙ append_assoc (bits_of new) (low_bits left number) behind

pub adds_both : (more behind : List Bool) (old out new : List ℕ) (count waiting few some left rest : ℕ) → Adds 8 more old count waiting out few some → Adds 8 behind out few some new left rest
    → Adds 8 (more ++ behind) old count waiting new left rest
adds_both more behind old out new count waiting few some left rest first second =
    record {
      same = second.same ∙ sym (append_assoc (bits_of out) (low_bits few some) behind) ∙ ap (λ z. z ++ behind) first.same ∙ sym (together more behind old count waiting);
      few = second.few;
    }

-- ---- the end of the text

pub coded_none : (i : ℕ) (s : List ℕ) → length s ≤ i → text_code (drop i s) ≡ []
unfolding text_code
coded_none i s h = ap text_code (drop_all i s h)

-- no word is left: the waiting bits are appended
pub ended : (text : List Bool) (rest : List Bool) (pad : List Bool) (old out new : List ℕ) (count waiting : ℕ) → bits_of old ++ text ≡ bits_of out ++ (low_bits count waiting ++ rest) → rest ≡ []
    → bits_of new ≡ bits_of out ++ (low_bits count waiting ++ pad) → bits_of new ≡ bits_of old ++ (text ++ pad)
ended text rest pad old out new count waiting e none last =
    let whole : bits_of old ++ text ≡ bits_of out ++ low_bits count waiting = e ∙ ap (λ z. bits_of out ++ (low_bits count waiting ++ z)) none ∙ ap (λ z. bits_of out ++ z) (append-nil (low_bits count waiting)) in
    last ∙ sym (append_assoc (bits_of out) (low_bits count waiting) pad) ∙ ap (λ z. z ++ pad) (sym whole) ∙ append_assoc (bits_of old) text pad

pub IsBytes_from : (s : List ℕ) → ((i : ℕ) → get_or s i 0 < 256) → IsBytes s
IsBytes_from [] h = tt
IsBytes_from (x ∷ s) h = (h 0, IsBytes_from s (λ i. h (suc i)))

-- the last bits, padded with ones to a byte
pub last_out : (out new : List ℕ) (count waiting room ones many number left rest : ℕ) → count < 64 → room ≡ (64 - count) % 8 → ones ≡ 2 ^ room - 1
    → low_bits many number ≡ low_bits count waiting ++ low_bits room ones → many ≡ count + room → left ≡ many % 8 → GivesOut out many number new left rest
    → (pad : List Bool) × IsPadding pad × (bits_of new ≡ bits_of out ++ (low_bits count waiting ++ pad))
unfolding low_bits
last_out out new count waiting room ones many number left rest few er eo e em el kept =
    let none : left ≡ 0 = omega arith in
    let short : length (low_bits room ones) < 8 = omega (arith, low_bits_length room ones) in
    let all : AllOnes (low_bits room ones) = rw eo (ones_bits room) in
    let same : bits_of new ≡ bits_of new ++ low_bits left rest = sym (append-nil (bits_of new)) ∙ ap (λ n. bits_of new ++ low_bits n rest) (sym none) in
    (low_bits room ones, (short, all), same ∙ kept.same ∙ ap (λ z. bits_of out ++ z) e)

pub none_out : (out : List ℕ) (count waiting : ℕ) → count ≡ 0 → (pad : List Bool) × IsPadding pad × (bits_of out ≡ bits_of out ++ (low_bits count waiting ++ pad))
unfolding low_bits
none_out out count waiting none = ([], (omega arith, tt), sym (append-nil (bits_of out)) ∙ ap (λ n. bits_of out ++ (low_bits n waiting ++ [])) (sym none))

-- bytes whose bits begin with the bits of others begin with those bytes
pub appended : (text old out : List ℕ) (pad : List Bool) → IsBytes text → IsBytes old → IsBytes out → IsPadding pad → bits_of out ≡ bits_of old ++ (text_code text ++ pad) → AppendsHuffman text old out
unfolding bits_of
appended text [] out pad bytes are all p e = record { string = out; bytes = all; is_coded = (bytes, pad, p, e); appended = refl }
appended text (b ∷ old) [] pad bytes are all p e = absurd (omega (arith, ap length e, length-append (low_bits 8 b ++ bits_of old) (text_code text ++ pad), length-append (low_bits 8 b) (bits_of old), low_bits_length 8 b))
appended text (b ∷ old) (x ∷ out) pad bytes are all p e =
    let whole : low_bits 8 x ++ bits_of out ≡ low_bits 8 b ++ (bits_of old ++ (text_code text ++ pad)) = e ∙ append_assoc (low_bits 8 b) (bits_of old) (text_code text ++ pad) in
    let same : x ≡ b = sym (window_low_bits 8 x (bits_of out) all.0) ∙ ap (window_of 8) whole ∙ window_low_bits 8 b (bits_of old ++ (text_code text ++ pad)) are.0 in
    let rest : bits_of out ≡ bits_of old ++ (text_code text ++ pad) = sym (drop_low_bits 8 x (bits_of out)) ∙ ap (drop 8) whole ∙ drop_low_bits 8 b (bits_of old ++ (text_code text ++ pad)) in
    let later = appended text old out pad bytes are.1 all.1 p rest in
    record { string = later.string; bytes = later.bytes; is_coded = later.is_coded; appended = ap (λ z. z ∷ out) same ∙ ap (λ z. b ∷ z) later.appended }

-- ---- the earlier bytes are still at the start

pub begins_same : (old new : List ℕ) → new ≡ old → BeginsWith old new
begins_same old new e = record { more = []; is = e ∙ sym (append-nil old) }

pub begins_on : (old out new : List ℕ) → BeginsWith old out → BeginsWith out new → BeginsWith old new
begins_on old out new first second =
    record { more = first.more ++ second.more; is = second.is ∙ ap (λ z. z ++ second.more) first.is ∙ append_assoc old first.more second.more }

-- bytes are appended, then truncated to at least the old length
pub begins_cut : (old bytes : List ℕ) (n : ℕ) → length old ≤ n → BeginsWith old (take n (old ++ bytes))
begins_cut old bytes n h =
    let all : n ≡ length old + (n - length old) = omega arith in
    record { more = take (n - length old) bytes; is = ap (λ j. take j (old ++ bytes)) all ∙ take-append-add old bytes (n - length old) }

-- ---- the number of bytes

pub adds_length : (limit : ℕ) (more : List Bool) (old : List ℕ) (count waiting : ℕ) (new : List ℕ) (left rest : ℕ) → Adds limit more old count waiting new left rest
    → 8 * length new + left ≡ 8 * length old + count + length more
adds_length limit more old count waiting new left rest added =
    omega (arith, ap length added.same, length-append (bits_of new) (low_bits left rest), length_bits new, low_bits_length left rest, length-append (bits_of old) (low_bits count waiting ++ more), length_bits old, length-append (low_bits count waiting) more, low_bits_length count waiting)

pub whole_length : (all behind : List Bool) (old out : List ℕ) (count waiting : ℕ) → bits_of old ++ all ≡ bits_of out ++ (low_bits count waiting ++ behind)
    → 8 * length old + length all ≡ 8 * length out + count + length behind
whole_length all behind old out count waiting same =
    omega (arith, ap length same, length-append (bits_of old) all, length_bits old, length-append (bits_of out) (low_bits count waiting ++ behind), length_bits out, length-append (low_bits count waiting) behind, low_bits_length count waiting)

-- ---- where allocation may fail

pub on_err : {X E P : Type 0} (r : Result X E) → P → OnErr r P
on_err (Ok x) p = tt
on_err (Err e) p = p

pub err_by : {X E P Q : Type 0} (r : Result X E) → (P → Q) → OnErr r P → OnErr r Q
err_by (Ok x) f p = tt
err_by (Err e) f p = f p

pub eight_length : (all first second rest : List Bool) → all ≡ (first ++ second) ++ rest → length all ≡ length first + length second + length rest
eight_length all first second rest e = omega (arith, ap length e, length-append (first ++ second) rest, length-append first second)
