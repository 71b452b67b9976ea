-- The Huffman text of a string, as a function.
use Rattle.std.proofs.Common.{◌≡◌, ℕ, zero, suc, ◌+◌, ◌-◌, ◌*◌, ◌^◌, ◌<◌, ◌≤◌, inl, inr, Bool, true, false, cond, List, [], ◌∷◌, ◌++◌, length, take, drop, slice_set, refl, sym, ◌∙◌, ap, arith, subst, append_assoc, IsUtf8}
use Rattle.std.proofs.lemmas.Bool.{cases_lt, and_parts, lt-ltb, le-ltb}
use Rattle.std.proofs.lemmas.List.{length-append, length-drop}
use Rattle.std.proofs.Math.ListN.{drop_of_length-le}
use Rattle.std.proofs.Math.Seq.{set-append_seam, take-append_seam}
use lib.Utf8.{scalar, scalars, encode, encodes, scalar_cases}
use Rattle.wtp_huffman.specs.Huffman.{low_bits, bits_of, text_code, coded_len, AllOnes, IsPadding, IsBytes, IsHuffman}
use Rattle.wtp_huffman.specs.HuffmanDecoding.{window_of}
use Rattle.wtp_huffman.specs.HuffmanEncoding.{AppendsHuffman}
use Rattle.wtp_qpack.specs.Integer.{shortest_int}
use Rattle.wtp_qpack.specs.StringLiteral.{filled_bytes, huffman_bytes, encoded_string}
use Rattle.wtp_huffman.proofs.HuffmanBits.{window_below, low_bits_window, low_bits_length, ones_bits}
use Rattle.wtp_huffman.proofs.HuffmanLaws.{one_string}

-- ones after bits do not change their number
front_ones : (n : ℕ) (bs pad : List Bool) → AllOnes pad → window_of n (bs ++ pad) ≡ window_of n bs
unfolding window_of
front_ones zero bs pad h = refl
front_ones (suc n) [] [] h = refl
front_ones (suc n) [] (true ∷ pad) h = ap (λ z. 2 ^ n + z) (front_ones n [] pad h.1)
front_ones (suc n) [] (false ∷ pad) h = cc
front_ones (suc n) (b ∷ bs) pad h = ap (λ z. cond b (2 ^ n) 0 + z) (front_ones n bs pad h)

filled_are : (k : ℕ) (bits : List Bool) → IsBytes (filled_bytes k bits)
unfolding filled_bytes
filled_are zero bits = tt
filled_are (suc k) bits = (window_below 8 bits, filled_are k (drop 8 bits))

-- the last byte, of fewer than eight bits
last_filled : (bits : List Bool) → length bits < 8 → 0 < length bits → (pad : List Bool) × IsPadding pad × (low_bits 8 (window_of 8 bits) ++ [] ≡ bits ++ pad)
last_filled bits few some =
    let m : ℕ = 8 - length bits in
    let pad : List Bool = low_bits m (2 ^ m - 1) in
    let size : length pad ≡ m = low_bits_length m (2 ^ m - 1) in
    let whole : length (bits ++ pad) ≡ 8 = length-append bits pad ∙ omega (arith, size) in
    let read : low_bits 8 (window_of 8 (bits ++ pad)) ++ drop 8 (bits ++ pad) ≡ bits ++ pad = low_bits_window 8 (bits ++ pad) (omega (arith, whole)) in
    let gone : drop 8 (bits ++ pad) ≡ [] = drop_of_length-le (bits ++ pad) {i = 8} (omega (arith, whole)) in
    (pad, (omega (arith, size), ones_bits m), ap (λ z. low_bits 8 z ++ []) (sym (front_ones 8 bits pad (ones_bits m))) ∙ ap (λ z. low_bits 8 (window_of 8 (bits ++ pad)) ++ z) (sym gone) ∙ read)

filled_bits : (k : ℕ) (bits : List Bool) → length bits ≤ 8 * k → 8 * k < length bits + 8 → (pad : List Bool) × IsPadding pad × (bits_of (filled_bytes k bits) ≡ bits ++ pad)
unfolding filled_bytes bits_of
filled_bits zero [] few many = ([], (omega arith, tt), refl)
filled_bits zero (b ∷ bits) few many = absurd (omega arith)
filled_bits (suc k) bits few many = elim (cases_lt (length bits) 8) [
  | inr long ↦
      let size : length (drop 8 bits) ≡ length bits - 8 = length-drop 8 bits in
      let later = filled_bits k (drop 8 bits) (omega (arith, size)) (omega (arith, size)) in
      (later.0, later.1, ap (λ z. low_bits 8 (window_of 8 bits) ++ z) later.2 ∙ sym (append_assoc (low_bits 8 (window_of 8 bits)) (drop 8 bits) later.0) ∙ ap (λ z. z ++ later.0) (low_bits_window 8 bits long))
  | inl short ↦
      let none : k ≡ 0 = omega arith in
      let last = last_filled bits short (omega arith) in
      (last.0, last.1, ap (λ j. low_bits 8 (window_of 8 bits) ++ bits_of (filled_bytes j (drop 8 bits))) none ∙ last.2)
]

-- the text in the Huffman code is that of the relation
pub huffman_is : (t : List ℕ) → IsBytes t → IsHuffman t (huffman_bytes t)
unfolding huffman_bytes
huffman_is t are =
    let filled = filled_bits (coded_len t) (text_code t) (omega arith) (omega arith) in
    (are, filled.0, filled.1, filled.2)

pub huffman_same : (t s : List ℕ) → IsBytes s → IsHuffman t s → s ≡ huffman_bytes t
unfolding huffman_bytes
huffman_same t s are h = one_string s t (huffman_bytes t) are (filled_are (coded_len t) (text_code t)) h (huffman_is t h.0)

pub huffman_bytes_length : (t : List ℕ) → length (huffman_bytes t) ≡ coded_len t
unfolding huffman_bytes filled_bytes
huffman_bytes_length t = filled_length (coded_len t) (text_code t)
  where
    filled_length : (k : ℕ) (bits : List Bool) → length (filled_bytes k bits) ≡ k
    filled_length zero bits = refl
    filled_length (suc k) bits = omega (arith, filled_length k (drop 8 bits))

pub encoded_coded : (n flags : ℕ) (t : List ℕ) → coded_len t < length t → encoded_string n flags t ≡ shortest_int n (flags * 2 + 1) (coded_len t) ++ huffman_bytes t
unfolding encoded_string
encoded_coded n flags t less = rw (huffman_bytes_length t, lt-ltb (coded_len t) (length t) less) refl

pub encoded_raw : (n flags : ℕ) (t : List ℕ) → length t ≤ coded_len t → encoded_string n flags t ≡ shortest_int n (flags * 2) (length t) ++ t
unfolding encoded_string
encoded_raw n flags t more = rw (huffman_bytes_length t, le-ltb (coded_len t) (length t) more) refl

pub written_coded : (n flags size : ℕ) (t old one two : List ℕ) → (coded_len t < length t) × (size ≡ coded_len t)
    → one ≡ old ++ shortest_int n (flags * 2 + 1) size → AppendsHuffman t one two → two ≡ old ++ encoded_string n flags t
written_coded n flags size t old one two (less, e) first h =
    let body : h.string ≡ huffman_bytes t = huffman_same t h.string h.bytes h.is_coded in
    rw (encoded_coded n flags t less, h.appended, body, first, e) (append_assoc old (shortest_int n (flags * 2 + 1) (coded_len t)) (huffman_bytes t))

-- the code of a text after one byte, and the number of its bytes
after_byte : (t old one two : List ℕ) → one ≡ old ++ 0 ∷ [] → AppendsHuffman t one two → two ≡ old ++ 0 ∷ huffman_bytes t
after_byte t old one two first h =
    let body : h.string ≡ huffman_bytes t = huffman_same t h.string h.bytes h.is_coded in
    rw (h.appended, body, first) (append_assoc old (0 ∷ []) (huffman_bytes t))

counted : (t old two : List ℕ) (start size : ℕ) → two ≡ old ++ 0 ∷ huffman_bytes t → start ≡ length old → size ≡ length two - start - 1 → size ≡ coded_len t
counted t old two start size whole at e = omega (arith, e, at, ap length whole, length-append old (0 ∷ huffman_bytes t), huffman_bytes_length t)

-- the byte was set to the length of the code, which is shorter
pub written_after : (n flags start size byte : ℕ) (t old one two : List ℕ) → start ≡ length old → size ≡ length two - start - 1 → size < length t
    → one ≡ old ++ 0 ∷ [] → AppendsHuffman t one two → byte ∷ [] ≡ shortest_int n (flags * 2 + 1) size
    → slice_set two start byte ≡ old ++ encoded_string n flags t
written_after n flags start size byte t old one two at e less first h is_size =
    let whole : two ≡ old ++ 0 ∷ huffman_bytes t = after_byte t old one two first h in
    let all : size ≡ coded_len t = counted t old two start size whole at e in
    let replaced : slice_set two start byte ≡ old ++ byte ∷ huffman_bytes t = rw (whole, at) (set-append_seam old 0 (huffman_bytes t) byte) in
    let front : byte ∷ [] ≡ shortest_int n (flags * 2 + 1) (coded_len t) = rw all at is_size in
    rw (encoded_coded n flags t (omega (arith, less, all)), ← front) replaced

-- it was removed again, because the code is not shorter
pub taken_back : (start size : ℕ) (t old one two : List ℕ) → start ≡ length old → size ≡ length two - start - 1 → length t ≤ size
    → one ≡ old ++ 0 ∷ [] → AppendsHuffman t one two → (take start two ≡ old) × (length t ≤ coded_len t)
taken_back start size t old one two at e more first h =
    let whole : two ≡ old ++ 0 ∷ huffman_bytes t = after_byte t old one two first h in
    (rw (whole, at) (take-append_seam old (0 ∷ huffman_bytes t)), omega (arith, more, counted t old two start size whole at e))

-- ---- the bytes of UTF-8

small : (c : ℕ) → scalar c ≡ true → c < 1114112
small c e = elim (scalar_cases c e) [ inl low ↦ omega arith | inr high ↦ omega (arith, high.1) ]

char_bytes : (c : ℕ) → c < 1114112 → IsBytes (encode c)
unfolding encode
char_bytes c h = elim (cases_lt c 128) [
  | inl a ↦ rw (lt-ltb c 128 a) (omega arith, tt)
  | inr a ↦ elim (cases_lt c 2048) [
    | inl b ↦ rw (le-ltb c 128 a, lt-ltb c 2048 b) (omega arith, (omega arith, tt))
    | inr b ↦ elim (cases_lt c 65536) [
      | inl d ↦ rw (le-ltb c 128 a, le-ltb c 2048 b, lt-ltb c 65536 d) (omega arith, (omega arith, (omega arith, tt)))
      | inr d ↦ rw (le-ltb c 128 a, le-ltb c 2048 b, le-ltb c 65536 d) (omega arith, (omega arith, (omega arith, (omega arith, tt))))
    ]
  ]
]

bytes_cat : (a b : List ℕ) → IsBytes a → IsBytes b → IsBytes (a ++ b)
bytes_cat [] b h k = k
bytes_cat (x ∷ a) b h k = (h.0, bytes_cat a b h.1 k)

all_bytes : (cs : List ℕ) → scalars cs ≡ true → IsBytes (encodes cs)
all_bytes [] e = tt
all_bytes (c ∷ cs) e =
    let parts = and_parts (scalar c) (scalars cs) e in
    bytes_cat (encode c) (encodes cs) (char_bytes c (small c parts.0)) (all_bytes cs parts.1)

pub text_bytes : (t : List ℕ) → IsUtf8 t → IsBytes t
text_bytes t (cs, (ok, e)) = subst (λ z. IsBytes z) e (all_bytes cs ok)
