-- The length of encoded texts.
use Rattle.std.proofs.Common.{◌≡◌, ℕ, ◌+◌, ◌<◌, List, [], ◌∷◌, ◌++◌, length, take, drop, get_or, ap, refl, sym, ◌∙◌, arith}
use Rattle.std.proofs.lemmas.List.{length-append, take_more, take-append-drop}
use Rattle.wtp_huffman.specs.Huffman.{word_of, code, text_code, coded_len, IsHuffman}
use Rattle.wtp_huffman.proofs.HuffmanBits.{length_bits}
use Rattle.wtp_huffman.proofs.HuffmanWords.{length_code}
use Rattle.wtp_huffman.proofs.HuffmanDecoding.{coded_append, coded_one}

-- one word more
pub coded_more : (text : List ℕ) (i : ℕ) → i < length text
    → length (text_code (take (i + 1) text)) ≡ length (text_code (take i text)) + (word_of (get_or text i 0)).bits
coded_more text i lt =
    let x : ℕ = get_or text i 0 in
    let cut : text_code (take (i + 1) text) ≡ text_code (take i text) ++ code x =
    ap text_code (take_more text i 0 lt) ∙ coded_append (take i text) (x ∷ []) ∙ ap (λ z. text_code (take i text) ++ z) (coded_one x) in
    omega (arith, ap length cut, length-append (text_code (take i text)) (code x), length_code x)

-- the code length of a text is the sum for its first i bytes and for the others
pub coded_split : (text : List ℕ) (i : ℕ) → length (text_code text) ≡ length (text_code (take i text)) + length (text_code (drop i text))
coded_split text i =
    let cut : text_code text ≡ text_code (take i text) ++ text_code (drop i text) = ap text_code (sym (take-append-drop i text)) ∙ coded_append (take i text) (drop i text) in
    omega (arith, ap length cut, length-append (text_code (take i text)) (text_code (drop i text)))

pub no_words : (text : List ℕ) → length text ≡ 0 → length (text_code text) ≡ 0
unfolding text_code
no_words [] h = refl
no_words (x ∷ xs) h = absurd (omega arith)

-- the length of an encoded text
pub huffman_length : (t s : List ℕ) → IsHuffman t s → length s ≡ coded_len t
huffman_length t s (bytes, pad, p, e) = omega (arith, ap length e, length-append (text_code t) pad, length_bits s, p.0)
