-- The hash of a text, word by word.
use Rattle.std.proofs.Common.{◌≡◌, ℕ, suc, ◌+◌, ◌-◌, ◌/◌, ◌<◌, ◌≤◌, List, ◌∷◌, length, take, drop, get_or, sym, ◌∙◌, ap, arith, length-drop}
use Rattle.std.specs.Int.{w64, from_le_bytes}
use Rattle.std.proofs.Math.Seq.{drop-cons}
use Rattle.std.proofs.Math.Numerals.{add-one}
use Rattle.wtp_dynamic_encoder.specs.Hashing.{mixed, pushed, word_of, hash_words}

pub word_more : (state word : ℕ) (rest front behind : List ℕ) → 8 ≤ length rest → front ≡ take 8 rest → behind ≡ drop 8 rest → word ≡ from_le_bytes w64 front
    → hash_words (length behind / 8) (mixed state word) behind ≡ hash_words (length rest / 8) state rest
word_more state word rest front behind some first second is =
    let long : length behind ≡ length rest - 8 = ap length second ∙ length-drop 8 rest in
    let count : length rest / 8 ≡ suc (length behind / 8) = omega arith in
    ap (λ (z : List ℕ). hash_words (length behind / 8) (mixed state word) z) second
    ∙ ap (λ (w : ℕ). hash_words (length behind / 8) (mixed state w) (drop 8 rest)) (is ∙ ap (from_le_bytes w64) first)
    ∙ ap (λ (n : ℕ). hash_words n state rest) (sym count)

pub words_end : (state : ℕ) (rest : List ℕ) → length rest < 8 → state ≡ hash_words (length rest / 8) state rest
words_end state rest few =
    let none : length rest / 8 ≡ 0 = omega arith in
    ap (λ (n : ℕ). hash_words n state rest) (sym none)

pub byte_more : (word byte i : ℕ) (rest : List ℕ) → i < length rest → byte ≡ get_or rest i byte → word_of (pushed word byte) (drop (i + 1) rest) ≡ word_of word (drop i rest)
byte_more word byte i rest within is =
    let cons : drop i rest ≡ byte ∷ drop (i + 1) rest = drop-cons rest i byte within ∙ ap (λ b. b ∷ drop (suc i) rest) (sym is) ∙ ap (λ n. byte ∷ drop n rest) (sym (add-one i)) in
    sym (ap (word_of word) cons)

pub ruleset hash_steps = (word_more, words_end, byte_more)
