-- Hashes of texts and fields. Equal texts have equal hashes; nothing else is promised of them.
use Rattle.std.specs.Prelude.{◌≡◌, ℕ, zero, suc, ◌+◌, ◌-◌, ◌*◌, ◌/◌, ◌%◌, ◌^◌, nat_lt, if◌then◌else◌, List, [], ◌∷◌, length, take, drop, bit_xor}
use Rattle.std.specs.Int.{w32, w64, rotate_left, from_le_bytes}
use Rattle.wtp_qpack.specs.Field.{Field}
use Rattle.wtp_dynamic_encoder.specs.declared.hash.Hashes.{Hashes}

-- a state after one more word
unfoldable pub mixed : ℕ → ℕ → ℕ
mixed state word = (bit_xor (rotate_left w64 state 5) word * 0x9e37_79b9_7f4a_7c15) % 2 ^ 64

-- a word of a few bytes
unfoldable pub pushed : ℕ → ℕ → ℕ
pushed word byte = (word * 256 % 2 ^ 64 + byte) % 2 ^ 64

abbrev pub word_of : ℕ → List ℕ → ℕ
word_of word [] = word
word_of word (b ∷ bs) = word_of (pushed word b) bs

-- the last eight bytes of a text, or all of a shorter one: its first four and its last four, or each
abbrev pub last_word : List ℕ → ℕ
last_word text =
    if nat_lt (length text) 4 then word_of 0 text
    else if nat_lt (length text) 8
    then from_le_bytes w32 (take 4 text) * 2 ^ 32 + from_le_bytes w32 (drop (length text - 4) text)
    else from_le_bytes w64 (drop (length text - 8) text)

-- the state after so many words of eight bytes
abbrev pub hash_words : ℕ → ℕ → List ℕ → ℕ
hash_words zero state bytes = state
hash_words (suc n) state bytes =
    hash_words n (mixed state (from_le_bytes w64 (take 8 bytes))) (drop 8 bytes)

unfoldable pub folded : ℕ → ℕ
folded state = bit_xor state (state / 2 ^ 32)

-- the hash of a text, from a seed
unfoldable pub hash_text : ℕ → List ℕ → ℕ
hash_text seed text =
    folded (mixed (hash_words (length text / 8) (mixed seed (length text)) text) (last_word text))

abbrev pub name_hash : Field → ℕ
name_hash field = hash_text 0 field.0

abbrev pub field_hash : Field → ℕ
field_hash field = hash_text (name_hash field) field.1

-- these are the hashes of a field
pub record AreHashes (hashes : Hashes) (entry : Field) : Type 0 where
  pub name : hashes.name ≡ name_hash entry
  pub field : hashes.field ≡ field_hash entry
