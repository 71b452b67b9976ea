-- The Huffman code for header strings (RFC 7541, section 5.2 and Appendix B).
use Rattle.std.specs.Prelude.{◌≡◌, ℕ, zero, suc, ◌+◌, ◌-◌, ◌*◌, ◌/◌, ◌%◌, ◌^◌, ◌<◌, ◌==◌, Bool}
use Rattle.std.specs.Prelude.{true, if◌then◌else◌, List, [], ◌∷◌, ◌++◌, length}
use Rattle.wtp_huffman.specs.HuffmanRows.{TableRow, rows}

-- ---- the code (Appendix B)

-- a code word: its length in bits, and the bits as a number
pub record Word : Type 0 where
  pub bits : ℕ
  pub number : ℕ

-- how many symbols of a row come before x; all of them if x is not in the row
abbrev pub rank : ℕ → List ℕ → ℕ
rank x [] = 0
rank x (y ∷ ys) = if x == y then 0 else suc (rank x ys)

-- The word of x in these rows. The code is canonical: the first word is 0, and each following one
-- is the previous word plus one, followed by zeros up to its own length. `next` is the last word of
-- the previous rows plus one, and `bits` its length.
abbrev pub word_in : ℕ → ℕ → ℕ → List TableRow → Word
word_in x bits next [] = record { bits = 0; number = 0 }
word_in x bits next (row ∷ others) =
    let first = next * 2 ^ (row.bits - bits) in
    if rank x row.symbols == length row.symbols
    then word_in x row.bits (first + length row.symbols) others
    else record { bits = row.bits; number = first + rank x row.symbols }

-- the code word of a symbol, as a length and a number
unfoldable pub word_of : ℕ → Word
word_of x = word_in x 0 0 rows

-- the lowest k bits of a number, most significant bit first
unfoldable pub low_bits : ℕ → ℕ → List Bool
low_bits zero n = []
low_bits (suc k) n = (n / 2 ^ k % 2 == 1) ∷ low_bits k n

-- the code word of a symbol, as bits
unfoldable pub code : ℕ → List Bool
code x = low_bits (word_of x).bits (word_of x).number

-- ---- texts (section 5.2)

-- the code of a text: the concatenated code words of its bytes
unfoldable pub text_code : List ℕ → List Bool
text_code [] = []
text_code (x ∷ xs) = code x ++ text_code xs

-- the bits of bytes, most significant bit first
unfoldable pub bits_of : List ℕ → List Bool
bits_of [] = []
bits_of (b ∷ bs) = low_bits 8 b ++ bits_of bs

-- all bits are ones
abbrev pub AllOnes : List Bool → Type 0
AllOnes [] = Unit {0}
AllOnes (b ∷ bs) = (b ≡ true) × AllOnes bs

-- The bits are valid padding: fewer than eight, all ones, a prefix of the word of EOS. Longer
-- padding and other bits are errors.
abbrev pub IsPadding : List Bool → Type 0
IsPadding pad = (length pad < 8) × AllOnes pad

-- all numbers are below 256
abbrev pub IsBytes : List ℕ → Type 0
IsBytes [] = Unit {0}
IsBytes (x ∷ xs) = (x < 256) × IsBytes xs

-- the bits are the code of the text, followed by padding
abbrev pub IsCoded : List ℕ → List Bool → Type 0
IsCoded t bits = IsBytes t × (pad : List Bool) × IsPadding pad × (bits ≡ text_code t ++ pad)

-- The bytes s are the Huffman encoding of the text t. EOS has a code word, but no text contains it.
abbrev pub IsHuffman : List ℕ → List ℕ → Type 0
IsHuffman t s = IsCoded t (bits_of s)

-- the length of a text's code in bytes, rounded up
abbrev pub coded_len : List ℕ → ℕ
coded_len t = (length (text_code t) + 7) / 8
