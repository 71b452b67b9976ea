-- The table of the one or two short words within twelve bits. Each entry has four bytes: the total
-- length of the words in bits, their bytes, and 2 minus their number.
use Rattle.std.specs.Prelude.{ℕ, ◌-◌, ◌/◌, ◌%◌, slice_index}
use Rattle.wtp_huffman.specs.declared.huffman.pairs.TheConstants.{PAIRS}

-- the byte of the first word
unfoldable pub pair_first_at : ℕ → ℕ
pair_first_at i = slice_index PAIRS i / 256 % 256

-- the byte of the second word, or 0 if there is none
unfoldable pub pair_second_at : ℕ → ℕ
pair_second_at i = slice_index PAIRS i / 65536 % 256

-- the total length of the words in bits
unfoldable pub pair_bits_at : ℕ → ℕ
pair_bits_at i = slice_index PAIRS i % 256

-- the number of words, 1 or 2
unfoldable pub pair_count_at : ℕ → ℕ
pair_count_at i = 2 - slice_index PAIRS i / 16777216
