-- The state of Huffman-encoding a text.
use Rattle.std.specs.Prelude.{◌≡◌, ℕ, ◌^◌, ◌<◌, Bool, List, ◌++◌}
use Rattle.wtp_huffman.specs.Huffman.{bits_of, low_bits, IsBytes, IsHuffman}

-- the bits are the lowest `count` bits of the number, which has no higher ones
abbrev pub IsNumberOf : List Bool → ℕ → ℕ → Type 0
IsNumberOf bits count number = (low_bits count number ≡ bits) × (number < 2 ^ count)

-- Whole bytes of the waiting bits were appended: bytes and waiting bits together are the same bits
-- before and after, and fewer than eight still wait. Higher bits of the waiting number are ignored.
pub record GivesOut (old : List ℕ) (count waiting : ℕ)
    (new : List ℕ) (left rest : ℕ) : Type 0 where
  pub same : bits_of new ++ low_bits left rest ≡ bits_of old ++ low_bits count waiting
  pub few : left < 8

-- the bits `more` were added: bytes and waiting bits together grew by them, and fewer than `limit`
-- bits still wait
pub record Adds (limit : ℕ) (more : List Bool) (old : List ℕ) (count waiting : ℕ)
    (new : List ℕ) (left rest : ℕ) : Type 0 where
  pub same : bits_of new ++ low_bits left rest ≡ bits_of old ++ (low_bits count waiting ++ more)
  pub few : left < limit

-- new is old, followed by the Huffman encoding of the text
pub record AppendsHuffman (text old new : List ℕ) : Type 0 where
  pub string : List ℕ
  pub bytes : IsBytes string
  pub is_coded : IsHuffman text string
  pub appended : new ≡ old ++ string

-- old is a prefix of new
pub record BeginsWith (old new : List ℕ) : Type 0 where
  pub more : List ℕ
  pub is : new ≡ old ++ more
