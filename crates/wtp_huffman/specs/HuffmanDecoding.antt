-- The state of decoding a Huffman-encoded text, and the windows that look up its words.
use Rattle.std.specs.Prelude.{◌≡◌, ℕ, zero, suc, ◌+◌, ◌-◌, ◌*◌, ◌/◌, ◌%◌, ◌^◌, ◌<◌, ◌≤◌}
use Rattle.std.specs.Prelude.{Bool, cond, List, [], ◌∷◌, ◌++◌}
use Rattle.std.specs.Bool.{MatchBool}
use Rattle.std.specs.Str.{IsAscii, IsNotAscii}
use Rattle.wtp_huffman.specs.Huffman.{bits_of, low_bits, text_code, IsBytes, IsCoded, IsHuffman}
use Rattle.wtp_huffman.specs.HuffmanRows.{row_at, symbol_at}

-- the flag is whether the text is ASCII
abbrev pub TellsAscii : Bool → List ℕ → Type 0
TellsAscii is_ascii t = MatchBool is_ascii (IsAscii t) (IsNotAscii t)

-- ---- windows

-- the first n bits as a number, with ones for bits past the end
unfoldable pub window_of : ℕ → List Bool → ℕ
window_of zero bits = 0
window_of (suc n) [] = 2 ^ n + window_of n []
window_of (suc n) (b ∷ bits) = cond b (2 ^ n) 0 + window_of n bits

-- how many of a window's 30 bits follow a word of row k
abbrev pub room : ℕ → ℕ
room k = 30 - (row_at k).bits

-- the window begins with a word of row k
pub record InRow (window k : ℕ) : Type 0 where
  pub below : k < 21
  pub low : (row_at k).first * 2 ^ room k ≤ window
  pub high : window < (row_at k).limit

-- the symbol of the word that a window in row k begins with
abbrev pub symbol_in : ℕ → ℕ → ℕ
symbol_in window k = symbol_at ((row_at k).skipped + (window / 2 ^ room k - (row_at k).first))

-- the window begins with the word of this symbol, which has this many bits
pub record IsWord (window bits symbol : ℕ) : Type 0 where
  pub row : ℕ
  pub in_row : InRow window row
  pub bits_are : bits ≡ (row_at row).bits
  pub symbol_is : symbol ≡ symbol_in window row
  pub least : 5 ≤ bits
  pub most : bits ≤ 30
  pub known : symbol < 257

-- ---- steps

-- The encoded text begins with the code words of out, and `bits` are its remainder. Each text with
-- this encoding begins with out, and the remainder of that text has the code `bits`.
pub record Reads (text out : List ℕ) (bits : List Bool) : Type 0 where
  pub bytes : IsBytes out
  pub so_far : bits_of text ≡ text_code out ++ bits
  pub each : (t : List ℕ) → IsHuffman t text
      → (u : List ℕ) × (t ≡ out ++ u) × IsCoded u bits

-- the bits waiting to be decoded: the highest `held` bits of a 64-bit number
abbrev pub waiting_bits : ℕ → ℕ → List Bool
waiting_bits held waiting = low_bits held (waiting / 2 ^ (64 - held))

-- the bits after the waiting ones are zero
abbrev pub IsClear : ℕ → ℕ → Type 0
IsClear held waiting = waiting % 2 ^ (64 - held) ≡ 0

-- out is front, followed by the bytes decoded so far from this encoded text; the flag is whether
-- these are ASCII
pub record ReadsAfter (front text out : List ℕ) (is_ascii : Bool) (bits : List Bool) : Type 0 where
  pub decoded : List ℕ
  pub appended : out ≡ front ++ decoded
  pub reads : Reads text decoded bits
  pub ascii : TellsAscii is_ascii decoded

-- Some of the waiting bits were decoded to the bytes appended, whatever bits follow the waiting
-- ones. The flags are whether the decoded text before and after is ASCII.
pub record Decodes (old : List ℕ) (was_ascii : Bool) (held waiting : ℕ)
    (new : List ℕ) (is_ascii : Bool) (left rest : ℕ) : Type 0 where
  pub reads : (front text : List ℕ) (behind : List Bool)
      → ReadsAfter front text old was_ascii (waiting_bits held waiting ++ behind)
      → ReadsAfter front text new is_ascii (waiting_bits left rest ++ behind)
  pub clear : IsClear left rest
  pub fewer : left < held

-- these waiting bits follow whole code words within the encoding of some text
abbrev pub IsCodedOn : ℕ → ℕ → Type 0
IsCodedOn held waiting =
    (s : List ℕ) × (out : List ℕ) × (t : List ℕ) × (behind : List Bool)
    × Reads s out (waiting_bits held waiting ++ behind) × IsHuffman t s

-- new is old, followed by the text that these bytes encode; the flag is whether that text is ASCII
pub record AppendsDecoded (bytes old : List ℕ) (is_ascii : Bool) (new : List ℕ) : Type 0 where
  pub text : List ℕ
  pub is_coded : IsHuffman text bytes
  pub appended : new ≡ old ++ text
  pub ascii : TellsAscii is_ascii text
