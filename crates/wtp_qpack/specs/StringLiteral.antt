-- String literals (RFC 7541, section 5.2; RFC 9204, section 4.1.2).
use Rattle.std.specs.Prelude.{◌≡◌, ℕ, zero, suc, ◌+◌, ◌*◌, ◌/◌, ◌%◌, ◌^◌, ◌==◌, ◌<◌, ◌≤◌, nat_lt}
use Rattle.std.specs.Prelude.{nat_le, IsTrue}
use Rattle.std.specs.Prelude.{if◌then◌else◌, Bool, true, false, ◌&&◌, List, [], ◌∷◌, ◌++◌, length}
use Rattle.std.specs.Prelude.{take, drop, slice_index, Option, Some, None, option_map, Result, Ok}
use Rattle.std.specs.Prelude.{Err, IsUtf8}
use Rattle.std.specs.Bool.{MatchBool}
use Rattle.std.specs.Borrow.{Bor}
use Rattle.std.specs.Str.{is_utf8}
use Rattle.wtp_qpack.specs.declared.qpack.DecodingError.{DecodingError}
use Rattle.wtp_qpack.specs.declared.qpack.DecodingError.TheVariants.{UnexpectedFin, InvalidString}
use Rattle.wtp_qpack.specs.declared.qpack.string_literal.Texts.{Texts}
use Rattle.wtp_qpack.specs.declared.qpack.string_literal.Texts.TheVariants.{Octets, Utf8}
use Rattle.wtp_huffman.specs.Huffman.{code, text_code, coded_len, bits_of, IsHuffman}
use Rattle.wtp_huffman.specs.HuffmanDecoding.{window_of}
use Rattle.wtp_qpack.specs.Qpack.{◌>>=◌}
use Rattle.wtp_qpack.specs.Integer.{IsInt, integer_at, shortest_int}

-- the bit above a prefix of n bits: here the flag H
unfoldable pub flag_above : ℕ → List ℕ → Bool
flag_above n bytes = slice_index bytes 0 / 2 ^ n % 2 == 1

-- s is an encoding of the text t: an integer with prefix n gives the number of bytes after it, and
-- these are the text, in the Huffman code if the flag H is set. The text is UTF-8.
pub record IsString (n : ℕ) (t s : List ℕ) : Type 0 where
  pub size : List ℕ
  pub body : List ℕ
  pub parts : s ≡ size ++ body
  pub is_size : IsInt n (length body) size
  pub is_text : MatchBool (flag_above n size) (IsHuffman t body) (t ≡ body)
  pub utf8 : IsUtf8 t

-- ---- the text of Huffman text

abbrev pub same_bits : List Bool → List Bool → Bool
same_bits [] [] = true
same_bits [] (y ∷ ys) = false
same_bits (x ∷ xs) [] = false
same_bits (true ∷ xs) (true ∷ ys) = same_bits xs ys
same_bits (true ∷ xs) (false ∷ ys) = false
same_bits (false ∷ xs) (true ∷ ys) = false
same_bits (false ∷ xs) (false ∷ ys) = same_bits xs ys

abbrev pub all_ones : List Bool → Bool
all_ones [] = true
all_ones (b ∷ bs) = b && all_ones bs

-- the symbol below n whose code word these bits are
unfoldable pub symbol_below : ℕ → List Bool → Option ℕ
symbol_below zero word = None
symbol_below (suc n) word = if same_bits (code n) word then Some n else symbol_below n word

-- the result for a word: no word yet, so more bits; the end of the string, so no text; a byte, and
-- the text of the bits after it
abbrev pub by_word : Option ℕ → Option (List ℕ) → Option (List ℕ) → Option (List ℕ)
by_word None more others = more
by_word (Some x) more others = if x == 256 then None else option_map (λ t. x ∷ t) others

-- the text of code words and padding, if the bits seen are the start of a word
unfoldable pub text_of_bits : List Bool → List Bool → Option (List ℕ)
text_of_bits seen [] = if nat_lt (length seen) 8 && all_ones seen then Some [] else None
text_of_bits seen (b ∷ bs) =
    by_word (symbol_below 257 (seen ++ b ∷ []))
    (text_of_bits (seen ++ b ∷ []) bs)
    (text_of_bits [] bs)

-- the text that these bytes encode in the Huffman code, if there is one
unfoldable pub huffman_text : List ℕ → Option (List ℕ)
huffman_text s = text_of_bits [] (bits_of s)

-- ---- reading: the text and the bytes after it, or the first fault

abbrev pub or_invalid : Option (List ℕ) → Result (List ℕ) DecodingError
or_invalid None = Err InvalidString
or_invalid (Some t) = Ok t

-- the bytes, if they are UTF-8
unfoldable pub utf8_text : List ℕ → Result (List ℕ) DecodingError
utf8_text bytes = if is_utf8 bytes then Ok bytes else Err InvalidString

-- the bytes of a string, decoded if they are Huffman text
abbrev pub octets : Bool → List ℕ → Result (List ℕ) DecodingError
octets is_huffman body = if is_huffman then or_invalid (huffman_text body) else Ok body

-- the bytes, if they are one of these texts
abbrev pub checked : Texts → List ℕ → Result (List ℕ) DecodingError
checked Octets bytes = Ok bytes
checked Utf8 bytes = utf8_text bytes

-- the text of a string's bytes
abbrev pub text_of : Texts → Bool → List ℕ → Result (List ℕ) DecodingError
text_of texts is_huffman body = octets is_huffman body >>= checked texts

-- the string at the start, with its length in n bits, whose bytes are read by their flag H
abbrev pub string_by :
    {X : Type 0} → (Bool → List ℕ → Result X DecodingError) → ℕ → List ℕ
    → Result (X × List ℕ) DecodingError
string_by contents n bytes = do
  size ← integer_at n bytes
  if nat_lt (length size.1) size.0 then Err UnexpectedFin else do
    text ← contents (flag_above n bytes) (take size.0 size.1)
    Ok (text, drop size.0 size.1)

-- the string of one of these texts at the start
unfoldable pub string_in : Texts → ℕ → List ℕ → Result (List ℕ × List ℕ) DecodingError
string_in texts n bytes = string_by (text_of texts) n bytes

abbrev pub string_at : ℕ → List ℕ → Result (List ℕ × List ℕ) DecodingError
string_at = string_in Utf8

-- the same, whose text need not be UTF-8
abbrev pub octets_at : ℕ → List ℕ → Result (List ℕ × List ℕ) DecodingError
octets_at = string_in Octets

-- ---- reading into a room: Huffman text is decoded there, any other is where it is

-- what was read of a string's length is a length, and all the bytes that it announces follow
abbrev pub is_whole : Result (ℕ × List ℕ) DecodingError → Bool
is_whole (Ok size) = nat_le size.0 (length size.1)
is_whole (Err fault) = false

-- Huffman text is at the start, with its length in n bits: the flag H is set, and all of it is
-- there
abbrev pub is_coded : ℕ → List ℕ → Bool
is_coded n bytes = flag_above n bytes && is_whole (integer_at n bytes)

-- How the memory of a room changes, in bytes: not at all; or, if a text is decoded and the room has
-- less than `capacity` bytes, to at least these.
abbrev pub Grows : Bool → ℕ → ℕ → ℕ → Type 0
Grows is_coded capacity before after =
    (before ≤ after)
    × (before < after → IsTrue is_coded × (before < capacity) × (capacity ≤ after))

-- a text that is where it is, or else the text in the room
abbrev pub text_in : List ℕ → Option (Bor (List ℕ)) → List ℕ
text_in room None = room
text_in room (Some text) = text.now

abbrev pub seen_string : List ℕ → Option (Bor (List ℕ)) × Bor (List ℕ) → List ℕ × List ℕ
seen_string room string = (text_in room string.0, string.1.now)

-- ---- writing

-- the first k bytes of bits, filled with ones at the end
unfoldable pub filled_bytes : ℕ → List Bool → List ℕ
filled_bytes zero bits = []
filled_bytes (suc k) bits = window_of 8 bits ∷ filled_bytes k (drop 8 bits)

-- the text in the Huffman code
unfoldable pub huffman_bytes : List ℕ → List ℕ
huffman_bytes t = filled_bytes (coded_len t) (text_code t)

-- the text after its length, under the flags and H: in the Huffman code exactly if that has fewer
-- bytes
unfoldable pub encoded_string : ℕ → ℕ → List ℕ → List ℕ
encoded_string n flags t =
    let s = huffman_bytes t in
    if nat_lt (length s) (length t)
    then shortest_int n (flags * 2 + 1) (length s) ++ s
    else shortest_int n (flags * 2) (length t) ++ t
