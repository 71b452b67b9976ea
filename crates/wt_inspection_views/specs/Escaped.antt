-- Bytes displayed within a line, and texts whose lines nothing of a peer can imitate.
use Rattle.std.specs.Prelude.{◌≡◌, ◌⊎◌, ℕ, ◌+◌, ◌/◌, ◌%◌, if◌then◌else◌, Bool, false, ◌&&◌, ◌||◌, not}
use Rattle.std.specs.Prelude.{List, [], ◌∷◌, ◌++◌, nat_eq, nat_lt, nat_le, count_by, codes}
use Rattle.std.specs.List.{flat_map, list_any}
use Rattle.std.specs.Str.{IsUtf8, NoCharPasses}
use Rattle.wt_inspection_views.specs.Characters.{needs_escape}

-- the character of a hexadecimal digit
abbrev pub digit_of : ℕ → ℕ
digit_of n = if nat_lt n 10 then 48 + n else 87 + n

-- the byte is printable ASCII other than a backslash
abbrev pub is_plain_byte : ℕ → Bool
is_plain_byte b = nat_le 32 b && nat_lt b 127 && not (nat_eq b 92)

-- the byte is not printable ASCII
abbrev pub is_other_byte : ℕ → Bool
is_other_byte b = nat_lt b 32 || nat_le 127 b

-- the escaped form of a byte: itself if it is plain, otherwise \xNN
abbrev pub escaped_byte : ℕ → List ℕ
escaped_byte b =
    if is_plain_byte b then b ∷ [] else codes "\\x" ++ digit_of (b / 16) ∷ digit_of (b % 16) ∷ []

-- the form of a byte in a name: as above, with a blank escaped too, so that a blank ends the name
abbrev pub name_byte : ℕ → List ℕ
name_byte b = if nat_eq b 32 then codes "\\x20" else escaped_byte b

-- the two hexadecimal digits of a byte
abbrev pub hex_byte : ℕ → List ℕ
hex_byte b = digit_of (b / 16) ∷ digit_of (b % 16) ∷ []

-- no byte is a backslash
abbrev pub HasNoBackslash : List ℕ → Type 0
HasNoBackslash bytes = list_any (λ b. nat_eq b 92) bytes ≡ false

-- the bytes are UTF-8 without characters that need an escape, and without backslashes
abbrev pub IsPlainText : List ℕ → Type 0
IsPlainText bytes = IsUtf8 bytes × NoCharPasses needs_escape bytes × HasNoBackslash bytes

-- the displayed form of bytes: the bytes themselves if they are plain text, otherwise each byte in
-- its escaped form
abbrev pub IsShown : List ℕ → List ℕ → Type 0
IsShown bytes shown =
    ((shown ≡ bytes) × IsPlainText bytes)
    ⊎ ((shown ≡ flat_map escaped_byte bytes) × ¬ (IsPlainText bytes))

-- the displayed form of these bytes was appended to a line
abbrev pub AddsShown : List ℕ → List ℕ → List ℕ → Type 0
AddsShown bytes old new = (shown : List ℕ) × IsShown bytes shown × (new ≡ old ++ shown)

-- of these bytes only the first were appended to a line
abbrev pub AppendsFront : List ℕ → List ℕ → List ℕ → Type 0
AppendsFront bytes old new =
    (front : List ℕ) × (rest : List ℕ) × (bytes ≡ front ++ rest) × (new ≡ old ++ front)

-- only the first bytes of the displayed form of these bytes were appended to a line
abbrev pub AddsFront : List ℕ → List ℕ → List ℕ → Type 0
AddsFront bytes old new =
    (shown : List ℕ) × IsShown bytes shown × AppendsFront shown old new

-- the displayed form of words in a line: the words themselves if no character of them needs an
-- escape, otherwise their form as displayed bytes
abbrev pub IsPlain : List ℕ → List ℕ → Type 0
IsPlain words plain =
    ((plain ≡ words) × NoCharPasses needs_escape words)
    ⊎ (IsShown words plain × ¬ (NoCharPasses needs_escape words))

-- the mark at the start of each line, which is U+258C and a blank, as UTF-8
abbrev pub line_mark : List ℕ
line_mark = 226 ∷ 150 ∷ 140 ∷ 32 ∷ []

-- a line with these words: the mark, the words, and a line feed
abbrev pub marked_line : List ℕ → List ℕ
marked_line plain = line_mark ++ plain ++ codes "\n"

-- the line has the displayed form of these words
abbrev pub IsLine : List ℕ → List ℕ → Type 0
IsLine words line = (plain : List ℕ) × IsPlain words plain × (line ≡ marked_line plain)

-- no character of the words of these lines needs an escape
abbrev pub ArePlain : List (List ℕ) → Type 0
ArePlain [] = Unit {0}
ArePlain (plain ∷ more) = NoCharPasses needs_escape plain × ArePlain more

-- the text is lines and nothing else: each begins with the mark and ends with a line feed, and the
-- mark, control characters and invisible ones occur nowhere else
abbrev pub AreLines : List ℕ → Type 0
AreLines text =
    (lines : List (List ℕ)) × (text ≡ flat_map marked_line lines) × ArePlain lines

-- a line with these words was appended to a text
abbrev pub AddsLine : List ℕ → List ℕ → List ℕ → Type 0
AddsLine words old new = (line : List ℕ) × IsLine words line × (new ≡ old ++ line)

-- the number of lines in a text, each ended by a line feed
abbrev pub line_count : List ℕ → ℕ
line_count = count_by (λ b. nat_eq b 10)
