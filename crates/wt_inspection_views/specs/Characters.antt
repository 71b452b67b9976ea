-- Characters that are escaped, since a line that has them does not look like what it has.
use Rattle.std.specs.Prelude.{ℕ, Bool, ◌&&◌, ◌||◌, nat_le}
use Rattle.std.specs.Char.{is_control}

-- the character is one of these, from the first to the last
abbrev pub is_within : ℕ → ℕ → ℕ → Bool
is_within first last c = nat_le first c && nat_le c last

-- below U+1000: no-break space, soft hyphen, grapheme joiner, Arabic and Syriac format characters,
-- and the Arabic letter mark
abbrev pub is_low_invisible : ℕ → Bool
is_low_invisible c =
    is_within 0xa0 0xa0 c || (is_within 0xad 0xad c || (is_within 0x34f 0x34f c
    || (is_within 0x600 0x605 c || (is_within 0x61c 0x61c c || (is_within 0x6dd 0x6dd c
    || (is_within 0x70f 0x70f c || (is_within 0x890 0x891 c || is_within 0x8e2 0x8e2 c)))))))

-- from U+1000 to U+2FFF: Hangul fillers, Ogham space mark, Khmer inherent vowels, Mongolian
-- selectors, spaces, marks and overrides of direction, separators, joiners and other characters
-- without a width, and the empty Braille pattern
abbrev pub is_middle_invisible : ℕ → Bool
is_middle_invisible c =
    is_within 0x115f 0x1160 c || (is_within 0x1680 0x1680 c || (is_within 0x17b4 0x17b5 c
    || (is_within 0x180b 0x180f c || (is_within 0x2000 0x200f c || (is_within 0x2028 0x202f c
    || (is_within 0x205f 0x206f c || is_within 0x2800 0x2800 c))))))

-- from U+3000 to U+FFFF: ideographic space, Hangul fillers, variation selectors, byte order mark,
-- and annotation characters
abbrev pub is_high_invisible : ℕ → Bool
is_high_invisible c =
    is_within 0x3000 0x3000 c || (is_within 0x3164 0x3164 c || (is_within 0xfe00 0xfe0f c
    || (is_within 0xfeff 0xfeff c || (is_within 0xffa0 0xffa0 c || is_within 0xfff0 0xfffb c))))

-- above U+FFFF: format characters of Kaithi, hieroglyphs, shorthand and music, tags and further
-- variation selectors
abbrev pub is_last_invisible : ℕ → Bool
is_last_invisible c =
    is_within 0x110bd 0x110bd c || (is_within 0x110cd 0x110cd c || (is_within 0x13430 0x1343f c
    || (is_within 0x1bca0 0x1bca3 c || (is_within 0x1d173 0x1d17a c || is_within 0xe0000 0xe0fff c))))

-- a character without a form of its own, or one that changes the direction of text: the format
-- characters (Unicode's category Cf), separators and spaces (Zl, Zp, Zs), but not U+0020, and those
-- with the property Default_Ignorable_Code_Point
abbrev pub is_invisible : ℕ → Bool
is_invisible c =
    nat_le 128 c
    && (is_low_invisible c || (is_middle_invisible c || (is_high_invisible c || is_last_invisible c)))

-- the mark of lines, and characters that look like it: box drawing, block elements, geometric
-- shapes, heavy bars, and block elements of older computers
abbrev pub is_like_mark : ℕ → Bool
is_like_mark c =
    nat_le 128 c
    && (is_within 0x2500 0x25ff c || (is_within 0x2758 0x275a c || is_within 0x1fb00 0x1fbff c))

-- a character that is escaped in a line: a control character (Unicode's category Cc), an invisible
-- one, the mark of lines, or one that looks like it
abbrev pub needs_escape : ℕ → Bool
needs_escape c = is_control c || (is_invisible c || is_like_mark c)
