-- The table of the Huffman code for header strings (RFC 7541, Appendix B), ordered by word length.
use Rattle.std.specs.Prelude.{ℕ, List, [], ◌∷◌, slice_index, slice_index_or}
use Rattle.wtp_huffman.specs.declared.huffman.rows.Row.{Row}
use Rattle.wtp_huffman.specs.declared.huffman.rows.TheConstants.{ROWS, SYMBOLS}

-- A word length in bits, and the symbols whose words have it, in increasing order. A symbol below
-- 256 is a byte; 256 is EOS.
pub record TableRow : Type 0 where
  pub bits : ℕ
  pub symbols : List ℕ

-- the table of Appendix B
unfoldable pub rows : List TableRow
rows =
    record { bits = 5; symbols = 48 ∷ 49 ∷ 50 ∷ 97 ∷ 99 ∷ 101 ∷ 105 ∷ 111 ∷ 115 ∷ 116 ∷ [] }
    ∷ record {
      bits = 6;
      symbols =
          32 ∷ 37 ∷ 45 ∷ 46 ∷ 47 ∷ 51 ∷ 52 ∷ 53 ∷ 54 ∷ 55 ∷ 56 ∷ 57 ∷ 61 ∷ 65 ∷ 95 ∷ 98 ∷ 100 ∷ 102
          ∷ 103 ∷ 104 ∷ 108 ∷ 109 ∷ 110 ∷ 112 ∷ 114 ∷ 117 ∷ [];
    }
    ∷ record {
      bits = 7;
      symbols =
          58 ∷ 66 ∷ 67 ∷ 68 ∷ 69 ∷ 70 ∷ 71 ∷ 72 ∷ 73 ∷ 74 ∷ 75 ∷ 76 ∷ 77 ∷ 78 ∷ 79 ∷ 80 ∷ 81 ∷ 82
          ∷ 83 ∷ 84 ∷ 85 ∷ 86 ∷ 87 ∷ 89 ∷ 106 ∷ 107 ∷ 113 ∷ 118 ∷ 119 ∷ 120 ∷ 121 ∷ 122 ∷ [];
    }
    ∷ record { bits = 8; symbols = 38 ∷ 42 ∷ 44 ∷ 59 ∷ 88 ∷ 90 ∷ [] }
    ∷ record { bits = 10; symbols = 33 ∷ 34 ∷ 40 ∷ 41 ∷ 63 ∷ [] }
    ∷ record { bits = 11; symbols = 39 ∷ 43 ∷ 124 ∷ [] }
    ∷ record { bits = 12; symbols = 35 ∷ 62 ∷ [] }
    ∷ record { bits = 13; symbols = 0 ∷ 36 ∷ 64 ∷ 91 ∷ 93 ∷ 126 ∷ [] }
    ∷ record { bits = 14; symbols = 94 ∷ 125 ∷ [] }
    ∷ record { bits = 15; symbols = 60 ∷ 96 ∷ 123 ∷ [] }
    ∷ record { bits = 19; symbols = 92 ∷ 195 ∷ 208 ∷ [] }
    ∷ record { bits = 20; symbols = 128 ∷ 130 ∷ 131 ∷ 162 ∷ 184 ∷ 194 ∷ 224 ∷ 226 ∷ [] }
    ∷ record {
      bits = 21;
      symbols =
          153 ∷ 161 ∷ 167 ∷ 172 ∷ 176 ∷ 177 ∷ 179 ∷ 209 ∷ 216 ∷ 217 ∷ 227 ∷ 229 ∷ 230 ∷ [];
    }
    ∷ record {
      bits = 22;
      symbols =
          129 ∷ 132 ∷ 133 ∷ 134 ∷ 136 ∷ 146 ∷ 154 ∷ 156 ∷ 160 ∷ 163 ∷ 164 ∷ 169 ∷ 170 ∷ 173 ∷ 178
          ∷ 181 ∷ 185 ∷ 186 ∷ 187 ∷ 189 ∷ 190 ∷ 196 ∷ 198 ∷ 228 ∷ 232 ∷ 233 ∷ [];
    }
    ∷ record {
      bits = 23;
      symbols =
          1 ∷ 135 ∷ 137 ∷ 138 ∷ 139 ∷ 140 ∷ 141 ∷ 143 ∷ 147 ∷ 149 ∷ 150 ∷ 151 ∷ 152 ∷ 155 ∷ 157
          ∷ 158 ∷ 165 ∷ 166 ∷ 168 ∷ 174 ∷ 175 ∷ 180 ∷ 182 ∷ 183 ∷ 188 ∷ 191 ∷ 197 ∷ 231 ∷ 239 ∷ [];
    }
    ∷ record {
      bits = 24;
      symbols =
          9 ∷ 142 ∷ 144 ∷ 145 ∷ 148 ∷ 159 ∷ 171 ∷ 206 ∷ 215 ∷ 225 ∷ 236 ∷ 237 ∷ [];
    }
    ∷ record { bits = 25; symbols = 199 ∷ 207 ∷ 234 ∷ 235 ∷ [] }
    ∷ record {
      bits = 26;
      symbols =
          192 ∷ 193 ∷ 200 ∷ 201 ∷ 202 ∷ 205 ∷ 210 ∷ 213 ∷ 218 ∷ 219 ∷ 238 ∷ 240 ∷ 242 ∷ 243 ∷ 255
          ∷ [];
    }
    ∷ record {
      bits = 27;
      symbols =
          203 ∷ 204 ∷ 211 ∷ 212 ∷ 214 ∷ 221 ∷ 222 ∷ 223 ∷ 241 ∷ 244 ∷ 245 ∷ 246 ∷ 247 ∷ 248 ∷ 250
          ∷ 251 ∷ 252 ∷ 253 ∷ 254 ∷ [];
    }
    ∷ record {
      bits = 28;
      symbols =
          2 ∷ 3 ∷ 4 ∷ 5 ∷ 6 ∷ 7 ∷ 8 ∷ 11 ∷ 12 ∷ 14 ∷ 15 ∷ 16 ∷ 17 ∷ 18 ∷ 19 ∷ 20 ∷ 21 ∷ 23 ∷ 24 ∷ 25
          ∷ 26 ∷ 27 ∷ 28 ∷ 29 ∷ 30 ∷ 31 ∷ 127 ∷ 220 ∷ 249 ∷ [];
    }
    ∷ record { bits = 30; symbols = 10 ∷ 13 ∷ 22 ∷ 256 ∷ [] }
    ∷ []

-- ---- the same table as constants: a row, and the symbols in the order of their words

-- the row returned past the end
abbrev pub no_row : Row
no_row = record { bits = 0; first = 0; skipped = 0; limit = 0 }

-- row k of the constants
unfoldable pub row_at : ℕ → Row
row_at k = slice_index_or ROWS k no_row

-- symbol i in the order of the words
unfoldable pub symbol_at : ℕ → ℕ
symbol_at i = slice_index SYMBOLS i
