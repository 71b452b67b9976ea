-- Field sections (RFC 9204, section 4.5).
use Rattle.std.specs.Prelude.{◌≡◌, ℕ, ◌<◌, zero, suc, List, [], ◌∷◌, length, Result, Ok}
use Rattle.std.specs.List.{flat_map}
use Rattle.wtp_qpack.specs.declared.qpack.DecodingError.{DecodingError}
use Rattle.wtp_qpack.specs.Field.{Field, field_map}
use Rattle.wtp_qpack.specs.Qpack.{◌>>=◌}
use Rattle.wtp_qpack.specs.Integer.{integer_at}
use Rattle.wtp_qpack.specs.FieldLine.{line_at, NeedsMemory, encoded_line, shortest_line}

-- The bytes after the prefix of a section (section 4.5.1): the Required Insert Count, an integer
-- with prefix 8, and the Delta Base, one with prefix 7. Both are ignored.
unfoldable pub after_prefix : List ℕ → Result (List ℕ) DecodingError
after_prefix bytes = do
  count ← integer_at 8 bytes
  base ← integer_at 7 count.1
  Ok base.1

-- the bytes start with these lines, one after the other, followed by the rest
abbrev pub AreLines : List ℕ → List Field → List ℕ → Type 0
AreLines bytes [] rest = bytes ≡ rest
AreLines bytes (line ∷ lines) rest =
    (others : List ℕ) × (line_at bytes ≡ Ok (line, others)) × AreLines others lines rest

-- a line begins after the prefix and valid lines
pub record ReachesLine (section : List ℕ) : Type 0 where
  pub lines : List ℕ
  pub fields : List Field
  pub rest : List ℕ
  pub prefix : after_prefix section ≡ Ok lines
  pub good : AreLines lines fields rest
  pub some : 0 < length rest

-- the line that begins there needs memory
pub record SectionNeedsMemory (section : List ℕ) : Type 0 where
  pub reached : ReachesLine section
  pub needs : NeedsMemory reached.rest

-- ---- reading

-- the lines until the end, at most n: each has at least one byte
unfoldable pub lines_at : ℕ → List ℕ → Result (List Field) DecodingError
lines_at n [] = Ok []
lines_at zero (b ∷ bs) = Ok []
lines_at (suc n) (b ∷ bs) = do
  line ← line_at (b ∷ bs)
  lines ← lines_at n line.1
  Ok (line.0 ∷ lines)

-- the lines of a section, or its first fault
unfoldable pub section_at : List ℕ → Result (List Field) DecodingError
section_at bytes = do
  lines ← after_prefix bytes
  lines_at (length lines) lines

-- the map of a section's lines
unfoldable pub map_at : List ℕ → Result (List Field) DecodingError
map_at bytes = section_at bytes >>= λ lines. Ok (field_map lines)

-- ---- writing

-- an empty prefix, and the line of each field in turn
unfoldable pub section_of : List Field → List ℕ
section_of fields = 0 ∷ 0 ∷ flat_map encoded_line fields

-- the same with the shortest lines: the section of a field list
unfoldable pub shortest_section : List Field → List ℕ
shortest_section fields = 0 ∷ 0 ∷ flat_map shortest_line fields
