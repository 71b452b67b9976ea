-- Lines in colour, as a terminal shows them: escape sequences at the beginning and the end of lines.
use Rattle.std.specs.Prelude.{◌≡◌, ◌≢◌, ℕ, Bool, true, false, if◌then◌else◌, nat_eq, List, [], ◌∷◌, ◌++◌}
use Rattle.std.specs.Prelude.{Option, Some, None, codes}
use Rattle.std.specs.List.{flat_map}
use Rattle.wt_inspection_views.specs.Escaped.{line_count}
use Rattle.wt_inspection_views.specs.declared.painting.Style.{Style}
use Rattle.wt_inspection_views.specs.declared.painting.Style.TheVariants as style-is

-- the escape sequence of a style (ECMA-48, section 8.3.117): bold, cyan, yellow, blue or red
abbrev pub sequence_of : Style → List ℕ
sequence_of style-is.Plain = []
sequence_of style-is.Heading = 27 ∷ codes "[1m"
sequence_of style-is.Item = 27 ∷ codes "[36m"
sequence_of style-is.Warning = 27 ∷ codes "[33m"
sequence_of style-is.Hint = 27 ∷ codes "[34m"
sequence_of style-is.Fault = 27 ∷ codes "[31m"

-- the escape sequence that ends a style
abbrev pub reset_of : Style → List ℕ
reset_of style-is.Plain = []
reset_of other = 27 ∷ codes "[0m"

-- a line: its style and its words, which have no line feed
pub record StyledWords : Type 0 where
  pub style : Style
  pub words : List ℕ
  pub unbroken : line_count words ≡ 0

-- the line without colour
abbrev pub plain_line : StyledWords → List ℕ
plain_line line = line.words ++ codes "\n"

-- the line in colour
abbrev pub painted_line : StyledWords → List ℕ
painted_line line =
    sequence_of line.style ++ line.words ++ reset_of line.style ++ codes "\n"

-- the lines of a text were painted, each in a style
abbrev pub IsPainted : List ℕ → List ℕ → Type 0
IsPainted text painted =
    (lines : List StyledWords) × (text ≡ flat_map plain_line lines)
    × (painted ≡ flat_map painted_line lines)

-- the lines of a text were painted, and then words of one that has begun in this style
abbrev pub IsPaintedIn : List ℕ → Style → List ℕ → Type 0
IsPaintedIn text style painted =
    (before : List ℕ) × (words : List ℕ) × (held : List ℕ) × (text ≡ before ++ words)
    × (painted ≡ held ++ sequence_of style ++ words) × IsPainted before held
    × (line_count words ≡ 0)

-- the same, if the last byte of the text ends no line; otherwise its lines were painted
abbrev pub IsPaintedTo : List ℕ → Option Style → List ℕ → Type 0
IsPaintedTo text None painted = IsPainted text painted
IsPaintedTo text (Some style) painted =
    (rest : List ℕ) × (byte : ℕ) × (text ≡ rest ++ byte ∷ []) × (byte ≢ 10)
    × IsPaintedIn text style painted

-- bytes without escape sequences, each of which goes on to the next m; the flag says whether the bytes
-- begin within one
abbrev pub without_from : Bool → List ℕ → List ℕ
without_from true [] = []
without_from false [] = []
without_from true (byte ∷ bytes) =
    if nat_eq byte 109 then without_from false bytes else without_from true bytes
without_from false (byte ∷ bytes) =
    if nat_eq byte 27 then without_from true bytes else byte ∷ without_from false bytes

abbrev pub without_sequences : List ℕ → List ℕ
without_sequences bytes = without_from false bytes
