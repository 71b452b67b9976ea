-- Lines of text or of JSON, some of which are not written yet.
use Rattle.std.specs.Prelude.{◌≡◌, ℕ, ◌+◌, Bool, true, false, List, ◌++◌, length, sum_by, Option}
use Rattle.wt_inspection.specs.Results.{Item, Warning}
use Rattle.wt_inspection_views.specs.Escaped.{AreLines, line_count}
use Rattle.wt_inspection_views.specs.JsonLines.{AreJsonLines}
use Rattle.wt_inspection_views.specs.Lines.{HasTextLines}
use Rattle.wt_inspection_views.specs.Objects.{HasLines}
use Rattle.wt_inspection_views.specs.TextLines.{item_lines}
use Rattle.wt_inspect.specs.Drawing.{Draws, IsDrawn, paints}
use Rattle.wt_inspect.specs.declared.arguments.Output.{Output}
use Rattle.wt_inspect.specs.declared.arguments.Output.TheVariants as output-is
use Rattle.wt_inspect.specs.declared.sheet.Sheet.{Sheet}
use Rattle.wt_inspect.specs.declared.sheet.Sheet.TheVariants as sheet-is

-- the number of lines for an item: in JSON, one
abbrev pub lines_for : Output → Bool → List ℕ → Item → ℕ
lines_for output-is.Json payload bytes item = 1
lines_for other payload bytes item = item_lines payload bytes item

-- the number of lines for items and warnings
abbrev pub lines_of : Output → Bool → List ℕ → List Item → List Warning → ℕ
lines_of output payload bytes items warnings =
    sum_by (lines_for output payload bytes) items + length warnings

-- these bytes are n lines in this format, and nothing else
abbrev pub AreLinesOf : Output → ℕ → List ℕ → Type 0
AreLinesOf output-is.Text n text = AreLines text × (line_count text ≡ n)
AreLinesOf output-is.Json n text = AreJsonLines n text
AreLinesOf output-is.Html n text = ⊥

-- this is written of n lines in this format
pub record DrawsLines (output : Output) (colors : Bool) (n : ℕ) (written : List ℕ)
    : Type 0 where
  pub text : List ℕ
  pub lines : AreLinesOf output n text
  pub drawn : IsDrawn (paints output colors) text written

-- a format of lines: text or JSON
abbrev pub is_lines : Output → Bool
is_lines output-is.Html = false
is_lines other = true

-- the sheet has n lines in this format, unless an allocation failed
abbrev pub HasSheet : Output → ℕ → Sheet → Type 0
HasSheet output-is.Text n (sheet-is.Text lines) = HasTextLines n lines
HasSheet output-is.Json n (sheet-is.Json lines) = HasLines n lines
HasSheet other n sheet = ⊥

-- n lines were appended, whatever there was before
abbrev pub AddsTo : Output → ℕ → Sheet → Sheet → Type 0
AddsTo output n old new = (k : ℕ) → HasSheet output k old → HasSheet output (k + n) new

-- the text that was written and the sheet have n lines in this format
pub record HasSoFar (output : Output) (n : ℕ) (text : List ℕ) (sheet : Sheet) : Type 0 where
  pub written : ℕ
  pub kept : ℕ
  pub lines : AreLinesOf output written text
  pub rest : HasSheet output kept sheet
  pub count : written + kept ≡ n

-- all lines of the sheet were written, or none
abbrev pub WritesSome : Bool → Option (List ℕ) → Option (List ℕ) → Sheet → Sheet → Type 0
WritesSome colors before after old new =
    (output : Output) (k : ℕ) (text : List ℕ) → HasSoFar output k text old
    → (more : List ℕ) × Draws (paints output colors) before after more
    × HasSoFar output k (text ++ more) new

-- all lines of the sheet were written
abbrev pub WritesAll : Bool → Option (List ℕ) → Option (List ℕ) → Sheet → Type 0
WritesAll colors before after old =
    (output : Output) (k : ℕ) (text : List ℕ) → HasSoFar output k text old
    → (more : List ℕ) × Draws (paints output colors) before after more
    × AreLinesOf output k (text ++ more)
