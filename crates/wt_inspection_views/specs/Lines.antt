-- Appending lines to a text.
use Rattle.std.specs.Prelude.{◌≡◌, ℕ, ◌+◌, IsTrue, List}
use Rattle.wt_inspection_views.specs.Escaped.{AreLines, line_count}
use Rattle.wt_inspection_views.specs.Painting.{IsPainted}
use Rattle.wt_inspection_views.specs.declared.text.lines.Lines.{Lines}

-- exactly n lines were appended, unless an allocation failed
abbrev pub Gains : ℕ → Lines → Lines → Type 0
Gains n old new =
    IsTrue new.is_whole → IsTrue old.is_whole × (line_count new.text ≡ line_count old.text + n)

-- there are n lines, unless an allocation failed
abbrev pub HasTextLines : ℕ → Lines → Type 0
HasTextLines n lines = IsTrue lines.is_whole → line_count lines.text ≡ n

-- n lines were appended, whatever there was before
abbrev pub AddsTextLines : ℕ → Lines → Lines → Type 0
AddsTextLines n old new = (k : ℕ) → HasTextLines k old → HasTextLines (k + n) new

-- the text, of all lines that were appended, was painted
abbrev pub TakesPainted : Lines → List ℕ → Type 0
TakesPainted lines painted =
    (text : List ℕ) × AreLines text × IsPainted text painted
    × ((n : ℕ) → HasTextLines n lines → line_count text ≡ n)
