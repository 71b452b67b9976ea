-- What is written of a text in a terminal: the text, or the same with colours.
use Rattle.std.specs.Prelude.{◌≡◌, ℕ, Bool, true, false, List, Option}
use Rattle.std.specs.Io.KnownBytes.{Appends}
use Rattle.wt_inspection_views.specs.Painting.{IsPainted}
use Rattle.wt_inspect.specs.declared.arguments.Arguments.{Arguments}
use Rattle.wt_inspect.specs.declared.arguments.Output.{Output}
use Rattle.wt_inspect.specs.declared.arguments.Output.TheVariants as output-is

-- only text has colours, if they are asked for
abbrev pub paints : Output → Bool → Bool
paints output-is.Text colors = colors
paints other colors = false

abbrev pub has_colors : Arguments → Bool
has_colors arguments = paints arguments.output arguments.has_colors

-- what is written of a text: its lines painted, or the text itself
abbrev pub IsDrawn : Bool → List ℕ → List ℕ → Type 0
IsDrawn true text written = IsPainted text written
IsDrawn false text written = written ≡ text

-- this text was written, with colours or without
pub record Draws (colors : Bool) (before after : Option (List ℕ)) (text : List ℕ) : Type 0 where
  pub written : List ℕ
  pub drawn : IsDrawn colors text written
  pub appends : Appends before after written
