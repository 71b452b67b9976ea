-- Warnings of what is wrong with an item.
use Rattle.std.specs.Prelude.{ℕ, List, [], ◌∷◌, Option, Some, None}
use Rattle.wt_inspection_model.specs.declared.item.ending.Warning.{Warning}
use Rattle.wt_inspection_model.specs.declared.item.rule.Rule.{Rule}

-- the warning of the item at this place and of this line of it, if a rule is broken
abbrev pub warning_of : ℕ → Option ℕ → Option Rule → List Warning
warning_of at line None = []
warning_of at line (Some rule) = record { at = at; line = line; rule = rule } ∷ []
