-- The results of an inspection, as programs name them.
use Rattle.std.specs.Prelude.{Bool, true, false}
pub use Rattle.wt_inspection_model.specs.declared.item.Inspection.{Inspection}
pub use Rattle.wt_inspection_model.specs.declared.item.Item.{Item}
pub use Rattle.wt_inspection_model.specs.declared.item.ending.End.{End}
pub use Rattle.wt_inspection_model.specs.declared.item.ending.Warning.{Warning}
pub use Rattle.wt_inspection_model.specs.Rules.{is_hint}
use Rattle.wt_inspection_model.specs.declared.item.ending.End.TheVariants as end-is

-- the input has a fault
abbrev pub has_fault : End → Bool
has_fault (end-is.Fault fault) = true
has_fault other = false
