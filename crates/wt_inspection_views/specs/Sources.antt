-- What lines of JSON are made from.
use Rattle.std.specs.Prelude.{◌≡◌}
use Rattle.wt_inspection_views.specs.Shapes.{IsLike}
use Rattle.wt_inspection_views.specs.declared.json_lines.kept.Source.{Source}

-- items whose lines differ in their offsets alone
pub record IsLikeSource (a b : Source) : Type 0 where
  pub length : a.length ≡ b.length
  pub shape : IsLike a.shape b.shape
  pub has_capsules : a.has_capsules ≡ b.has_capsules
