-- Items without contents.
use Rattle.std.specs.Prelude.{◌≡◌}
use Rattle.wt_inspection_views.specs.declared.shape.CapsuleShape.{CapsuleShape}
use Rattle.wt_inspection_views.specs.declared.shape.Shape.{Shape}
use Rattle.wt_inspection_views.specs.declared.shape.Shape.TheVariants as shape-is

-- capsules of the same type and size
pub record IsLikeCapsule (a b : CapsuleShape) : Type 0 where
  pub name : a.name.now ≡ b.name.now
  pub number : a.number ≡ b.number
  pub announced : a.announced ≡ b.announced

-- items whose lines differ in their offsets alone
abbrev pub IsLike : Shape → Shape → Type 0
IsLike (shape-is.Frame a) (shape-is.Frame b) = a ≡ b
IsLike (shape-is.Capsule a) (shape-is.Capsule b) = IsLikeCapsule a b
IsLike a b = ⊥
