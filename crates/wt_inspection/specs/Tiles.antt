-- Items that tile bytes: each byte belongs to exactly one item, and the items are in order.
use Rattle.std.specs.Prelude.{◌≡◌, ℕ, ◌+◌, List, [], ◌∷◌}
use Rattle.wt_inspection_model.specs.declared.item.Item.{Item}

-- the first item is at the first place, each other one is where the one before it ends, and the
-- last one ends at the end
abbrev pub Tiles : ℕ → List Item → ℕ → Type 0
Tiles start [] end = start ≡ end
Tiles start (item ∷ rest) end = (item.at ≡ start) × Tiles (start + item.length) rest end
