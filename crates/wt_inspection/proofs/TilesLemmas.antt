-- One more item tiles the bytes up to its end.
use Rattle.std.proofs.Common.{◌≡◌, ℕ, ◌+◌, List, [], ◌∷◌, ◌++◌, sym, ap, ◌∙◌}
use Rattle.wt_inspection_model.specs.declared.item.Item.{Item}
use Rattle.wt_inspection.specs.Tiles.{Tiles}

pub tiles_with : (start end : ℕ) (items : List Item) (item : Item) → Tiles start items end → item.at ≡ end → Tiles start (items ++ item ∷ []) (end + item.length)
tiles_with start end [] item t e = (e ∙ sym t, ap (λ (x : ℕ). x + item.length) t)
tiles_with start end (first ∷ rest) item t e = (t.0, tiles_with (start + first.length) end rest item t.1 e)
