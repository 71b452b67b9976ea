use Rattle.std.proofs.Common.{◌≡◌, ◌⊎◌, ◌++◌, [], ◌∷◌, ap, subst, List, ℕ}
use Rattle.vesgrauf_queue.specs.Layout.{parts, pieces_in}
use Rattle.vesgrauf_queue.specs.Blocks.{pieces}
use Rattle.vesgrauf_queue.proofs.BlockLemmas.{adds-block}
use Rattle.vesgrauf_queue.proofs.blocks.Blocks.push_block.Goals as goal

pub returns-clause-ok : goal.returns-clause-ok
returns-clause-ok c =
    let b = c.args.self.now in
    let reserved : pieces_in (parts c.reserve.new.self.items) b.last.items b.lent b.used ≡ pieces b =
    ap (λ vs. pieces_in (parts vs) b.last.items b.lent b.used) c.reserve.ensures.items in
    let room : (pieces c.make_room.new.self ≡ pieces b) ⊎ (pieces c.make_room.new.self ≡ pieces b ++ [] ∷ []) =
    subst (λ (p : List (List ℕ)). (pieces c.make_room.new.self ≡ p) ⊎ (pieces c.make_room.new.self ≡ p ++ [] ∷ []))
    reserved c.make_room.ensures.pieces in
    adds-block (pieces b) (pieces c.make_room.new.self) (pieces c.add.new.self) (pieces c.seal.new.self)
    (pieces c.seal_block.new.self) c.args.head.now c.args.block.items
    room c.add.ensures.pieces c.seal.ensures.pieces c.seal_block.ensures.pieces
