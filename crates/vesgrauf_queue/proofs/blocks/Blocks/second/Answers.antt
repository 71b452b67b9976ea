use Rattle.std.proofs.Common.{sym, ◌∙◌, arith}
use Rattle.vesgrauf_queue.specs.Layout.{parts}
use Rattle.vesgrauf_queue.proofs.LayoutLemmas.{second-pieces, length-parts}
use Rattle.vesgrauf_queue.proofs.blocks.Blocks.second.Goals as goal

pub returns : goal.returns
returns c =
    let b = c.args.self.now in
    c.block_at.ensures
    ∙ sym (second-pieces (parts b.sealed.items) b.last.items b.lent b.used
    (omega (arith, b.sealed.ok.0, length-parts b.sealed.items)))
