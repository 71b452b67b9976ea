use Rattle.std.proofs.Common.{◌∙◌, ap, arith, length}
use Rattle.vesgrauf_queue.specs.Layout.{parts}
use Rattle.vesgrauf_queue.proofs.LayoutLemmas.{length-parts}
use Rattle.vesgrauf_queue.proofs.BlockLemmas.{laid-given-whole, pieces-given-whole, kept-given-whole, kept-given}
use Rattle.vesgrauf_queue.specs.Blocks.{kept}
use Rattle.vesgrauf_queue.proofs.blocks.Blocks.give.Goals as goal
use Rattle.vesgrauf_queue.proofs.blocks.Blocks.give.Goals.{else-self-len-via-then-self-len+else-self-block, else-self-len-via-else-self-len}

pub invariant_of-self : goal.invariant_of-self
invariant_of-self c =
    let b = c.args.self.now in
    record {
      laid = laid-given-whole (parts b.sealed.items) b.last.items b.lent b.used b.freed c.args.len
          (omega (arith, b.sealed.ok.0, length-parts b.sealed.items))
          (c.if-self-block.true ∙ ap length c.block_at-block.ensures) b.laid;
    }

pub returns-then-self-block-clause-pieces : goal.returns-then-self-block-clause-pieces
returns-then-self-block-clause-pieces c =
    let b = c.args.self.now in
    pieces-given-whole (parts b.sealed.items) b.last.items b.lent b.used c.args.len
    (omega (arith, b.sealed.ok.0, length-parts b.sealed.items))
    (c.if-self-block.true ∙ ap length c.block_at-block.ensures)

pub returns-then-self-block-clause-kept : goal.returns-then-self-block-clause-kept
returns-then-self-block-clause-kept c =
    let b = c.args.self.now in
    kept-given-whole (parts b.sealed.items) b.last.items b.lent b.used b.freed c.args.len
    (omega (arith, b.sealed.ok.0, length-parts b.sealed.items)) b.laid.given
    (c.if-self-block.true ∙ ap length c.block_at-block.ensures)

pub returns-else-self-len-clause-kept : goal.returns-else-self-len-clause-kept
returns-else-self-len-clause-kept c =
    let b = c.args.self.now in
    let more = kept-given (parts b.sealed.items) b.last.items b.lent b.used b.freed c.args.len b.laid.given in
    elim c.else-self-len.branch [
      | else-self-len-via-then-self-len+else-self-block w ↦ ap kept w.self-is ∙ more
      | else-self-len-via-else-self-len w ↦ ap kept w.self-is ∙ more
    ]
