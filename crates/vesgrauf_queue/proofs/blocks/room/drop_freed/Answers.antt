use Rattle.std.proofs.Common.{◌∙◌, ◌-◌, ap, refl, arith, length}
use Rattle.vesgrauf_queue.specs.Layout.{parts}
use Rattle.vesgrauf_queue.proofs.FreeLemmas.{freeing-more, first-parts, drop-one-parts}
use Rattle.vesgrauf_queue.proofs.blocks.room.drop_freed.Goals as goal

pub freeing-preserved : goal.freeing-preserved
freeing-preserved c =
    let vs = c.freeing.sealed.items in
    let block = first-parts vs c.in-Some.block.now (omega (arith, c.in-Some.ensures.variant.0 refl, c.freeing.sealed.ok.0)) c.in-Some.ensures.lookup in
    freeing-more (parts c.args.sealed.now.items) (parts vs) (parts c.pop_front.new.self.items) c.args.lent c.args.freed
    c.freeing.lent c.freeing.freed (c.freeing.freed - c.len-len.result) c.freeing.invariant c.freeing-test.true
    (ap parts c.pop_front.ensures.rest ∙ drop-one-parts vs)
    (omega (arith, ap length block, c.len-len.ensures, c.in-Some.block.now.ok.0, c.if-freed-len.false))
