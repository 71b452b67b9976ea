use Rattle.std.proofs.Common.{sym, ◌∙◌, arith, refl}
use Rattle.vesgrauf_queue.proofs.LayoutLemmas.{first-sealed}
use Rattle.vesgrauf_queue.proofs.blocks.room.block_at.Goals as goal

pub returns-in-Some : goal.returns-in-Some
returns-in-Some c =
    c.as_slice.ensures.value
    ∙ sym (first-sealed c.args.sealed.now.items c.args.last.now.items c.args.at c.in-Some.block.now
    (omega (arith, c.in-Some.ensures.variant.0 refl, c.args.sealed.now.ok.0)) c.in-Some.ensures.lookup)
