use Rattle.std.proofs.Common.{◌++◌, subst, List, ℕ}
use Rattle.vesgrauf_queue.specs.Pieces.{Adds}
use Rattle.vesgrauf_queue.specs.Blocks.{pieces}
use Rattle.vesgrauf_queue.proofs.BlockLemmas.{adds-both}
use Rattle.vesgrauf_queue.proofs.blocks.Blocks.push_whole.Goals as goal

pub returns-in-Ok-clause-ok : goal.returns-in-Ok-clause-ok
returns-in-Ok-clause-ok c =
    adds-both (pieces c.args.self.now) (pieces c.push.new.self) c.args.head.now c.args.bytes.items
    (subst (λ (b : List ℕ). Adds (pieces c.args.self.now) (c.args.head.now ++ b) (pieces c.push.new.self))
    c.as_slice.ensures.value c.in-Ok.ensures.ok)
