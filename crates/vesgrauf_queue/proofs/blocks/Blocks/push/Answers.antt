use Rattle.std.proofs.Common.{◌++◌}
use Rattle.vesgrauf_queue.specs.Blocks.{pieces}
use Rattle.vesgrauf_queue.proofs.BlockLemmas.{adds-sealed}
use Rattle.vesgrauf_queue.proofs.blocks.Blocks.push.Goals as goal

pub returns-clause-ok : goal.returns-clause-ok
returns-clause-ok c =
    adds-sealed (pieces c.args.self.now) (pieces c.make_room.new.self) (pieces c.add.new.self) (c.args.head.now ++ c.args.bytes.now)
    c.make_room.ensures.pieces c.add.ensures.pieces
