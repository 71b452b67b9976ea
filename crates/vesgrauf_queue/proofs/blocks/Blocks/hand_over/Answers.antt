use Rattle.std.proofs.Common.{arith, ap, length, take, length-append, length-take}
use Rattle.std.specs.List.{concat}
use Rattle.vesgrauf_queue.specs.Blocks.{pieces, kept}
use Rattle.vesgrauf_queue.proofs.PieceLemmas.{length-shown, length-shown-concat}
use Rattle.vesgrauf_queue.proofs.blocks.Blocks.hand_over.Goals as goal

pub free-requires-clause-within : goal.free-requires-clause-within
free-requires-clause-within c =
    let p = pieces c.args.self.now in
    omega (
      arith,
      ap length c.give_shown.ensures.kept,
      length-append (kept c.args.self.now) (take c.args.len (concat p)),
      length-take c.args.len (concat p),
      c.requires.within,
      length-shown-concat p,
    )

pub free-requires-clause-few : goal.free-requires-clause-few
free-requires-clause-few c =
    let p = pieces c.args.self.now in
    omega (
      arith,
      ap length c.give_shown.ensures.kept,
      length-append (kept c.args.self.now) (take c.args.len (concat p)),
      length-take c.args.len (concat p),
      c.requires.within,
      length-shown p,
      ap length (c.requires.none c.if-not-keep.true),
    )
