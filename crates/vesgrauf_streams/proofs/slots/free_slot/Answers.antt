use Rattle.std.proofs.Common.{arith}
use Rattle.vesgrauf_streams.proofs.PlaceLemmas.{last_free}
use Rattle.vesgrauf_streams.proofs.slots.free_slot.Goals as goal

pub returns-clause-free : goal.returns-clause-free
returns-clause-free g c = (c.args.free, grind (arith, last_free c.args.slots.now.items c.args.free))
