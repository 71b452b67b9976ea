use Rattle.std.specs.VecDeque.{deque_len}
use Rattle.vesgrauf_queue.specs.Layout.{parts}
use Rattle.vesgrauf_queue.proofs.CutLemmas.{Cutting}
use Rattle.vesgrauf_queue.proofs.blocks.room.cut_last.Given as goal

abbrev pub invariant-cutting : goal.invariant-cutting
invariant-cutting l =
    Cutting (parts l.initial.sealed.items) l.initial.last.items l.lent l.initial.excess (parts l.sealed.items) l.last.items l.excess

abbrev pub decreases-cutting : goal.decreases-cutting
decreases-cutting l = deque_len l.sealed
