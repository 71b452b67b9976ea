use Rattle.vesgrauf_queue.specs.Layout.{parts}
use Rattle.vesgrauf_queue.proofs.FreeLemmas.{Freeing}
use Rattle.vesgrauf_queue.proofs.blocks.room.drop_freed.Given as goal

abbrev pub invariant-freeing : goal.invariant-freeing
invariant-freeing l =
    Freeing (parts l.initial.sealed.items) l.initial.lent l.initial.freed (parts l.sealed.items) l.lent l.freed

abbrev pub decreases-freeing : goal.decreases-freeing
decreases-freeing l = l.lent
