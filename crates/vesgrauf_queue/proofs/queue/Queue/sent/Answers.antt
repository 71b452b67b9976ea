use Rattle.std.proofs.Common.{arith}
use Rattle.vesgrauf_queue.specs.Blocks.{pieces, kept}
use Rattle.vesgrauf_queue.proofs.PieceLemmas.{length-shown-concat, shown-within}
use Rattle.vesgrauf_queue.proofs.QueueLemmas.{counted-sent, sent-step}
use Rattle.vesgrauf_queue.proofs.queue.Queue.sent.Goals as goal

pub overflow_sub-self : goal.overflow_sub-self
overflow_sub-self c =
    let p = pieces c.self.inside.blocks in
    let within = shown-within p _ _ c.args.len c.shown_first.ensures.bytes c.shown_second.ensures c.if-shown-len.false in
    omega (arith, length-shown-concat p, c.self.invariant.waits)

pub invariant_of-self : goal.invariant_of-self
invariant_of-self c =
    let q = c.self.inside in
    let p = pieces q.blocks in
    let within = shown-within p _ _ c.args.len c.shown_first.ensures.bytes c.shown_second.ensures c.if-shown-len.false in
    counted-sent p (pieces c.hand_over.new.self) (kept q.blocks) (kept c.hand_over.new.self)
    q.waits q.put q.acked c.args.len q.config c.self.invariant c.hand_over.ensures.waiting c.hand_over.ensures.kept
    (omega (arith, length-shown-concat p))

pub returns-clause-ok : goal.returns-clause-ok
returns-clause-ok c =
    sent-step c.args.self.now _ (pieces c.hand_over.new.self) (kept c.hand_over.new.self) c.after-self-inside.result c.args.len
    c.self.inside.waits c.self.view_is c.hand_over.ensures.waiting
    (shown-within (pieces c.self.inside.blocks) _ _ c.args.len c.shown_first.ensures.bytes c.shown_second.ensures c.if-shown-len.false)
    c.hand_over.ensures.kept c.self.invariant.waits c.after-self-inside.ensures
