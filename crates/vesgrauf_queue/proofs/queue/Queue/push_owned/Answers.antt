use Rattle.std.proofs.Common.{◌+◌, ◌++◌, ap, arith, length, length-append}
use Rattle.vesgrauf_queue.specs.State.{State, waiting}
use Rattle.vesgrauf_queue.specs.Blocks.{pieces, kept}
use Rattle.vesgrauf_queue.proofs.BlockLemmas.{concat-AddsBoth}
use Rattle.vesgrauf_queue.proofs.QueueLemmas.{counted-queued, queued-step}
use Rattle.vesgrauf_queue.proofs.queue.Queue.push_owned.Goals as goal

pub invariant_of-self : goal.invariant_of-self
invariant_of-self c =
    let q = c.self.inside in
    let added = concat-AddsBoth (pieces q.blocks) (pieces c.push_whole.new.self) c.args.head.now c.args.bytes.items c.in-Ok.ensures.ok in
    counted-queued (pieces q.blocks) (pieces c.push_whole.new.self) (kept q.blocks) (kept c.push_whole.new.self)
    (c.args.head.now ++ c.args.bytes.items) q.waits q.put q.acked (length c.args.head.now + c.len.result) q.config c.self.invariant
    added c.push_whole.ensures.kept
    (omega (arith, length-append c.args.head.now c.args.bytes.items, c.len.ensures, c.args.bytes.ok.0))
    (omega (arith, c.in_default.ensures.ok.fits, ap (λ (s : State). s.put + length (waiting s)) c.self.view_is))

pub invariant_of-self-in-Ok : goal.invariant_of-self-in-Ok
invariant_of-self-in-Ok c =
    let q = c.self.inside in
    let added = concat-AddsBoth (pieces q.blocks) (pieces c.push_whole.new.self) c.args.head.now c.args.bytes.items c.in-Ok.ensures.ok in
    counted-queued (pieces q.blocks) (pieces c.push_whole.new.self) (kept q.blocks) (kept c.push_whole.new.self)
    (c.args.head.now ++ c.args.bytes.items) q.waits q.put q.acked (length c.args.head.now + c.len.result) q.config c.self.invariant
    added c.push_whole.ensures.kept
    (omega (arith, length-append c.args.head.now c.args.bytes.items, c.len.ensures, c.args.bytes.ok.0))
    (omega (arith, c.in_default.ensures.ok.fits, ap (λ (s : State). s.put + length (waiting s)) c.self.view_is))

pub returns-in-Ok-clause-queued : goal.returns-in-Ok-clause-queued
returns-in-Ok-clause-queued c =
    let q = c.self.inside in
    let added = concat-AddsBoth (pieces q.blocks) (pieces c.push_whole.new.self) c.args.head.now c.args.bytes.items c.in-Ok.ensures.ok in
    queued-step c.args.self.now _ (pieces c.push_whole.new.self) (kept c.push_whole.new.self) (c.args.head.now ++ c.args.bytes.items)
    c.is_full-room.result c.self.view_is c.in_default.ensures.ok.from added c.push_whole.ensures.kept c.is_full-room.ensures
