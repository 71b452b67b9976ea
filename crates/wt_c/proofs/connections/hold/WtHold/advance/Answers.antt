use Rattle.std.proofs.Common.{◌≡◌, ◌+◌, ◌≤◌, ◌<◌, length, arith, rules}
use Rattle.wt_c.proofs.PushingLemmas.{holds_all, holds_below, holds_above}
use Rattle.wt_c.proofs.connections.hold.WtHold.advance.Goals.{else-kind-le1-via-then-kind-le1+else-taken-chunk, else-kind-le1-via-else-kind-le1}
use Rattle.wt_c.proofs.connections.hold.WtHold.advance.Goals as goal

pub returns-then-taken-chunk-clause-holds : goal.returns-then-taken-chunk-clause-holds
returns-then-taken-chunk-clause-holds c = holds_all c.args.self.now c.args.room.now c.args.chunk.now c.args.held c.args.taken c.args.kind c.args.consumed c.requires.hold (omega (arith, c.requires.held, c.requires.taken)) c.requires.chunk c.if-taken-chunk.true c.requires.within c.if-kind-le1.true

pub returns-then-consumed-held-clause-holds : goal.returns-then-consumed-held-clause-holds
returns-then-consumed-held-clause-holds c = holds_below c.args.self.now c.args.room.now c.args.chunk.now c.args.held c.args.taken c.args.kind c.args.consumed c.requires.hold c.requires.held c.if-consumed-held.true c.requires.taken
    (λ k. elim c.else-kind-le1.branch [ else-kind-le1-via-then-kind-le1+else-taken-chunk w ↦ (let less : c.args.taken < length c.args.chunk.now = omega (arith, w.if-taken-chunk.false, c.requires.taken) in (less, c.requires.kind k less)) | else-kind-le1-via-else-kind-le1 w ↦ absurd (omega (arith, w.if-kind-le1.false, k)) ])

pub returns-else-consumed-held-clause-holds : goal.returns-else-consumed-held-clause-holds
returns-else-consumed-held-clause-holds c = holds_above c.args.self.now c.args.room.now c.args.chunk.now c.args.held c.args.taken c.args.kind c.args.consumed c.requires.hold c.requires.held c.if-consumed-held.false c.requires.within c.requires.taken
    (λ k. elim c.else-kind-le1.branch [ else-kind-le1-via-then-kind-le1+else-taken-chunk w ↦ (let less : c.args.taken < length c.args.chunk.now = omega (arith, w.if-taken-chunk.false, c.requires.taken) in (less, c.requires.kind k less)) | else-kind-le1-via-else-kind-le1 w ↦ absurd (omega (arith, w.if-kind-le1.false, k)) ])
