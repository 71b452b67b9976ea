use Rattle.std.proofs.Common.{length, ap, refl, ◌∙◌, arith}
use Rattle.wtp_wire.specs.Wire.{wire}
use Rattle.wtransport_proto.proofs.SendLemmas.{wire_some, told_none, told_more, told_fault, told_memory}
use Rattle.wtransport_proto.proofs.exchange.send.Goals as goal

pub loop-turn-init : goal.loop-turn-init
loop-turn-init g c = rw c.write_async-writing.ensures (record {
  bytes = refl;
  part = wire_some c.args.frame.now;
  model = told_none (g.W.AsyncWrite.model c.args.sink.now) (wire c.args.frame.now);
})

pub loop-turn-preserved : goal.loop-turn-preserved
loop-turn-preserved g c =
    let same = c.poll.ensures.on.same ∙ c.loop-turn.invariant.bytes in
    record {
      bytes = same;
      part = rw (ap length same) at c.in-Pending.ensures.whole;
      model = told_more (g.W.AsyncWrite.model c.args.sink.now) (g.W.AsyncWrite.model c.loop-turn.sink) (g.W.AsyncWrite.model c.poll.new.sink)
          (wire c.args.frame.now) c.loop-turn._turn c.loop-turn.writing c.poll.new.self c.loop-turn.invariant.bytes c.poll.ensures.on.forward c.loop-turn.invariant.model c.in-Pending.ensures.polled;
    }

pub returns-in-Ready-Err : goal.returns-in-Ready-Err
returns-in-Ready-Err g c =
    let same = c.poll.ensures.on.same ∙ c.loop-turn.invariant.bytes in
    rw c.in-Ready-Err.fault-is (told_fault (g.W.AsyncWrite.model c.args.sink.now) (g.W.AsyncWrite.model c.loop-turn.sink) (g.W.AsyncWrite.model c.poll.new.sink)
    (wire c.args.frame.now) c.loop-turn._turn c.args.turns c.in-Ready-Err.fault c.loop-turn.writing c.poll.new.self (omega arith) c.loop-turn.invariant.bytes c.poll.ensures.on.forward
    (rw (ap length same) at (rw c.in-Ready-Err.field-0-is at c.in-Ready-Err.ensures.whole)) c.loop-turn.invariant.model (rw c.in-Ready-Err.field-0-is at c.in-Ready-Err.ensures.polled))

pub returns-in-NoMemory : goal.returns-in-NoMemory
returns-in-NoMemory g c =
    let same = c.poll.ensures.on.same ∙ c.loop-turn.invariant.bytes in
    told_memory (g.W.AsyncWrite.model c.args.sink.now) (g.W.AsyncWrite.model c.loop-turn.sink) (g.W.AsyncWrite.model c.poll.new.sink)
    (wire c.args.frame.now) c.loop-turn._turn c.args.turns c.loop-turn.writing c.poll.new.self (omega arith) c.loop-turn.invariant.bytes c.poll.ensures.on.forward
    (rw (ap length same) at c.in-NoMemory.ensures.whole) c.loop-turn.invariant.model c.in-NoMemory.ensures.polled
