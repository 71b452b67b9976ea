use Rattle.std.proofs.Common.{◌≡◌, inl, inr, arith, Ok, Err}
use Rattle.wtp_core.specs.declared.bytes.poll.Polled.TheVariants.{Ready, Pending, Again, NoMemory}
use Rattle.wtransport_proto.proofs.DriveLemmas.{first_same, first_on}
use Rattle.wtransport_proto.proofs.ExchangeLemmas.{told_start, told_waiting, told_unknown, told_memory, told_taken, told_broken, told_waited, nothing_held, asks_start, asks_on, asks_end, waits_start, waits_on, waits_end}
use Rattle.wtransport_proto.proofs.PollsLemmas.{poll_did}
use Rattle.wtransport_proto.proofs.exchange.next_frame.Goals as goal

pub loop-turn-init : goal.loop-turn-init
loop-turn-init g c = record {
  can = c.requires;
  unfinished = nothing_held _ c.new-reading.ensures;
  changes = first_same g.K.ReadsFrames.first c.args.stream.now;
  model = told_start (g.S.AsyncRead.model c.args.source.now) g.K.ReadsFrames.role (g.K.ReadsFrames.first c.args.stream.now) _ c.new-reading.ensures;
  asks = asks_start (g.S.AsyncRead.model c.args.source.now);
  waits = waits_start (g.S.AsyncRead.model c.args.source.now);
}

pub loop-turn-preserved : goal.loop-turn-preserved
loop-turn-preserved g c = record {
  can = c.read_frame_async.ensures.can;
  unfinished = c.read_frame_async.ensures.unfinished;
  changes = first_on g.K.ReadsFrames.first _ _ _ c.loop-turn.invariant.changes c.read_frame_async.ensures.changes;
  model = elim c.in-Pending.is [
    | inl e ↦ told_waiting (g.S.AsyncRead.model c.args.source.now) (g.S.AsyncRead.model c.loop-turn.source) (g.S.AsyncRead.model c.read_frame_async.new.source)
        g.K.ReadsFrames.role (g.K.ReadsFrames.first c.args.stream.now) (g.K.ReadsFrames.first c.loop-turn.stream) (g.K.ReadsFrames.first c.read_frame_async.new.self)
        c.loop-turn._turn c.loop-turn.reading c.read_frame_async.new.reading c.loop-turn.invariant.model (poll_did (g.S.AsyncRead.model c.loop-turn.source) (g.S.AsyncRead.model c.read_frame_async.new.source) g.K.ReadsFrames.role Pending (g.K.ReadsFrames.first c.loop-turn.stream) (g.K.ReadsFrames.first c.read_frame_async.new.self) c.loop-turn.reading c.read_frame_async.new.reading (rw e at c.read_frame_async.ensures.polled) (rw e at c.read_frame_async.ensures.waits) c.read_frame_async.ensures.asks)
    | inr e ↦ told_unknown (g.S.AsyncRead.model c.args.source.now) (g.S.AsyncRead.model c.loop-turn.source) (g.S.AsyncRead.model c.read_frame_async.new.source)
        g.K.ReadsFrames.role (g.K.ReadsFrames.first c.args.stream.now) (g.K.ReadsFrames.first c.loop-turn.stream) (g.K.ReadsFrames.first c.read_frame_async.new.self)
        c.loop-turn._turn c.loop-turn.reading c.read_frame_async.new.reading c.loop-turn.invariant.model (poll_did (g.S.AsyncRead.model c.loop-turn.source) (g.S.AsyncRead.model c.read_frame_async.new.source) g.K.ReadsFrames.role Again (g.K.ReadsFrames.first c.loop-turn.stream) (g.K.ReadsFrames.first c.read_frame_async.new.self) c.loop-turn.reading c.read_frame_async.new.reading (rw e at c.read_frame_async.ensures.polled) (rw e at c.read_frame_async.ensures.waits) c.read_frame_async.ensures.asks)
  ];
  asks = asks_on (g.S.AsyncRead.model c.args.source.now) (g.S.AsyncRead.model c.loop-turn.source) (g.S.AsyncRead.model c.read_frame_async.new.source) c.loop-turn._turn c.loop-turn.invariant.asks c.read_frame_async.ensures.asks;
  waits = waits_on _ (g.S.AsyncRead.model c.args.source.now) (g.S.AsyncRead.model c.loop-turn.source) (g.S.AsyncRead.model c.read_frame_async.new.source) c.loop-turn._turn c.loop-turn.invariant.waits c.read_frame_async.ensures.waits;
}

pub returns-in-Ready-Ok : goal.returns-in-Ready-Ok
returns-in-Ready-Ok g c =
    let s = g.S.AsyncRead.model c.args.source.now in
    let t = g.S.AsyncRead.model c.loop-turn.source in
    let u = g.S.AsyncRead.model c.read_frame_async.new.source in
    let f0 = g.K.ReadsFrames.first c.args.stream.now in
    let f1 = g.K.ReadsFrames.first c.loop-turn.stream in
    let f2 = g.K.ReadsFrames.first c.read_frame_async.new.self in
    record {
      can = c.read_frame_async.ensures.can;
      changes = first_on g.K.ReadsFrames.first _ _ _ c.loop-turn.invariant.changes c.read_frame_async.ensures.changes;
      read = told_taken s t u g.K.ReadsFrames.role f0 f1 f2 c.loop-turn._turn c.args.turns c.loop-turn.reading c.read_frame_async.new.reading c.in-Ready-Ok.frame c.loop-turn-test.true c.loop-turn.invariant.model (poll_did t u g.K.ReadsFrames.role (Ready (Ok c.in-Ready-Ok.frame)) f1 f2 c.loop-turn.reading c.read_frame_async.new.reading (rw c.in-Ready-Ok.field-0-is at c.in-Ready-Ok.ensures.polled) c.in-Ready-Ok.ensures.waits c.read_frame_async.ensures.asks);
      asks = asks_end s t u c.loop-turn._turn c.args.turns c.loop-turn-test.true c.loop-turn.invariant.asks c.read_frame_async.ensures.asks;
      waits = waits_end s t u c.loop-turn._turn c.args.turns c.loop-turn-test.true c.loop-turn.invariant.waits c.in-Ready-Ok.ensures.waits;
    }

pub returns-in-Ready-Err : goal.returns-in-Ready-Err
returns-in-Ready-Err g c =
    let s = g.S.AsyncRead.model c.args.source.now in
    let t = g.S.AsyncRead.model c.loop-turn.source in
    let u = g.S.AsyncRead.model c.read_frame_async.new.source in
    let f0 = g.K.ReadsFrames.first c.args.stream.now in
    let f1 = g.K.ReadsFrames.first c.loop-turn.stream in
    let f2 = g.K.ReadsFrames.first c.read_frame_async.new.self in
    record {
      can = c.read_frame_async.ensures.can;
      changes = first_on g.K.ReadsFrames.first _ _ _ c.loop-turn.invariant.changes c.read_frame_async.ensures.changes;
      read = told_broken s t u g.K.ReadsFrames.role f0 f1 f2 c.loop-turn._turn c.args.turns c.loop-turn.reading c.read_frame_async.new.reading c.in-Ready-Err.fault c.loop-turn-test.true c.loop-turn.invariant.model (poll_did t u g.K.ReadsFrames.role (Ready (Err c.in-Ready-Err.fault)) f1 f2 c.loop-turn.reading c.read_frame_async.new.reading (rw c.in-Ready-Err.field-0-is at c.in-Ready-Err.ensures.polled) c.in-Ready-Err.ensures.waits c.read_frame_async.ensures.asks);
      asks = asks_end s t u c.loop-turn._turn c.args.turns c.loop-turn-test.true c.loop-turn.invariant.asks c.read_frame_async.ensures.asks;
      waits = waits_end s t u c.loop-turn._turn c.args.turns c.loop-turn-test.true c.loop-turn.invariant.waits c.in-Ready-Err.ensures.waits;
    }

pub returns-in-NoMemory : goal.returns-in-NoMemory
returns-in-NoMemory g c =
    let s = g.S.AsyncRead.model c.args.source.now in
    let t = g.S.AsyncRead.model c.loop-turn.source in
    let u = g.S.AsyncRead.model c.read_frame_async.new.source in
    let f0 = g.K.ReadsFrames.first c.args.stream.now in
    let f1 = g.K.ReadsFrames.first c.loop-turn.stream in
    let f2 = g.K.ReadsFrames.first c.read_frame_async.new.self in
    record {
      can = c.read_frame_async.ensures.can;
      changes = first_on g.K.ReadsFrames.first _ _ _ c.loop-turn.invariant.changes c.read_frame_async.ensures.changes;
      read = told_memory s t u g.K.ReadsFrames.role f0 f1 f2 c.loop-turn._turn c.args.turns c.loop-turn.reading c.read_frame_async.new.reading c.loop-turn-test.true c.read_frame_async.ensures.unfinished c.in-NoMemory.ensures.given.2 c.loop-turn.invariant.model (poll_did t u g.K.ReadsFrames.role NoMemory f1 f2 c.loop-turn.reading c.read_frame_async.new.reading c.in-NoMemory.ensures.polled c.in-NoMemory.ensures.waits c.read_frame_async.ensures.asks);
      asks = asks_end s t u c.loop-turn._turn c.args.turns c.loop-turn-test.true c.loop-turn.invariant.asks c.read_frame_async.ensures.asks;
      waits = waits_end s t u c.loop-turn._turn c.args.turns c.loop-turn-test.true c.loop-turn.invariant.waits c.in-NoMemory.ensures.waits;
    }

pub returns : goal.returns
returns g c =
    let all : c.loop-turn._turn ≡ c.args.turns = omega arith in
    record {
      can = c.loop-turn.invariant.can;
      changes = c.loop-turn.invariant.changes;
      read = told_waited (g.S.AsyncRead.model c.args.source.now) (g.S.AsyncRead.model c.loop-turn.source) g.K.ReadsFrames.role (g.K.ReadsFrames.first c.args.stream.now) (g.K.ReadsFrames.first c.loop-turn.stream)
          c.args.turns c.loop-turn.reading c.loop-turn.invariant.unfinished (rw all at c.loop-turn.invariant.model);
      asks = rw all at c.loop-turn.invariant.asks;
      waits = rw all at c.loop-turn.invariant.waits;
    }
