use Rattle.wtransport_proto.specs.Streams.{first_of}
use Rattle.wtransport_proto.proofs.AcceptLemmas.{frame_told, again_told, pending_told, no_memory_told, fault_told, frame_given}
use Rattle.wtransport_proto.proofs.stream.accepting.BiAccepting.poll.Goals as goal

pub returns-in-Ready-Ok-clause-given : goal.returns-in-Ready-Ok-clause-given
returns-in-Ready-Ok-clause-given g c =
    let d = rw c.in-Ready-Ok.field-0-is at c.in-Ready-Ok.ensures.given in
    frame_given c.classify.result c.in-Ready-Ok.frame (first_of c.args.self.stream) c.args.self.reading (record { stream = c.read_frame_async.new.self; reading = c.read_frame_async.new.reading })
    c.classify.ensures d.0 d.1 d.2

pub returns-in-Ready-Ok-clause-polled : goal.returns-in-Ready-Ok-clause-polled
returns-in-Ready-Ok-clause-polled g c =
    frame_told (g.S.AsyncRead.model c.args.source.now) (g.S.AsyncRead.model c.read_frame_async.new.source)
    c.classify.result c.in-Ready-Ok.frame (first_of c.args.self.stream) c.args.self.reading (record { stream = c.read_frame_async.new.self; reading = c.read_frame_async.new.reading })
    c.classify.ensures (rw c.in-Ready-Ok.field-0-is at c.in-Ready-Ok.ensures.polled) c.read_frame_async.ensures.asks

pub returns-in-Ready-Err-clause-polled : goal.returns-in-Ready-Err-clause-polled
returns-in-Ready-Err-clause-polled g c =
    fault_told (g.S.AsyncRead.model c.args.source.now) (g.S.AsyncRead.model c.read_frame_async.new.source)
    (first_of c.args.self.stream) (first_of c.read_frame_async.new.self) c.args.self.reading c.read_frame_async.new.reading c.in-Ready-Err.fault
    (rw c.in-Ready-Err.field-0-is at c.in-Ready-Err.ensures.polled)

pub returns-in-Again-clause-polled : goal.returns-in-Again-clause-polled
returns-in-Again-clause-polled g c =
    again_told (g.S.AsyncRead.model c.args.source.now) (g.S.AsyncRead.model c.read_frame_async.new.source)
    (first_of c.args.self.stream) (first_of c.read_frame_async.new.self) c.args.self.reading c.read_frame_async.new.reading
    c.in-Again.ensures.polled c.read_frame_async.ensures.asks

pub returns-in-Pending-clause-polled : goal.returns-in-Pending-clause-polled
returns-in-Pending-clause-polled g c =
    pending_told (g.S.AsyncRead.model c.args.source.now) (g.S.AsyncRead.model c.read_frame_async.new.source)
    (first_of c.args.self.stream) c.args.self.reading (record { stream = c.read_frame_async.new.self; reading = c.read_frame_async.new.reading })
    c.in-Pending.ensures.polled c.read_frame_async.ensures.asks

pub returns-in-NoMemory-clause-polled : goal.returns-in-NoMemory-clause-polled
returns-in-NoMemory-clause-polled g c =
    no_memory_told (g.S.AsyncRead.model c.args.source.now) (g.S.AsyncRead.model c.read_frame_async.new.source)
    (first_of c.args.self.stream) c.args.self.reading (record { stream = c.read_frame_async.new.self; reading = c.read_frame_async.new.reading })
    c.in-NoMemory.ensures.polled c.read_frame_async.ensures.asks
