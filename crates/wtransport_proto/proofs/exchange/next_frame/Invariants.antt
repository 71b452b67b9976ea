use Rattle.std.proofs.Common.{◌*◌}
use Rattle.wtp_core.specs.Source.{HasModel}
use Rattle.wtp_core.specs.Polled.{PollsAtMost}
use Rattle.wtransport_proto.specs.Driving.{ChangesFirst}
use Rattle.wtp_wire.specs.Held.{IsUnfinished}
use Rattle.wtransport_proto.specs.Exchange.{Turned, WaitsAtMost}
use Rattle.wtransport_proto.proofs.exchange.next_frame.Given as goal

abbrev pub invariant-loop-turn : goal.invariant-loop-turn
invariant-loop-turn g l = record {
  can : g.K.ReadsFrames.can l.stream;
  unfinished : IsUnfinished l.reading;
  changes : ChangesFirst g.K.ReadsFrames.first l.fn.stream l.stream;
  model : HasModel (g.S.AsyncRead.model l.fn.source) (g.S.AsyncRead.model l.source) (Turned g.K.ReadsFrames.role (g.K.ReadsFrames.first l.fn.stream) (g.K.ReadsFrames.first l.stream) l._turn l.reading);
  asks : HasModel (g.S.AsyncRead.model l.fn.source) (g.S.AsyncRead.model l.source) (PollsAtMost (4112 * l._turn));
  waits : HasModel (g.S.AsyncRead.model l.fn.source) (g.S.AsyncRead.model l.source) (WaitsAtMost l._turn);
}
