use Rattle.std.proofs.Common.{◌≡◌, ◌<◌, length}
use Rattle.wtp_core.specs.Source.{HasModel}
use Rattle.wtp_wire.specs.Wire.{wire}
use Rattle.wtransport_proto.proofs.SendLemmas.{Waited}
use Rattle.wtransport_proto.proofs.exchange.send.Given as goal

abbrev pub invariant-loop-turn : goal.invariant-loop-turn
invariant-loop-turn g l = record {
  bytes : l.writing.bytes ≡ wire l.frame;
  part : l.writing.sent < length (wire l.frame);
  model : HasModel (g.W.AsyncWrite.model l.fn.sink) (g.W.AsyncWrite.model l.sink) (Waited (wire l.frame) l.writing.sent l._turn);
}
