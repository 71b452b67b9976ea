use Rattle.std.proofs.Common.{refl}
use Rattle.wtp_wire.specs.Datagram.{datagram_wire}
use Rattle.wt_c.proofs.datagrams.datagram_is_head_and_payload.Goals as goal

pub returns : goal.returns
unfolding datagram_wire
returns c quarter payload = refl
