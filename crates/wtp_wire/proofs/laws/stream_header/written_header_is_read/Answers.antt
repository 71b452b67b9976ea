use Rattle.wtp_wire.proofs.HeaderFrontLemmas.{header_front-wire}
use Rattle.wtp_wire.proofs.laws.stream_header.written_header_is_read.Goals as goal

pub returns : goal.returns
returns c = header_front-wire
