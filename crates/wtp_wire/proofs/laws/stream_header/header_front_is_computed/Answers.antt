use Rattle.wtp_wire.proofs.HeaderFrontLemmas.{header_front-begins}
use Rattle.wtp_wire.proofs.laws.stream_header.header_front_is_computed.Goals as goal

pub returns : goal.returns
returns c = header_front-begins
