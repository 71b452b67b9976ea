use Rattle.wtp_wire.proofs.HeaderFrontLemmas.{header_front-more}
use Rattle.wtp_wire.proofs.laws.stream_header.header_front_stays.Goals as goal

pub returns : goal.returns
returns c = header_front-more
