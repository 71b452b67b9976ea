use Rattle.wtp_wire.proofs.StreamKindLemmas.{stream_kind_of-is, is-stream_kind_of}
use Rattle.wtp_wire.proofs.laws.stream_header.stream_kind_is_computed.Goals as goal

pub returns : goal.returns
returns c = record { computed = stream_kind_of-is; defined = is-stream_kind_of }
