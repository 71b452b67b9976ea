use Rattle.wtp_pairs.proofs.SessionLemmas.{uni_read, bi_read, joined, stream_bytes, stream_end}
use Rattle.wtp_pairs.proofs.laws.session_streams_are_received.Goals as goal

pub returns-clause-unidirectional : goal.returns-clause-unidirectional
returns-clause-unidirectional c = uni_read

pub returns-clause-bidirectional : goal.returns-clause-bidirectional
returns-clause-bidirectional c = bi_read

pub returns-clause-joined : goal.returns-clause-joined
returns-clause-joined c = joined

pub returns-clause-bytes : goal.returns-clause-bytes
returns-clause-bytes c = stream_bytes

pub returns-clause-end : goal.returns-clause-end
returns-clause-end c = stream_end
