use Rattle.wtp_pairs.proofs.ConnectLemmas.{tunnel_data, tunnel_read, tunnel_end}
use Rattle.wtp_pairs.proofs.DataLemmas.{data_read, content_read, end_read}
use Rattle.wtp_pairs.proofs.laws.content_is_received.Goals as goal

pub returns-clause-data : goal.returns-clause-data
returns-clause-data c = data_read

pub returns-clause-bytes : goal.returns-clause-bytes
returns-clause-bytes c = content_read

pub returns-clause-end : goal.returns-clause-end
returns-clause-end c = end_read

pub returns-clause-tunnel_data : goal.returns-clause-tunnel_data
returns-clause-tunnel_data c = tunnel_data

pub returns-clause-tunnel_bytes : goal.returns-clause-tunnel_bytes
returns-clause-tunnel_bytes c = tunnel_read

pub returns-clause-tunnel_end : goal.returns-clause-tunnel_end
returns-clause-tunnel_end c = tunnel_end
