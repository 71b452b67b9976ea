use Rattle.wtp_core.proofs.EncodingLemmas.{number_at-encoding}
use Rattle.wtp_core.proofs.laws.encoding_is_read.Goals as goal

pub returns : goal.returns
returns c = number_at-encoding
