use Rattle.wtp_core.proofs.EncodingLemmas.{number_at-encodes}
use Rattle.wtp_core.proofs.laws.read_is_encoding.Goals as goal

pub returns : goal.returns
returns c = number_at-encodes
