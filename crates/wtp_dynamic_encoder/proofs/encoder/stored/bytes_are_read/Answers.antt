use Rattle.wtp_dynamic_encoder.proofs.Remaking.{one_encoder}
use Rattle.wtp_dynamic_encoder.proofs.encoder.stored.bytes_are_read.Goals as goal

pub returns : goal.returns
returns c = one_encoder
