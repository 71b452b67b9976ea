use Rattle.wtp_dynamic_decoder.proofs.Kept.{one_decoder}
use Rattle.wtp_dynamic_decoder.proofs.decoder.stored.bytes_are_read.Goals as goal

pub returns : goal.returns
returns c = one_decoder
