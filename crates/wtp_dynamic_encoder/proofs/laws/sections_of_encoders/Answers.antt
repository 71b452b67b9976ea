use Rattle.wtp_dynamic_encoder.proofs.Read.{sent_reads}
use Rattle.wtp_dynamic_encoder.proofs.laws.sections_of_encoders.Goals as goal

pub returns : goal.returns
returns c = sent_reads
