use Rattle.wtp_sending.proofs.EncodedLemmas.{encoded_reads}
use Rattle.wtp_sending.proofs.laws.encoded_sections_have_their_fields.Goals as goal

pub returns : goal.returns
returns c = encoded_reads
