use Rattle.wtp_dynamic_encoder.specs.Encoding.{sent_of}
use Rattle.wtp_dynamic_encoder.proofs.Kept.{opened_first}
use Rattle.wtp_dynamic_encoder.proofs.laws.sections_taken_back.Goals as goal

pub returns : goal.returns
returns c = λ stream most policy proposals written old new before after sent. opened_first (sent_of stream sent.plans sent.lowest) old new sent.ledger
