use Rattle.std.proofs.Common.{ap}
use Rattle.wtp_fields.specs.Headers.{payload, or_decompression}
use Rattle.wtp_fields.proofs.Payloads.{payload_again, payload_injective}
use Rattle.wtp_fields.proofs.laws.headers.header_payloads.Goals as goal

pub returns-clause-again : goal.returns-clause-again
returns-clause-again c = payload_again

pub returns-clause-same : goal.returns-clause-same
returns-clause-same c = λ m n m_ordered m_texts n_ordered n_texts. (ap payload, payload_injective m n m_ordered m_texts n_ordered n_texts)

pub returns-clause-frame : goal.returns-clause-frame
returns-clause-frame c = λ m ordered texts. ap or_decompression (payload_again m ordered texts)
