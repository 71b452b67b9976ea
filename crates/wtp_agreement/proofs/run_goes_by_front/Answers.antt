use Rattle.wtp_agreement.proofs.AgreementLemmas.{headers_first, data_after, headers_after, settings_first}
use Rattle.wtp_agreement.proofs.run_goes_by_front.Goals as goal

pub returns-clause-headers : goal.returns-clause-headers
returns-clause-headers c = headers_first

pub returns-clause-content : goal.returns-clause-content
returns-clause-content c = data_after

pub returns-clause-trailers : goal.returns-clause-trailers
returns-clause-trailers c = headers_after

pub returns-clause-settings : goal.returns-clause-settings
returns-clause-settings c = settings_first
