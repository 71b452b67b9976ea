use Rattle.vesgrauf_registry_agreement.proofs.TableLemmas.{same_http2, same_name}
use Rattle.vesgrauf_registry_agreement.proofs.settings_agree.Goals as goal

pub returns-clause-http2 : goal.returns-clause-http2
returns-clause-http2 c = same_http2

pub returns-clause-name : goal.returns-clause-name
returns-clause-name c = same_name
