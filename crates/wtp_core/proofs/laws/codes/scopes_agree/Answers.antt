use Rattle.wtp_core.proofs.CodeLemmas.{scope-agrees}
use Rattle.wtp_core.proofs.laws.codes.scopes_agree.Goals as goal

pub returns : goal.returns
returns c = scope-agrees
