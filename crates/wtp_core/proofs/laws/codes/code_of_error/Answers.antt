use Rattle.std.proofs.Common.{ap, ◌∙◌}
use Rattle.wtp_core.specs.Codes.{code_scope}
use Rattle.wtp_core.proofs.CodeLemmas.{scope-agrees}
use Rattle.wtp_core.proofs.laws.codes.code_of_error.Goals as goal

pub returns-clause-scope : goal.returns-clause-scope
returns-clause-scope c = c.scope.ensures ∙ ap code_scope c.from-code.ensures ∙ scope-agrees c.args.error
