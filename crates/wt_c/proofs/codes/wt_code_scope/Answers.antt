use Rattle.std.proofs.Common.{◌≡◌, Some, to_z, of_z, w32, rules}
use Rattle.wtp_core.specs.Codes.{code_name, code_scope}
use Rattle.wt_c.specs.Codes.{scope_number}
use Rattle.wt_c.proofs.codes.wt_code_scope.Goals as goal

pub returns-in-Some-clause-scope : goal.returns-in-Some-clause-scope
returns-in-Some-clause-scope c = λ _.
    let name : code_name c.args.number ≡ Some c.in-Some.field-0.now = search rules in
    let scope : to_z w32 (of_z w32 c.number_of_scope.result) ≡ scope_number (code_scope c.args.number) = search rules in
    (c.in-Some.field-0.now, name, scope)
