use Rattle.std.proofs.Common.{rules}
use Rattle.std.proofs.lemmas.Result.{err_from_is_err_and}
use Rattle.wtp_fields.proofs.session.request_of_frame.Goals as goal

pub returns-in_err-headers-clause-memory : goal.returns-in_err-headers-clause-memory
returns-in_err-headers-clause-memory c = λ memory.
    let p = err_from_is_err_and c.from_residual.result c.from_residual.ensures.1 in
    (search rules, c.in_err-headers.ensures.memory (cc (p.1, p.2, memory)))
