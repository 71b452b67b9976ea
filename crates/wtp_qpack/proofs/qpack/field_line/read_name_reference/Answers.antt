use Rattle.std.proofs.Common.{arith}
use Rattle.std.proofs.lemmas.Result.{err_from_is_err_and}
use Rattle.wtp_qpack.proofs.StringReading.{int_shorter, int_not_memory}
use Rattle.wtp_qpack.proofs.qpack.field_line.read_name_reference.Goals as goal

pub returns-in_err-index-clause-memory : goal.returns-in_err-index-clause-memory
returns-in_err-index-clause-memory c = λ memory.
    let p = err_from_is_err_and c.from_residual.result c.from_residual.ensures.1 in
    absurd (int_not_memory 4 c.args.bytes.now (cc (c.in_err-index.ensures, p.1, p.2, memory)))

pub read-requires-2-clause-fits : goal.read-requires-2-clause-fits
read-requires-2-clause-fits c = omega (arith, int_shorter _ _ _ _ c.in_ok-index.ensures, c.requires.none)
