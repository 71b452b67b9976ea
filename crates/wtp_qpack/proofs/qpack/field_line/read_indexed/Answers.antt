use Rattle.std.proofs.Common.{rules}
use Rattle.std.proofs.lemmas.Result.{err_from_is_err_and}
use Rattle.wtp_qpack.specs.FieldLine.{indexed_at}
use Rattle.wtp_qpack.proofs.StringReading.{int_not_memory}
use Rattle.wtp_qpack.proofs.qpack.field_line.read_indexed.Goals as goal

pub returns-in_err-index-clause-read : goal.returns-in_err-index-clause-read
unfolding indexed_at
returns-in_err-index-clause-read c = λ room. search rules

pub returns-in_err-index-clause-memory : goal.returns-in_err-index-clause-memory
returns-in_err-index-clause-memory c = λ memory.
    let p = err_from_is_err_and c.from_residual.result c.from_residual.ensures.1 in
    int_not_memory 6 c.args.bytes.now (cc (c.in_err-index.ensures, p.1, p.2, memory))

pub returns-in_err-name-clause-read : goal.returns-in_err-name-clause-read
unfolding indexed_at
returns-in_err-name-clause-read c = λ room. search rules

pub returns-clause-read : goal.returns-clause-read
unfolding indexed_at
returns-clause-read c = λ room. search rules
