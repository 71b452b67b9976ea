use Rattle.std.proofs.lemmas.Result.{err_from_is_err_and}
use Rattle.wtp_qpack.proofs.StringReading.{int_not_memory}
use Rattle.wtp_dynamic.proofs.Chains.{memory_only}
use Rattle.wtp_dynamic.proofs.section.find_entry.Goals as goal

pub returns-in_err-index-clause-memory : goal.returns-in_err-index-clause-memory
returns-in_err-index-clause-memory g c = λ memory.
    let p = err_from_is_err_and c.from_residual.result c.from_residual.ensures.1 in
    let same = memory_only c.in_err-index.field-0.0 (cc (p.1, p.2, memory)) in
    int_not_memory g.row.N c.args.bytes.now (cc (c.in_err-index.ensures, same))
