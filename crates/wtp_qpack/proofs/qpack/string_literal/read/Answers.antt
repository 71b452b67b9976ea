use Rattle.std.proofs.Common.{arith}
use Rattle.std.proofs.lemmas.Result.{err_from_is_err_and}
use Rattle.wtp_qpack.proofs.StringReading.{int_shorter, int_not_memory}
use Rattle.wtp_qpack.proofs.qpack.string_literal.read.Goals as goal

pub returns-in_err-size-clause-memory : goal.returns-in_err-size-clause-memory
returns-in_err-size-clause-memory g c = λ memory.
    let p = err_from_is_err_and c.from_residual.result c.from_residual.ensures.1 in
    absurd (int_not_memory g.row.N c.args.bytes.now (cc (c.in_err-size.ensures, p.1, p.2, memory)))

pub has_flag-requires-clause-byte : goal.has_flag-requires-clause-byte
has_flag-requires-clause-byte g c = omega (arith, int_shorter _ _ _ _ c.in_ok-size.ensures)

pub returns-then-not-has_flag-clause-size : goal.returns-then-not-has_flag-clause-size
returns-then-not-has_flag-clause-size g c = omega (arith, int_shorter _ _ _ _ c.in_ok-size.ensures, c.split_at.ensures.back_len)

pub decode-requires : goal.decode-requires
decode-requires g c = record { fits = omega (arith, int_shorter _ _ _ _ c.in_ok-size.ensures, c.split_at.ensures.front_len, c.if-size-rest.false, c.requires.fits) }

pub returns-clause-size : goal.returns-clause-size
returns-clause-size g c = omega (arith, int_shorter _ _ _ _ c.in_ok-size.ensures, c.split_at.ensures.front_len, c.split_at.ensures.back_len, c.if-size-rest.false, c.in_ok-decode.ensures.size)
