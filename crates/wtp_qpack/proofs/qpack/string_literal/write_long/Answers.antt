use Rattle.std.proofs.Common.{arith}
use Rattle.wtp_qpack.proofs.StringWriting.{encoded_raw, written_coded}
use Rattle.wtp_qpack.proofs.qpack.string_literal.write_long.Goals as goal

pub returns-in_default-clause-ok : goal.returns-in_default-clause-ok
returns-in_default-clause-ok g c = rw (encoded_raw g.row.N c.args.flags c.args.text.now (omega (arith, c.in_default.ensures))) c.write_plain.ensures.ok

pub returns-clause-ok : goal.returns-clause-ok
returns-clause-ok g c =
    written_coded g.row.N c.args.flags c.in-Some.size c.args.text.now c.args.out.now.items _ c.append.new.out.items c.in-Some.ensures c.in_ok-write.ensures.ok c.in_ok-append.ensures.coded
