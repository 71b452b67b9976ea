use Rattle.std.proofs.Common.{◌≡◌, take, arith}
use Rattle.wtp_qpack.proofs.StringWriting.{encoded_raw, taken_back, written_after}
use Rattle.wtp_qpack.proofs.qpack.string_literal.write_short.Goals as goal

pub returns-then-size-text : goal.returns-then-size-text
returns-then-size-text g c =
    let written = written_after g.row.N c.args.flags c.len-start.result _ c.only_byte.result c.args.text.now c.args.out.now.items _ c.append.new.out.items (omega (arith, c.len-start.ensures))
    (omega (arith, c.len.ensures)) c.if-size-text.true c.in_ok-push.ensures.items c.in_ok-append.ensures.coded c.only_byte.ensures in
    record { ok = written; front = record { more = _; is = written } }

pub returns-clause-ok : goal.returns-clause-ok
returns-clause-ok g c =
    let back = taken_back c.len-start.result _ c.args.text.now c.args.out.now.items _ c.append.new.out.items (omega (arith, c.len-start.ensures)) (omega (arith, c.len.ensures)) c.if-size-text.false
    c.in_ok-push.ensures.items c.in_ok-append.ensures.coded in
    let kept : _ ≡ take c.len-start.result c.append.new.out.items = c.truncate.ensures.items in
    rw (encoded_raw g.row.N c.args.flags c.args.text.now back.1) (rw (kept, back.0) at c.write_plain.ensures.ok)
