use Rattle.wtp_qpack.specs.FieldLines.{seen_line}
use Rattle.wtp_fields.proofs.FieldListLemmas.{one_read, prefix_fault}
use Rattle.wtp_fields.proofs.fields.FieldList.decode.Goals as goal

pub returns-in_err-lines-clause-read : goal.returns-in_err-lines-clause-read
returns-in_err-lines-clause-read c = prefix_fault c.args.limit c.args.section.now c.in_err-lines.field-0.0 c.from_residual.result c.from_residual.ensures.1 c.in_err-lines.ensures

pub lines-preserved : goal.lines-preserved
lines-preserved c =
    let line = rw c.in-Some-Ok.field-0-is at c.in-Some-Ok.ensures.line in
    rw (c.in_ok-append-in-Some.ensures.ok, c.in-Some.ensures.1) (one_read c.args.limit c.args.section.now c.lines.list c.lines.lines c.lines.left (seen_line c.in-Some-Ok.line) c.next_line.new.self c.lines.invariant line c.in-Some.ensures.0)
