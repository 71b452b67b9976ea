use Rattle.wtp_fields.specs.FieldLines.{seen_line}
use Rattle.wt_bench.proofs.SizeLemmas.{size_on}
use Rattle.wt_bench.proofs.fields.wt_bench_qpack_lines.Goals as goal

pub lines-preserved : goal.lines-preserved
lines-preserved c = size_on c.args.section.now c.lines.lines c.next_line.new.self c.lines.size c.in-Some.sum (seen_line c.in-Some-Ok.line) c.lines.invariant (rw c.in-Some-Ok.field-0-is at c.in-Some-Ok.ensures.line) c.in-Some.ensures
