use Rattle.std.proofs.Common.{◌∙◌, arith}
use Rattle.wtp_dynamic_decoder.specs.Lines.{seen_line}
use Rattle.wtp_dynamic_fields.proofs.LineLemmas.{one_read, exceeded, copy_refused, memory_given}
use Rattle.wtp_dynamic_fields.proofs.section.read_lines.Goals as goal

pub returns-in-None-left_after-clause-read : goal.returns-in-None-left_after-clause-read
returns-in-None-left_after-clause-read c =
    let line = rw c.in-Some-Ok.field-0-is at c.in-Some-Ok.ensures.line in
    rw (← c.lines.invariant.same) (exceeded c.args.limit c.args.table.now c.lines.lines.0 c.lines.list c.lines.lines.1 c.lines.left (seen_line c.in-Some-Ok.line) c.next_line.new.self.1 c.lines.invariant.read line (omega (arith, c.in-None-left_after.ensures)))

pub lines-preserved : goal.lines-preserved
lines-preserved c =
    let line = rw c.in-Some-Ok.field-0-is at c.in-Some-Ok.ensures.line in
    record {
      same = c.in-Some-Ok.ensures.section ∙ c.lines.invariant.same;
      read = rw (c.in-Some-Ok.ensures.section, c.in_ok-append-in-Some.ensures.ok, c.in-Some.ensures.1) (one_read c.args.limit c.args.table.now c.lines.lines.0 c.lines.list c.lines.lines.1 c.lines.left (seen_line c.in-Some-Ok.line) c.next_line.new.self.1 c.lines.invariant.read line c.in-Some.ensures.0);
    }

pub returns-in_err-append-in-Some-clause-read : goal.returns-in_err-append-in-Some-clause-read
returns-in_err-append-in-Some-clause-read c =
    let line = rw c.in-Some-Ok.field-0-is at c.in-Some-Ok.ensures.line in
    rw (← c.lines.invariant.same) (memory_given c.args.limit c.args.table.now c.lines.lines.0 c.from_residual.result c.from_residual.ensures.1 (copy_refused c.args.limit c.args.table.now c.lines.lines.0 c.lines.list c.lines.lines.1 c.lines.left (seen_line c.in-Some-Ok.line) c.next_line.new.self.1 c.lines.invariant.read line c.in-Some.ensures.0))
