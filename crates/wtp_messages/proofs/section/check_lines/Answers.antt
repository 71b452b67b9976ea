use Rattle.std.proofs.Common.{sym}
use Rattle.wtp_qpack.specs.FieldLines.{seen_line}
use Rattle.wtp_messages.specs.Section.{line_breaks}
use Rattle.wtp_messages.proofs.LineLemmas.{without_line, with_line, line_error}
use Rattle.wtp_messages.proofs.section.check_lines.Goals as goal

pub loop-line-preserved : goal.loop-line-preserved
loop-line-preserved c = λ rule.
    without_line (line_breaks c.args.kind rule) (seen_line c.in-Some.line) c.next.new.self _ (c.in_ok-check_line.ensures rule) (rw c.in-Some.ensures.steps at (c.loop-line.invariant rule))

pub returns-in_err-check_line : goal.returns-in_err-check_line
returns-in_err-check_line c =
    let rule = c.in_err-check_line.field-0.0 in
    line_error c.args.kind c.args.list.now rule c.from_residual.result c.from_residual.ensures.1
    (with_line (line_breaks c.args.kind rule) (seen_line c.in-Some.line) c.next.new.self _ c.in_err-check_line.ensures (rw c.in-Some.ensures.steps at (c.loop-line.invariant rule)))

pub returns : goal.returns
returns c = λ rule. sym (rw c.in_default.ensures.steps.0 at (c.loop-line.invariant rule))
