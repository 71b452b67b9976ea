use Rattle.std.proofs.Common.{rules}
use Rattle.wtp_messages.proofs.LineLemmas.{length_found, no_length, section_error}
use Rattle.wtp_messages.proofs.section.check_section.Goals as goal

pub returns-in_err-check_lines : goal.returns-in_err-check_lines
returns-in_err-check_lines c = section_error c.args.kind c.args.list.now c.in_err-check_lines.field-0.0 c.from_residual.result c.from_residual.ensures.1 c.in_err-check_lines.ensures

pub returns : goal.returns
returns c = length_found c.args.kind c.args.list.now _ c.in_ok-check_lines.ensures (search rules) (search rules) (search rules) c.read_length.ensures

pub returns-then-not-announces : goal.returns-then-not-announces
returns-then-not-announces c = no_length c.args.kind c.args.list.now c.in_ok-check_lines.ensures (search rules) (search rules) (search rules)
