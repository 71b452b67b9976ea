use Rattle.std.proofs.Common.{◌∙◌, sym}
use Rattle.wtp_dynamic.specs.SectionView.{prefix_of}
use Rattle.wtp_dynamic_fields.proofs.OpenLemmas.{prefix_refused, error_there}
use Rattle.wtp_dynamic_fields.proofs.section.decode_with_table.Goals as goal

pub returns-in-Err-clause-read : goal.returns-in-Err-clause-read
returns-in-Err-clause-read c = rw c.from.ensures (prefix_refused c.args.limit c.args.table.now c.args.section.now c.in-Err.fault c.in-Err.ensures)

pub returns-in-Err-read_lines-clause-read : goal.returns-in-Err-read_lines-clause-read
returns-in-Err-read_lines-clause-read c =
    error_there c.args.limit c.args.table.now c.args.section.now (prefix_of c.in-Ok.prefix) c.new-lines.result c.in-Ok.prefix.lines.now c.in-Err-read_lines.fault c.in-Ok.ensures (sym c.is_blocked.ensures ∙ c.if-is_blocked.false) c.new-lines.ensures c.in-Err-read_lines.ensures.read
