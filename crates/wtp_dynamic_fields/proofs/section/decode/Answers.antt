use Rattle.wtp_dynamic_fields.proofs.OpenLemmas.{error_after, refusal_given}
use Rattle.wtp_dynamic_fields.proofs.section.decode.Goals as goal

pub returns-in-Err-read_lines-clause-read : goal.returns-in-Err-read_lines-clause-read
returns-in-Err-read_lines-clause-read c =
    error_after c.args.limit c.args.stream c.args.section.now c.args.decoder.now c.open.new.self c.table.result.now c.in-Ok-Lines.lines.0 c.in-Err-read_lines.fault (rw c.in-Ok-Lines.field-0-is at c.in-Ok-Lines.ensures).0 c.table.ensures c.in-Err-read_lines.ensures.read

pub returns-in-Err-clause-read : goal.returns-in-Err-clause-read
returns-in-Err-clause-read c = rw c.from.ensures (refusal_given c.args.limit c.args.stream c.args.section.now c.args.decoder.now c.open.new.self c.in-Err.fault c.in-Err.ensures)
