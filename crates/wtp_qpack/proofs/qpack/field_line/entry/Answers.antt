use Rattle.std.proofs.Common.{sym, ap}
use Rattle.wtp_qpack.specs.FieldLine.{or_not_found}
use Rattle.wtp_qpack.proofs.qpack.field_line.entry.Goals as goal

pub returns-in-Some : goal.returns-in-Some
returns-in-Some c = ap or_not_found (sym c.in-Some.ensures)

pub returns-in-None : goal.returns-in-None
returns-in-None c = ap or_not_found (sym c.in-None.ensures)
