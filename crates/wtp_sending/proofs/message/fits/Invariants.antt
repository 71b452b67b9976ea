use Rattle.std.proofs.Common.{◌≡◌, ◌+◌}
use Rattle.wtp_fields.specs.FieldList.{list_size}
use Rattle.wtp_sending.proofs.message.fits.Given as goal

abbrev pub invariant-loop-line : goal.invariant-loop-line
invariant-loop-line l = list_size l.list + l.left ≡ list_size l.lines + l.limit
