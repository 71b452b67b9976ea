use Rattle.wtp_dynamic_fields.proofs.StaticLines.{any_line, none_line, coded_line}
use Rattle.wtp_dynamic_fields.proofs.StaticSections.{lines_again, lines_back}
use Rattle.wtp_dynamic_fields.proofs.laws.lines_are_read_alike.Goals as goal

pub returns : goal.returns
returns c = record { any = any_line; none = none_line; coded = coded_line; again = lines_again; back = lines_back }
