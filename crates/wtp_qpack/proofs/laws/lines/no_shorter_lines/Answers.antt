use Rattle.wtp_qpack.proofs.ShortestLengths.{line_least, section_least}
use Rattle.wtp_qpack.proofs.laws.lines.no_shorter_lines.Goals as goal

pub returns : goal.returns
returns c = record { line = line_least; section = section_least }
