use Rattle.wtp_qpack.proofs.LineTexts.{line_texts, line_fault}
use Rattle.wtp_qpack.proofs.laws.lines.lines_of_texts.Goals as goal

pub returns : goal.returns
returns c = record { line = line_texts; fault = line_fault }
