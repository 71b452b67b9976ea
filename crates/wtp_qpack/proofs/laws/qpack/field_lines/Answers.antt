use Rattle.wtp_qpack.proofs.RoundTrip.{text_line_again}
use Rattle.wtp_qpack.proofs.laws.qpack.field_lines.Goals as goal

pub returns : goal.returns
returns c = text_line_again
