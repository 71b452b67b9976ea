use Rattle.std.specs.List.{flat_map}
use Rattle.wtp_qpack.specs.FieldLine.{encoded_line}
use Rattle.wtp_qpack.proofs.RoundTrip.{octet_line_again, octet_lines_again, prefix_again}
use Rattle.wtp_qpack.proofs.laws.lines.lines_again.Goals as goal

pub returns : goal.returns
returns c = record { line = octet_line_again; section = λ fields are. (flat_map encoded_line fields, prefix_again fields, octet_lines_again fields are) }
