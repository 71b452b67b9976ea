use Rattle.std.specs.Prelude.{Some, None}
use Rattle.std.specs.List.{flat_map}
use Rattle.wtp_qpack.specs.FieldLine.{shortest_line}
use Rattle.wtp_qpack.proofs.RoundTrip.{shortest_line_again, shortest_lines_again, shortest_prefix}
use Rattle.wtp_qpack.proofs.ShortestLines.{line_found}
use Rattle.wtp_qpack.proofs.laws.lines.shortest_lines.Goals as goal

pub returns : goal.returns
returns c =
    record {
      indexed = λ field index found. line_found field (Some index) found;
      literal = λ field none. line_found field None none;
      line = shortest_line_again;
      section = λ fields are. (flat_map shortest_line fields, shortest_prefix fields, shortest_lines_again fields are);
    }
