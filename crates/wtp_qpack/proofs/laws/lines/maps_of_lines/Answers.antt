use Rattle.wtp_qpack.proofs.LineTexts.{map_lines, map_texts, map_line_fault, map_not_text}
use Rattle.wtp_qpack.proofs.laws.lines.maps_of_lines.Goals as goal

pub returns : goal.returns
returns c =
    record {
      found = λ section m e. let of = map_lines section m e in (of.lines, of.fields, of.prefix, of.are, of.texts, of.is);
      map = map_texts;
      fault = map_line_fault;
      not_text = map_not_text;
    }
