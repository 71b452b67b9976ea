use Rattle.std.proofs.Common.{length, map}
use Rattle.wtp_dynamic.specs.SectionView.{prefix_of}
use Rattle.wt_inspection.specs.Sections.{AreLines, line_at, shown_of}
use Rattle.wt_inspection.proofs.fields.read_lines.Given as goal

abbrev pub invariant-loop-rest : goal.invariant-loop-rest
invariant-loop-rest l = AreLines (line_at l.is_known l.table (prefix_of l.prefix)) l.prefix.lines.now (map shown_of l.lines.items) l.rest

abbrev pub decreases-loop-rest : goal.decreases-loop-rest
decreases-loop-rest l = length l.rest
