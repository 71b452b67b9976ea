use Rattle.wt_inspection.proofs.SectionLemmas.{line_shorter, lines_more}
use Rattle.wt_inspection.proofs.fields.read_lines.Goals as goal

pub loop-rest-smaller : goal.loop-rest-smaller
loop-rest-smaller c = line_shorter _ _ _ _ _ _ c.in-Ok.ensures

pub loop-rest-preserved : goal.loop-rest-preserved
loop-rest-preserved c = rw c.in_ok-push-in-Ok.ensures.items (lines_more _ _ _ _ _ _ c.loop-rest.invariant c.in-Ok.ensures)
