use Rattle.wt_inspection_views.proofs.PaintingLemmas.{added_begun, added_in}
use Rattle.wt_inspection_views.proofs.painting.add_byte.Goals as goal

pub returns-in-Some : goal.returns-in-Some
returns-in-Some c =
    added_in c.add_to_line.result c.args.line _ c.args.painted.now.items c.add_to_line.new.painted.items c.args.byte c.in-Some.is c.add_to_line.ensures

pub returns-in_ok-extend_from_slice-in-None : goal.returns-in_ok-extend_from_slice-in-None
returns-in_ok-extend_from_slice-in-None c =
    added_begun c.add_to_line-in-None.result c.args.line c.args.next c.args.painted.now.items c.extend_from_slice.new.self.items c.add_to_line-in-None.new.painted.items _ c.args.byte c.in-None.is c.sequence_of.ensures c.in_ok-extend_from_slice-in-None.ensures.items c.add_to_line-in-None.ensures
