use Rattle.wt_inspection_views.proofs.PaintingLemmas.{line_ended_by, line_more}
use Rattle.wt_inspection_views.proofs.painting.add_to_line.Goals as goal

pub returns-then-byte-eq10 : goal.returns-then-byte-eq10
returns-then-byte-eq10 c = λ text is.
    line_ended_by text c.args.painted.now.items c.extend_from_slice.new.self.items c.push.new.self.items _ c.args.style c.args.byte c.if-byte-eq10.true c.reset_of.ensures c.in_ok-extend_from_slice.ensures.items c.in_ok-push.ensures.items is

pub returns : goal.returns
returns c = λ text is.
    line_more text c.args.painted.now.items c.push-2.new.self.items c.args.style c.args.byte c.if-byte-eq10.false c.in_ok-push-2.ensures.items is
