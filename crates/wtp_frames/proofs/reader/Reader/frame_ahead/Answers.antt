use Rattle.wtp_frames.proofs.AheadLemmas.{if_after}
use Rattle.wtp_frames.proofs.reader.Reader.frame_ahead.Goals as goal

pub returns : goal.returns
returns c = if_after c.part.result c.args.self.now c.args.bytes.now c.in_ok-number.len c.in_ok-number.start c.requires.place c.requires.none (rw c.if-number-ne0.false at c.in_ok-number.ensures.head) c.in_ok-number.ensures.within c.if-len-eq0.false c.part.ensures
