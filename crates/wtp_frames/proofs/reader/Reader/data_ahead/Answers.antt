use Rattle.wtp_frames.proofs.AheadLemmas.{is_open, if_within}
use Rattle.wtp_frames.proofs.reader.Reader.data_ahead.Goals as goal

pub returns-else-not-self : goal.returns-else-not-self
returns-else-not-self c = if_within c.part.result c.args.self.now c.args.bytes.now (is_open c.args.self.now.place c.in-Body.is) c.if-self-eq0.false c.if-not-self.false c.part.ensures
