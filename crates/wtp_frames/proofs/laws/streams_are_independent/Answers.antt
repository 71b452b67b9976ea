use Rattle.wtp_frames.proofs.PieceLemmas.{interleaved}
use Rattle.wtp_frames.proofs.laws.streams_are_independent.Goals as goal

pub returns : goal.returns
returns c = interleaved
