use Rattle.std.proofs.Common.{length}
use Rattle.wtransport_proto.proofs.ReadingLemmas.{SkipsFrames}
use Rattle.wtransport_proto.proofs.stream.cursor.take_known.Given as goal

abbrev pub invariant-frames : goal.invariant-frames
invariant-frames l = SkipsFrames l.fn.rest.now l.rest.now

abbrev pub decreases-frames : goal.decreases-frames
decreases-frames l = length l.rest.now
