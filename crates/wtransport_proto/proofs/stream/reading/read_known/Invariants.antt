use Rattle.std.proofs.Common.{◌≡◌, length}
use Rattle.wtransport_proto.proofs.ReadingLemmas.{SkipsFrames}
use Rattle.wtransport_proto.proofs.stream.reading.read_known.Given as goal

abbrev pub invariant-frames : goal.invariant-frames
invariant-frames g l = SkipsFrames (g.R.BytesReader.left l.fn.reader) (g.R.BytesReader.left l.reader) × (g.R.BytesReader.kept l.reader ≡ g.R.BytesReader.kept l.fn.reader)

abbrev pub decreases-frames : goal.decreases-frames
decreases-frames g l = length (g.R.BytesReader.left l.reader)
