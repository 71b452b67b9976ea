use Rattle.std.proofs.Common.{true, length}
use Rattle.wtp_core.specs.Cursor.{left_of}
use Rattle.wtransport_proto.specs.Rule.{RemoteBi}
use Rattle.wtransport_proto.specs.Run.{run, MayGoOn}
use Rattle.wtransport_proto.specs.Streams.{first_of}
use Rattle.wt_bench.proofs.CountLemmas.{IsCounted}
use Rattle.wt_bench.proofs.frames.wt_bench_list.Given as goal

abbrev pub invariant-frames : goal.invariant-frames
invariant-frames l = IsCounted l.frames (run RemoteBi (first_of l.stream) (left_of l.reader) MayGoOn) (run RemoteBi true l.bytes MayGoOn)

abbrev pub decreases-frames : goal.decreases-frames
decreases-frames l = length (run RemoteBi (first_of l.stream) (left_of l.reader) MayGoOn).frames
