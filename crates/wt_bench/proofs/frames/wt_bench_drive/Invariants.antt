use Rattle.std.proofs.Common.{true}
use Rattle.wtp_core.specs.Source.{all_ahead}
use Rattle.wtransport_proto.specs.HeldRun.{run_of}
use Rattle.wtransport_proto.specs.Rule.{RemoteBi}
use Rattle.wtransport_proto.specs.Run.{run, Ended}
use Rattle.wtransport_proto.specs.Streams.{first_of}
use Rattle.wt_bench.proofs.CountLemmas.{IsCounted}
use Rattle.wt_bench.proofs.frames.wt_bench_drive.Given as goal

abbrev pub invariant-loop-turn : goal.invariant-loop-turn
invariant-loop-turn l = IsCounted l.frames (run_of RemoteBi (first_of l.stream) l.reading (all_ahead l.source)) (run RemoteBi true l.bytes Ended)
