use Rattle.std.proofs.Common.{◌<◌, ◌^◌, true, length, refl, rules, arith}
use Rattle.wtp_core.specs.Source.{all_ahead}
use Rattle.wtransport_proto.specs.Rule.{RemoteBi}
use Rattle.wtransport_proto.specs.Run.{Ended}
use Rattle.wtransport_proto.specs.Streams.{first_of}
use Rattle.wtransport_proto.proofs.HeldRunLemmas.{frame_run, unknown_run}
use Rattle.wt_bench.proofs.CountLemmas.{counted_none, counted_frame, counted_same, counted_few, run_ahead}
use Rattle.wt_bench.proofs.frames.wt_bench_poll.Goals as goal
use Rattle.wt_bench.proofs.frames.wt_bench_poll.Goals.{in-Ready-Ok, in-Again}

pub loop-turn-init : goal.loop-turn-init
loop-turn-init c = rw (c.upgrade-stream.ensures, c.new-reading.ensures, run_ahead RemoteBi true c.args.bytes.now) (counted_none _)

pub overflow_add-frames : goal.overflow_add-frames
overflow_add-frames c =
    let small : length c.args.bytes.now < 2 ^ 63 = search rules in
    omega (arith, small, counted_few c.loop-turn.frames _ RemoteBi true c.args.bytes.now Ended c.loop-turn.invariant)

pub answer-requires : goal.answer-requires
answer-requires c =
    let small : length c.args.bytes.now < 2 ^ 63 = search rules in
    omega (arith, small, counted_few c.loop-turn.frames _ RemoteBi true c.args.bytes.now Ended c.loop-turn.invariant)

pub loop-turn-preserved : goal.loop-turn-preserved
loop-turn-preserved c =
    let a = all_ahead c.loop-turn.source.now in
    let b = all_ahead c.read_frame_async.new.source.now in
    let f0 = first_of c.loop-turn.stream in
    let f1 = first_of c.read_frame_async.new.self in
    elim c.match-read_frame_async.branch [
      | in-Ready-Ok w ↦ rw w.frames-is (counted_frame _ w.in-Ready-Ok.field-0-0 _ _ _ (frame_run RemoteBi f0 f1 c.loop-turn.reading c.read_frame_async.new.reading w.in-Ready-Ok.field-0-0 a b (rw w.in-Ready-Ok.field-0-is at w.in-Ready-Ok.ensures.polled) refl) c.loop-turn.invariant)
      | in-Again w ↦ rw w.frames-is (counted_same _ _ _ _ (unknown_run RemoteBi f0 f1 c.loop-turn.reading c.read_frame_async.new.reading a b w.in-Again.ensures.polled refl) c.loop-turn.invariant)
    ]
