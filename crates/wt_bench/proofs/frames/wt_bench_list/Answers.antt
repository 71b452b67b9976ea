use Rattle.std.proofs.Common.{◌<◌, ◌^◌, true, length, rules, arith}
use Rattle.wtransport_proto.specs.Rule.{RemoteBi}
use Rattle.wtransport_proto.specs.Run.{MayGoOn}
use Rattle.wt_bench.proofs.CountLemmas.{counted_few}
use Rattle.wt_bench.proofs.frames.wt_bench_list.Goals as goal

pub overflow_add-frames : goal.overflow_add-frames
overflow_add-frames c =
    let small : length c.args.bytes.now < 2 ^ 63 = search rules in
    omega (arith, small, counted_few c.frames.frames _ RemoteBi true c.args.bytes.now MayGoOn c.frames.invariant)

pub answer-requires : goal.answer-requires
answer-requires c =
    let small : length c.args.bytes.now < 2 ^ 63 = search rules in
    omega (arith, small, counted_few c.frames.frames _ RemoteBi true c.args.bytes.now MayGoOn c.frames.invariant)
