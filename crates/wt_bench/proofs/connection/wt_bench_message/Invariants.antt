use Rattle.std.proofs.Common.{◌≡◌}
use Rattle.wt_bench.specs.Bodies.{IsWithin, request_size, size_from}
use Rattle.wt_bench.proofs.connection.wt_bench_message.Given as goal

abbrev pub invariant-loop-turn : goal.invariant-loop-turn
invariant-loop-turn l = IsWithin l.at l.bytes × (size_from l.reader l.at l.bytes ≡ request_size l.bytes)
