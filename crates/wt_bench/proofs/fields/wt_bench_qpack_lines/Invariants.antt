use Rattle.std.proofs.Common.{length}
use Rattle.wt_bench.proofs.SizeLemmas.{IsSize}
use Rattle.wt_bench.proofs.fields.wt_bench_qpack_lines.Given as goal

abbrev pub invariant-lines : goal.invariant-lines
invariant-lines l = IsSize l.section l.lines l.size

abbrev pub decreases-lines : goal.decreases-lines
decreases-lines l = length l.lines
