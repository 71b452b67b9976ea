use Rattle.std.proofs.Common.{◌≡◌, ◌*◌, min, drop}
use Rattle.wtp_qpack.specs.Integer.{groups_at}
use Rattle.wtp_qpack.proofs.qpack.integer.read_groups.Given as goal

abbrev pub invariant-loop-k : goal.invariant-loop-k
invariant-loop-k l =
    record {
      so_far : groups_at l.value l.k (drop l.k l.bytes) ≡ groups_at l.prefix 0 l.bytes;
      capped : l.shift ≡ min (7 * l.k) 70;
    }
