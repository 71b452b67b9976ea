use Rattle.std.proofs.Common.{◌≡◌, ◌≤◌, ◌++◌, None, length}
use Rattle.wtp_wire.specs.Settings.{pair_at}
use Rattle.wtp_webtransport.proofs.capsules.take_head.Given as goal

abbrev pub invariant-bytes : goal.invariant-bytes
invariant-bytes l =
    (pair_at l.head.items ≡ None) × (l.head.items ++ l.bytes.now ≡ l.fn.head.items ++ l.fn.bytes.now) × (length l.bytes.now ≤ length l.fn.bytes.now)

abbrev pub decreases-bytes : goal.decreases-bytes
decreases-bytes l = length l.bytes.now
