use Rattle.std.proofs.Common.{◌≡◌, ◌-◌, List, ℕ, take, drop, length, arith}
use Rattle.std.proofs.lemmas.Grind.{common_steps}
use Rattle.wtp_wire.proofs.HeadPairLemmas.{head_at-pair}
use Rattle.wtp_wire.proofs.frame.head.first_head.Goals as goal

pub returns-clause-head : goal.returns-clause-head
returns-clause-head c =
    let size : ℕ = c.in_ok-pair.pair.size in
    let rest : List ℕ = drop size c.args.bytes.now in
    let all : take (length c.args.bytes.now - size) rest ≡ rest = grind (arith, common_steps) in
    rw (all, c.classify_head.ensures.announces) (head_at-pair _ _ _ _ c.in_ok-pair.ensures.found)
