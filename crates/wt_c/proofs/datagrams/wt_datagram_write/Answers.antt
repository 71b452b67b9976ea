use Rattle.std.proofs.Common.{◌<◌, ◌^◌, length, rules, arith}
use Rattle.wtp_core.proofs.LeastLemmas.{at_most_8}
use Rattle.wt_c.proofs.datagrams.wt_datagram_write.Goals as goal

pub write_size-requires : goal.write_size-requires
write_size-requires c =
    let small : length c.args.payload.now < 2 ^ 63 = search rules in
    rw c.new-datagram.ensures (omega (arith, small, at_most_8 c.from_session_id.result))
