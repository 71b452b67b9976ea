use Rattle.std.proofs.Common.{true, arith}
use Rattle.wtp_webtransport.proofs.AheadLemmas.{piece_given}
use Rattle.wtp_webtransport.proofs.connection.Connection.receive_piece.Goals as goal

pub overflow_sub-ahead : goal.overflow_sub-ahead
overflow_sub-ahead c = omega (arith, (c.in_ok-ahead.ensures.finds true).fits.0)

pub part_of-requires-clause-order : goal.part_of-requires-clause-order
part_of-requires-clause-order c = omega (arith, (c.in_ok-ahead.ensures.finds true).fits.0)

pub part_of-requires-clause-within : goal.part_of-requires-clause-within
part_of-requires-clause-within c = (c.in_ok-ahead.ensures.finds true).fits.1

pub returns : goal.returns
returns c = rw (c.pass.ensures, c.part_of.ensures) (piece_given c.args.self.now c.args.stream.now c.counts.new.self c.args.bytes.now c.in_ok-ahead.ahead c.if-self.false c.in_ok-ahead.ensures (rw c.if-not-counts.false at c.counts.ensures))
