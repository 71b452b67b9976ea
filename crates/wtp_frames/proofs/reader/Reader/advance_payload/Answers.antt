use Rattle.std.proofs.Common.{arith}
use Rattle.wtp_frames.proofs.FirstLemmas.{exact_empty, exact_all, exact_rest}
use Rattle.wtp_frames.proofs.MoveLemmas.{stuck_empty, moves_all, moves_rest}
use Rattle.wtp_frames.proofs.reader.Reader.advance_payload.Goals as goal

pub returns-then-len-eq0-clause-moves : goal.returns-then-len-eq0-clause-moves
returns-then-len-eq0-clause-moves c = stuck_empty c.args.self.now c.args.bytes.now c.if-len-eq0.true

pub returns-then-len-self-clause-moves : goal.returns-then-len-self-clause-moves
returns-then-len-self-clause-moves c = rw c.payload_move.ensures (moves_all c.args.self.now c.args.bytes.now (record { intact = c.requires.intact; some = c.requires.some }) (omega arith) c.if-len-self.true)

pub returns-clause-moves : goal.returns-clause-moves
returns-clause-moves c = rw c.payload_move-2.ensures (moves_rest c.args.self.now c.args.bytes.now (record { intact = c.requires.intact; some = c.requires.some }) (omega (arith, c.if-len-self.false)))

pub returns-then-len-eq0-clause-exact : goal.returns-then-len-eq0-clause-exact
returns-then-len-eq0-clause-exact c = exact_empty c.args.self.now c.args.bytes.now c.if-len-eq0.true

pub returns-then-len-self-clause-exact : goal.returns-then-len-self-clause-exact
returns-then-len-self-clause-exact c = rw c.payload_move.ensures (exact_all c.args.self.now c.args.bytes.now (record { intact = c.requires.intact; some = c.requires.some }) c.if-len-self.true)

pub returns-clause-exact : goal.returns-clause-exact
returns-clause-exact c = rw c.payload_move-2.ensures (exact_rest c.args.self.now c.args.bytes.now (record { intact = c.requires.intact; some = c.requires.some }) (omega (arith, c.if-len-self.false)))
