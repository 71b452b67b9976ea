use Rattle.std.proofs.Common.{sym, ◌∙◌}
use Rattle.wtp_frames.proofs.FirstLemmas.{exact_payload, exact_whole, exact_unaccepted}
use Rattle.wtp_frames.proofs.MoveLemmas.{stuck_payload, whole_move, unaccepted_move}
use Rattle.wtp_frames.proofs.reader.Reader.take_frame.Goals as goal

pub returns-then-size-bytes-clause-moves : goal.returns-then-size-bytes-clause-moves
returns-then-size-bytes-clause-moves c = stuck_payload c.args.self.now c.args.bytes.now c.args.kind c.args.number c.args.size c.args.start (record { intact = c.requires.intact; none = c.requires.none }) c.requires.kind c.requires.head c.requires.within c.requires.given c.if-size-bytes.true

pub returns-in-Ok-clause-moves : goal.returns-in-Ok-clause-moves
returns-in-Ok-clause-moves c = whole_move c.args.self.now c.args.bytes.now c.args.kind c.args.number c.args.size c.args.start c.in-Ok.place (record { intact = c.requires.intact; none = c.requires.none }) c.requires.kind c.requires.head c.requires.within c.requires.given c.if-size-bytes.false (sym c.accept.ensures ∙ c.in-Ok.is)

pub returns-in-Err-clause-moves : goal.returns-in-Err-clause-moves
returns-in-Err-clause-moves c = unaccepted_move c.args.self.now c.args.bytes.now c.args.kind c.args.number c.args.size c.args.start c.in-Err.fault (record { intact = c.requires.intact; none = c.requires.none }) c.requires.kind c.requires.head c.requires.within c.requires.given c.if-size-bytes.false (sym c.accept.ensures ∙ c.in-Err.is)

pub returns-then-size-bytes-clause-exact : goal.returns-then-size-bytes-clause-exact
returns-then-size-bytes-clause-exact c = exact_payload c.args.self.now c.args.bytes.now c.args.kind c.args.number c.args.size c.args.start (record { intact = c.requires.intact; none = c.requires.none }) c.requires.kind c.requires.head c.requires.within c.requires.given c.if-size-bytes.true

pub returns-in-Ok-clause-exact : goal.returns-in-Ok-clause-exact
returns-in-Ok-clause-exact c = exact_whole c.args.self.now c.args.bytes.now c.args.kind c.args.number c.args.size c.args.start c.in-Ok.place (record { intact = c.requires.intact; none = c.requires.none }) c.requires.kind c.requires.head c.requires.within c.requires.given c.if-size-bytes.false (sym c.accept.ensures ∙ c.in-Ok.is)

pub returns-in-Err-clause-exact : goal.returns-in-Err-clause-exact
returns-in-Err-clause-exact c = exact_unaccepted c.args.self.now c.args.bytes.now c.args.kind c.args.number c.args.size c.args.start c.in-Err.fault (record { intact = c.requires.intact; none = c.requires.none }) c.requires.kind c.requires.head c.requires.within c.requires.given c.if-size-bytes.false (sym c.accept.ensures ∙ c.in-Err.is)
