use Rattle.vesgrauf.specs.Items.{Asks}
use Rattle.vesgrauf.proofs.KeepsLemmas.{keeps_then}
use Rattle.vesgrauf.specs.Keeps.{Keeps}
use Rattle.std.proofs.Common.{[], arith, ◌∷◌}
use Rattle.vesgrauf.proofs.connection.Connection.session_came.Goals as goal

pub returns-in_err-tell_stop-clause-keeps : goal.returns-in_err-tell_stop-clause-keeps
returns-in_err-tell_stop-clause-keeps c =
    let h : Keeps [] c.args.self.now c.tell_stop.new.self = keeps_then c.tell_session.ensures.quiet c.tell_stop.ensures.keeps in
    grind (arith, h)

pub returns-then-has_all_sessions-clause-hands : goal.returns-then-has_all_sessions-clause-hands
returns-then-has_all_sessions-clause-hands c = c.turn_away.ensures.hands (Asks c.args.list ∷ [])
