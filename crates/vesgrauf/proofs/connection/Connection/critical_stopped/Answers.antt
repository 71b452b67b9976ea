use Rattle.vesgrauf.proofs.TableSteps.{keeps_own_stopped}
use Rattle.vesgrauf.proofs.connection.Connection.critical_stopped.Goals as goal

pub returns : goal.returns
returns c = record {
  keeps = keeps_own_stopped _ _ c.args.self.now.shared c.stopped.new.self _ _ _ _ _ _ c.stopped.ensures;
}
