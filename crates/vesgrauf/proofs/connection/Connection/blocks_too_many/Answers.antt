use Rattle.vesgrauf.proofs.TableSteps.{keeps_blocked}
use Rattle.vesgrauf.proofs.connection.Connection.blocks_too_many.Goals as goal

pub returns : goal.returns
returns c = record {
  keeps = keeps_blocked _ _ c.args.self.now.shared c.too_many_blocked.new.self _ _ _ _ _ c.too_many_blocked.ensures;
}
