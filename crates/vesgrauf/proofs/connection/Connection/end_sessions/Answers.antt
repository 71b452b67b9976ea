use Rattle.vesgrauf.proofs.ActLemmas.{act_trans}
use Rattle.vesgrauf.proofs.StepLemmas.{left_trans}
use Rattle.vesgrauf.proofs.GoesSteps.{goes_on}
use Rattle.std.proofs.Common.{◌∙◌, []}
use Rattle.vesgrauf.proofs.connection.Connection.end_sessions.Goals as goal

pub loop-session-preserved : goal.loop-session-preserved
loop-session-preserved c =
    record {
      goes = goes_on [] c.args.self.now c.loop-session.self c.end_one.new.self c.loop-session.invariant.goes c.end_one.ensures.goes;
      left = left_trans c.loop-session.invariant.left c.end_one.ensures.left;
      config = c.end_one.ensures.config ∙ c.loop-session.invariant.config;
      works = act_trans c.loop-session.invariant.works c.end_one.ensures.works;
    }
