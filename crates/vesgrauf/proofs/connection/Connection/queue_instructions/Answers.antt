use Rattle.std.proofs.Common.{rules, refl}
use Rattle.vesgrauf.proofs.InstructionLemmas.{says_none, table_queued}
use Rattle.vesgrauf.proofs.TableSteps.{keeps_formed}
use Rattle.vesgrauf.proofs.connection.Connection.queue_instructions.Goals as goal
use Rattle.vesgrauf.proofs.connection.Connection.queue_instructions.Goals.{then-is_some+else-is_err, else-is_some}

pub returns-else-is_some-2-clause-ok : goal.returns-else-is_some-2-clause-ok
returns-else-is_some-2-clause-ok c = record {
  others = search (rules);
  decoder = search (rules);
  encoder = says_none _ _ c.args.self.now.encoder c.if-is_some-2.ensures (elim c.if-is_some.branch [
    | then-is_some+else-is_err w ↦ rw w.self-is refl
    | else-is_some w ↦ rw w.self-is refl
  ]);
  table = search (rules);
}

pub returns-then-is_err-2-clause-keeps : goal.returns-then-is_err-2-clause-keeps
returns-then-is_err-2-clause-keeps c = keeps_formed _ _ _ _ _ _ _ _ _ _ _ _
    (search (rules)) (search (rules)) (search (rules, table_queued)) (search (rules)) (search (rules)) (search (rules))

pub returns-else-is_err-2-clause-keeps : goal.returns-else-is_err-2-clause-keeps
returns-else-is_err-2-clause-keeps c = keeps_formed _ _ _ _ _ _ _ _ _ _ _ _
    (search (rules)) (search (rules)) (search (rules, table_queued)) (search (rules)) (search (rules)) (search (rules))

pub returns-else-is_some-2-clause-keeps : goal.returns-else-is_some-2-clause-keeps
returns-else-is_some-2-clause-keeps c = keeps_formed _ _ _ _ _ _ _ _ _ _ _ _
    (search (rules)) (search (rules)) (search (rules, table_queued)) (search (rules)) (search (rules)) (search (rules))
