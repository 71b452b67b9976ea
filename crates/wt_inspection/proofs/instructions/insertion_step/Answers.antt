use Rattle.std.proofs.Common.{refl}
use Rattle.wtp_dynamic.specs.InstructionView.{instruction as view}
use Rattle.wt_inspection.proofs.InstructionLemmas.{insertion_rest}
use Rattle.wt_inspection.proofs.instructions.insertion_step.Goals as goal

pub returns-in-Ok-clause-read : goal.returns-in-Ok-clause-read
returns-in-Ok-clause-read c = rw (c.go_on.ensures.content, c.go_on.ensures.length, c.go_on.ensures.after) (record {
  next = view c.args.sent;
  read = insertion_rest c.args.rest.now c.args.behind.now (view c.args.sent) _ c.requires.read refl;
  says = c.in-Ok.ensures;
  goes = refl;
})
