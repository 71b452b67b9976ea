use Rattle.std.proofs.Common.{sym, ◌∙◌}
use Rattle.wt_c.proofs.FaultlessLemmas.{before_unknown, before_again}
use Rattle.wt_c.proofs.settings.is_faultless.Goals as goal

pub returns-in-None : goal.returns-in-None
returns-in-None c = before_unknown c.args.id c.args.others.now (sym c.is_reserved.ensures ∙ c.if-is_reserved.false) (sym c.in-None.ensures)

pub returns-then-contains_id : goal.returns-then-contains_id
returns-then-contains_id c = before_again c.args.id c.args.others.now c.in-Some._setting (sym c.in-Some.ensures) (rw c.into_inner.ensures.value at c.if-contains_id.ensures)
