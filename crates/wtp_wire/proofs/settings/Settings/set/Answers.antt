use Rattle.std.proofs.lemmas.Result.{err_from_is_err_and}
use Rattle.wtp_wire.proofs.SettingsLemmas.{are_settings-with}
use Rattle.wtp_wire.proofs.settings.Settings.set.Goals as goal

pub returns-in_err-insert-clause-err : goal.returns-in_err-insert-clause-err
returns-in_err-insert-clause-err c =
    let p = err_from_is_err_and c.from_residual.result c.from_residual.ensures.1 in
    rw (p.1, ← c.self.view_is) (c.in_err-insert.ensures.absent, c.in_err-insert.ensures.err)

pub invariant_of-self-2 : goal.invariant_of-self-2
invariant_of-self-2 c =
    let rising = rw c.in_ok-insert.ensures.entries at c.in_ok-insert.ensures.ordered in
    rw c.in_ok-insert.ensures.entries (are_settings-with _ _ _ c.self.invariant rising c.requires c.into_inner.ensures.below c.into_inner-3.ensures.below)
