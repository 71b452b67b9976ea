use Rattle.wt_inspection.proofs.FlagLemmas.{so_far_with}
use Rattle.wt_inspection.proofs.settings.read_settings.Goals as goal

pub settings-preserved : goal.settings-preserved
settings-preserved c =
    so_far_with _ c.settings.rest.now _ c.settings.lines.items _ c.settings.seen _ c.line_of.result c.in-Some.pair.first c.in-Some.pair.second c.in_ok-is_new.is_new c.settings.invariant (rw c.split_at.ensures.back c.in-Some.ensures.found) c.line_of.ensures.id c.line_of.ensures.value c.line_of.ensures.flag (rw c.into_inner.ensures.value at c.in_ok-is_new.ensures.added) (rw c.into_inner.ensures.value at c.in_ok-is_new.ensures.updates) c.in_ok-push.ensures.items
