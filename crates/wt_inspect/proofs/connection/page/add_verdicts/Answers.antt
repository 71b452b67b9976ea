use Rattle.std.proofs.Common.{◌∙◌, ap, arith}
use Rattle.wt_inspection_views.specs.Html.{verdict_entry}
use Rattle.wt_inspect_verdicts.specs.declared.verdict.Verdict.{Verdict}
use Rattle.wt_inspect.specs.VerdictsShown.{breaks_rule}
use Rattle.wt_inspect.proofs.ViewLemmas.{entries_end, entries_next, keeps_same}
use Rattle.wt_inspect.proofs.connection.page.add_verdicts.Goals as goal

pub loop-verdict-preserved : goal.loop-verdict-preserved
loop-verdict-preserved c =
    entries_next (λ (v : Verdict). verdict_entry (breaks_rule v)) c.args.verdicts.now c.loop-verdict.verdict-index c.verdict-item.result (verdict_entry c.breaks_rule.result) c.args.page.now.page c.loop-verdict.page.page c.loop-verdict.page.page c.verdict.new.self.page (omega arith) c.loop-verdict.invariant (keeps_same c.loop-verdict.page.page) (ap verdict_entry c.breaks_rule.ensures ∙ ap (λ (v : Verdict). verdict_entry (breaks_rule v)) c.verdict-item.is) c.verdict.ensures

pub returns : goal.returns
returns c =
    entries_end (λ (v : Verdict). verdict_entry (breaks_rule v)) c.args.verdicts.now c.loop-verdict.verdict-index c.args.page.now.page c.loop-verdict.page.page (omega arith) c.loop-verdict.invariant
