use Rattle.std.proofs.Common.{rules, tests}
use Rattle.std.proofs.lemmas.Iterator.{YieldsList-from_slice}
use Rattle.std.proofs.lemmas.Iterator.Search.{any_from_yields_List}
use Rattle.wt_inspect.specs.Statuses.{is_breach}
use Rattle.wt_inspect.proofs.showing.has_breach.Goals as goal

pub returns : goal.returns
returns c =
    any_from_yields_List is_breach _ _ c.any.result c.any.ensures.ran (YieldsList-from_slice c.args.warnings.now (cc)) (λ x b q k. search (rules, tests))
