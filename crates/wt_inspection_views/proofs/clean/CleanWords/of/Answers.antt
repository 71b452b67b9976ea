use Rattle.std.proofs.Common.{arith}
use Rattle.wt_inspection_views.proofs.CleanLemmas.{no_escape-plain}
use Rattle.wt_inspection_views.proofs.clean.CleanWords.of.Goals as goal

pub invariant_of-result : goal.invariant_of-result
invariant_of-result c =
    no_escape-plain c.args.words.now _ (λ i. omega (arith, c.type_inv.words i)) c.in_ok-add_clean.ensures
