use Rattle.std.proofs.Common.{List, ℕ, ◌≡◌, IfOk, subst}
use Rattle.std.proofs.lemmas.List.{take_rest}
use Rattle.wt_inspection_views.specs.JsonLines.{with_comma}
use Rattle.wt_inspection_views.proofs.KeptLemmas.{completed}
use Rattle.wt_inspection_views.proofs.json_lines.kept.rest_of.Goals as goal

pub returns : goal.returns
returns c =
    completed c.members_of.result (λ rest. rest.items) c.args.line.now c.requires
    (subst (λ (members : List ℕ). IfOk c.members_of.result (λ rest. rest.items ≡ with_comma members)) (take_rest c.args.line.now 1) c.members_of.ensures)
