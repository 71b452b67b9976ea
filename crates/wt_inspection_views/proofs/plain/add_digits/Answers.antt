use Rattle.std.proofs.Common.{arith, ℕ, List, ◌++◌, IfOk, string_bytes, sym, subst}
use Rattle.std.specs.Str.{NoCharPasses}
use Rattle.wt_inspection_views.specs.Characters.{needs_escape}
use Rattle.wt_inspection_views.specs.Escaped.{AddsLine}
use Rattle.wt_inspection_views.proofs.CleanLemmas.{decimal_then}
use Rattle.wt_inspection_views.proofs.plain.add_digits.Goals as goal

pub add_both-requires : goal.add_both-requires
add_both-requires c =
    subst (λ (l : List ℕ). NoCharPasses needs_escape (l ++ c.args.words.now)) (sym c.format.ensures.text) (decimal_then c.args.number c.args.words.now (omega arith) c.requires)

pub returns-clause-added : goal.returns-clause-added
returns-clause-added c =
    subst (λ (l : List ℕ). IfOk c.add_both.result (λ _. AddsLine (l ++ c.args.words.now) (string_bytes c.args.text.now) (string_bytes c.add_both.new.text))) c.format.ensures.text c.add_both.ensures.added
