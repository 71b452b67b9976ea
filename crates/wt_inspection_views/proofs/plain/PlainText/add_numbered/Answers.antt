use Rattle.std.proofs.Common.{arith, ◌≡◌, ℕ, ◌+◌, ◌++◌, decimal, List, IfOk, string_bytes, subst}
use Rattle.wt_inspection_views.specs.Escaped.{AddsLine, line_count}
use Rattle.wt_inspection_views.proofs.CleanLemmas.{decimal_then}
use Rattle.wt_inspection_views.proofs.LineLemmas.{adds_clean_lines, adds_one_clean}
use Rattle.wt_inspection_views.proofs.plain.PlainText.add_numbered.Goals as goal

pub invariant_of-self : goal.invariant_of-self
invariant_of-self c =
    adds_clean_lines (string_bytes c.self.inside.text) (string_bytes c.push_numbered.new.text) (decimal c.args.number ++ c.as_str.result.now) c.push_numbered.result (decimal_then c.args.number c.as_str.result.now (omega arith) c.as_str.ensures.clean) c.self.invariant c.push_numbered.ensures.added c.push_numbered.ensures.kept

pub returns-clause-one_line : goal.returns-clause-one_line
returns-clause-one_line c =
    subst (λ (old : List ℕ). IfOk c.push_numbered.result (λ _. line_count (string_bytes c.push_numbered.new.text) ≡ line_count old + 1)) c.self.view_is
    (adds_one_clean (string_bytes c.self.inside.text) (string_bytes c.push_numbered.new.text) (decimal c.args.number ++ c.as_str.result.now) c.push_numbered.result (decimal_then c.args.number c.as_str.result.now (omega arith) c.as_str.ensures.clean) c.push_numbered.ensures.added)

pub returns-clause-added : goal.returns-clause-added
returns-clause-added c =
    subst (λ (words : List ℕ). IfOk c.push_numbered.result (λ _. AddsLine (decimal c.args.number ++ words) c.args.self.now (string_bytes c.push_numbered.new.text))) c.as_str.ensures.words
    (subst (λ (old : List ℕ). IfOk c.push_numbered.result (λ _. AddsLine (decimal c.args.number ++ c.as_str.result.now) old (string_bytes c.push_numbered.new.text))) c.self.view_is c.push_numbered.ensures.added)
