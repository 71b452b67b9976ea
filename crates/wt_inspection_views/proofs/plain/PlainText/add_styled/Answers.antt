use Rattle.std.proofs.Common.{arith, ◌≡◌, ℕ, ◌+◌, List, IfOk, string_bytes, subst}
use Rattle.wt_inspection_views.specs.Escaped.{line_count}
use Rattle.wt_inspection_views.proofs.LineLemmas.{adds_lines, adds_one}
use Rattle.wt_inspection_views.proofs.plain.PlainText.add_styled.Goals as goal

pub invariant_of-self : goal.invariant_of-self
invariant_of-self c =
    adds_lines (string_bytes c.self.inside.text) (string_bytes c.push_styled.new.text) c.args.words.now c.push_styled.result (λ i. omega (arith, c.type_inv.words i)) c.self.invariant c.push_styled.ensures.added c.push_styled.ensures.kept

pub returns-clause-one_line : goal.returns-clause-one_line
returns-clause-one_line c =
    subst (λ (old : List ℕ). IfOk c.push_styled.result (λ _. line_count (string_bytes c.push_styled.new.text) ≡ line_count old + 1)) c.self.view_is
    (adds_one (string_bytes c.self.inside.text) (string_bytes c.push_styled.new.text) c.args.words.now c.push_styled.result (λ i. omega (arith, c.type_inv.words i)) c.push_styled.ensures.added)
