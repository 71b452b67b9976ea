use Rattle.std.proofs.Common.{◌-◌, ◌∙◌, ap, sym, subst, take, drop, arith, length, List, ℕ}
use Rattle.std.proofs.lemmas.List.{take_rest}
use Rattle.vesgrauf_queue.specs.Pieces.{IsStartOf}
use Rattle.vesgrauf_queue.specs.Layout.{parts}
use Rattle.vesgrauf_queue.specs.Blocks.{kept}
use Rattle.vesgrauf_queue.proofs.FreeLemmas.{kept-start, kept-start-lent, freed-used}
use Rattle.vesgrauf_queue.proofs.blocks.Blocks.first_kept.Goals as goal

pub returns-then-self-eq0 : goal.returns-then-self-eq0
returns-then-self-eq0 c =
    let b = c.args.self.now in
    let m = parts b.sealed.items in
    subst (λ (x : List ℕ). IsStartOf (kept b) (take (b.used - b.freed) (drop b.freed x))) (sym c.block_at-block.ensures)
    (kept-start m b.last.items b.lent b.used b.freed c.if-self-eq0.true
    (freed-used m b.last.items b.lent b.used b.freed c.if-self-eq0.true b.laid))

pub returns : goal.returns
returns c =
    let b = c.args.self.now in
    let x = c.block_at-block.result.now in
    subst (λ (some : List ℕ). IsStartOf (kept b) some) (ap (drop b.freed) (sym c.block_at-block.ensures) ∙ sym (take_rest x b.freed))
    (kept-start-lent (parts b.sealed.items) b.last.items b.lent b.used b.freed
    (omega (arith, c.if-self-eq0.false)) b.laid)
