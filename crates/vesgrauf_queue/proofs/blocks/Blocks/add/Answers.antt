use Rattle.std.proofs.Common.{◌++◌, ap, ◌∙◌, sym, subst, List, ℕ}
use Rattle.vesgrauf_queue.specs.Layout.{parts, pieces_in, kept_in, IsLaid}
use Rattle.vesgrauf_queue.proofs.BlockLemmas.{laid-added, pieces-added, kept-added}
use Rattle.vesgrauf_queue.proofs.blocks.Blocks.add.Goals as goal

pub invariant_of-self : goal.invariant_of-self
invariant_of-self c =
    let b = c.args.self.now in
    record {
      laid = subst (λ (o : List ℕ). IsLaid (parts b.sealed.items) o b.lent b.used b.freed) (sym c.fill.ensures)
          (laid-added (parts b.sealed.items) b.last.items (c.args.head.now ++ c.args.bytes.now) b.lent b.used b.freed b.laid);
    }

pub returns-clause-pieces : goal.returns-clause-pieces
returns-clause-pieces c =
    let b = c.args.self.now in
    ap (λ (o : List ℕ). pieces_in (parts b.sealed.items) o b.lent b.used) c.fill.ensures
    ∙ pieces-added (parts b.sealed.items) b.last.items (c.args.head.now ++ c.args.bytes.now) b.lent b.used b.laid.within

pub returns-clause-kept : goal.returns-clause-kept
returns-clause-kept c =
    let b = c.args.self.now in
    ap (λ (o : List ℕ). kept_in (parts b.sealed.items) o b.lent b.used b.freed) c.fill.ensures
    ∙ kept-added (parts b.sealed.items) b.last.items (c.args.head.now ++ c.args.bytes.now) b.lent b.used b.freed b.laid
