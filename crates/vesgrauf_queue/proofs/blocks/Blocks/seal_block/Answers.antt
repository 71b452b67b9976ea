use Rattle.std.proofs.Common.{◌≡◌, ◌++◌, [], ◌∷◌, ℕ, List, ap, ◌∙◌, sym, subst}
use Rattle.std.proofs.lemmas.List.{map-append}
use Rattle.vesgrauf_queue.specs.Pieces.{onto_last}
use Rattle.vesgrauf_queue.specs.Layout.{parts, pieces_in, kept_in, IsLaid}
use Rattle.vesgrauf_queue.proofs.BlockLemmas.{laid-block, pieces-block, kept-block}
use Rattle.vesgrauf_queue.proofs.blocks.Blocks.seal_block.Goals as goal

sealed : (c : goal.After-push_back_reserved) → parts c.push_back_reserved.new.self.items ≡ parts c.args.self.now.sealed.items ++ c.args.block.items ∷ []
sealed c = ap parts c.push_back_reserved.ensures.items ∙ map-append (λ v. v.items) c.args.self.now.sealed.items (c.args.block ∷ [])

empty_laid : (c : goal.After-push_back_reserved) → let b = c.args.self.now in IsLaid (parts b.sealed.items) [] b.lent b.used b.freed
empty_laid c =
    let b = c.args.self.now in
    subst (λ (o : List ℕ). IsLaid (parts b.sealed.items) o b.lent b.used b.freed) c.requires.empty b.laid

pub invariant_of-self : goal.invariant_of-self
invariant_of-self c =
    let b = c.args.self.now in
    record {
      laid = subst (λ (m : List (List ℕ)). IsLaid m b.last.items b.lent b.used b.freed) (sym (sealed c))
          (subst (λ (o : List ℕ). IsLaid (parts b.sealed.items ++ c.args.block.items ∷ []) o b.lent b.used b.freed) (sym c.requires.empty)
          (laid-block (parts b.sealed.items) c.args.block.items b.lent b.used b.freed c.requires.filled (empty_laid c)));
    }

pub returns-clause-pieces : goal.returns-clause-pieces
returns-clause-pieces c =
    let b = c.args.self.now in
    ap (λ m. pieces_in m b.last.items b.lent b.used) (sealed c.before)
    ∙ ap (λ o. pieces_in (parts b.sealed.items ++ c.args.block.items ∷ []) o b.lent b.used) c.requires.empty
    ∙ pieces-block (parts b.sealed.items) c.args.block.items b.lent b.used b.laid.few (empty_laid c.before).within
    ∙ ap (λ o. onto_last (pieces_in (parts b.sealed.items) o b.lent b.used) c.args.block.items ++ [] ∷ []) (sym c.requires.empty)

pub returns-clause-kept : goal.returns-clause-kept
returns-clause-kept c =
    let b = c.args.self.now in
    ap (λ m. kept_in m b.last.items b.lent b.used b.freed) (sealed c.before)
    ∙ ap (λ o. kept_in (parts b.sealed.items ++ c.args.block.items ∷ []) o b.lent b.used b.freed) c.requires.empty
    ∙ kept-block (parts b.sealed.items) c.args.block.items b.lent b.used b.freed b.laid.few (empty_laid c.before).within
    ∙ ap (λ o. kept_in (parts b.sealed.items) o b.lent b.used b.freed) (sym c.requires.empty)
