use Rattle.std.proofs.Common.{◌≡◌, ◌+◌, ◌++◌, [], ◌∷◌, ap, ◌∙◌, sym, arith, length}
use Rattle.std.proofs.lemmas.List.{map-append}
use borrow.Author.Tests.{eqb-true}
use Rattle.vesgrauf_queue.specs.Layout.{parts, kept_in}
use Rattle.vesgrauf_queue.proofs.LayoutLemmas.{length-parts}
use Rattle.vesgrauf_queue.proofs.BlockLemmas.{kept-sealed}
use Rattle.vesgrauf_queue.proofs.blocks.Blocks.seal.Goals as goal
use Rattle.vesgrauf_queue.proofs.blocks.Blocks.seal.Goals.{then-self-len, else-self-len}

pub returns-then-given-clause-kept : goal.returns-then-given-clause-kept
returns-then-given-clause-kept c =
    let b = c.args.self.now in
    let sealed : parts c.push_back_reserved.new.self.items ≡ parts b.sealed.items ++ b.last.items ∷ [] =
    ap parts c.push_back_reserved.ensures.items
    ∙ map-append (λ v. v.items) b.sealed.items (c.replace-block.result ∷ [])
    ∙ ap (λ v. parts b.sealed.items ++ v.items ∷ []) c.replace-block.ensures.value in
    let last : c.replace-block.new.dest.items ≡ [] = ap (λ v. v.items) c.replace-block.ensures.after ∙ c.requires.empty in
    let all : (b.lent ≡ length (parts b.sealed.items)) × (b.used ≡ length b.last.items) =
    elim c.if-self-len.branch [
      | then-self-len w ↦
          let used = eqb-true _ _ (sym w.given-is ∙ c.if-given.true) in (
            omega (arith, w.if-self-len.true, c.len.ensures, b.sealed.ok.0, length-parts b.sealed.items),
            omega (arith, used, w.len-then-self-len.ensures, b.last.ok.0),
          )
      | else-self-len w ↦ absurd (w.if-self-len.false (eqb-true _ _ (sym w.given-is ∙ c.if-given.true)))
    ] in
    ap (λ m. kept_in m c.replace-block.new.dest.items (b.lent + 1) 0 b.freed) sealed
    ∙ ap (λ o. kept_in (parts b.sealed.items ++ b.last.items ∷ []) o (b.lent + 1) 0 b.freed) last
    ∙ kept-sealed (parts b.sealed.items) b.last.items b.lent b.used b.freed all.0 all.1
