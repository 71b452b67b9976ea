use Rattle.std.proofs.Common.{◌≡◌, ◌-◌, ◌≤◌, ◌++◌, [], ◌∷◌, List, ℕ, ap, subst, sym, ◌∙◌, arith, length, take}
use Rattle.std.proofs.lemmas.List.{map-append}
use Rattle.std.specs.declared.collections.VecDeque.{VecDeque}
use Rattle.std.specs.declared.vec.Vec.{Vec}
use Rattle.std.specs.declared.alloc.Global.{Global}
use Rattle.vesgrauf_queue.specs.Layout.{parts, Cut}
use Rattle.vesgrauf_queue.proofs.LayoutLemmas.{length-parts}
use Rattle.vesgrauf_queue.proofs.CutLemmas.{Cutting, cutting-more, cutting-within, cut-end}
use Rattle.vesgrauf_queue.proofs.blocks.room.cut_last.Goals as goal
use Rattle.vesgrauf_queue.proofs.blocks.room.cut_last.Goals.{then-cutting-test+else-len-lent, else-cutting-test, then-cutting-test+then-len-lent+in_default}

pub cutting-preserved : goal.cutting-preserved
cutting-preserved c =
    let vs = c.cutting.sealed.items in
    let popped : parts vs ≡ parts c.pop_back.new.self.items ++ c.in-Some.block.items ∷ [] =
    ap parts c.in-Some.ensures.items ∙ map-append (λ v. v.items) c.pop_back.new.self.items (c.in-Some.block ∷ []) in
    let before = subst (λ (m : List (List ℕ)). Cutting (parts c.args.sealed.now.items) c.args.last.now.items c.args.lent c.args.excess m c.cutting.last.items c.cutting.excess)
    popped c.cutting.invariant in
    let len : c.len-excess.result ≡ length c.cutting.last.items = omega (arith, c.len-excess.ensures, c.cutting.last.ok.0) in
    let more = cutting-more (parts c.args.sealed.now.items) (parts c.pop_back.new.self.items) c.args.last.now.items c.cutting.last.items
    c.in-Some.block.items c.args.lent c.args.excess c.cutting.excess before
    (omega (arith, c.cutting-test.true, c.len.ensures, c.cutting.last.ok.0))
    (omega (arith, c.if-len-lent.true, c.len-in-cutting.ensures, c.cutting.sealed.ok.0, length-parts vs, ap length popped)) in
    let last : c.replace.new.dest.items ≡ c.in-Some.block.items = ap (λ v. v.items) c.replace.ensures.after in
    subst (λ (o : List ℕ). Cutting (parts c.args.sealed.now.items) c.args.last.now.items c.args.lent c.args.excess (parts c.pop_back.new.self.items) o (c.cutting.excess - c.len-excess.result))
    (sym last)
    (subst (λ (n : ℕ). Cutting (parts c.args.sealed.now.items) c.args.last.now.items c.args.lent c.args.excess (parts c.pop_back.new.self.items) c.in-Some.block.items (c.cutting.excess - n))
    (sym len) more)

pub returns : goal.returns
returns c =
    let last = c.cutting.last.items in
    let old = parts c.args.sealed.now.items in
    let ends : c.cutting.excess ≤ length last → c.cutting-test.sealed ≡ c.cutting.sealed
    → Cut old c.args.last.now.items c.args.lent c.args.excess (parts c.cutting-test.sealed.items) (take (length last - c.cutting.excess) last) =
    λ within same. subst
    (λ (q : VecDeque (Vec ℕ Global) Global). Cut old c.args.last.now.items c.args.lent c.args.excess (parts q.items) (take (length last - c.cutting.excess) last))
    (sym same)
    (cut-end old (parts c.cutting.sealed.items) c.args.last.now.items last c.args.lent c.args.excess c.cutting.excess c.cutting.invariant within) in
    let cut : Cut old c.args.last.now.items c.args.lent c.args.excess (parts c.cutting-test.sealed.items) (take (length last - c.cutting.excess) last) =
    elim c.cutting-test.branch [
      | then-cutting-test+else-len-lent w ↦
          ends (cutting-within (parts c.cutting.sealed.items) last c.args.lent c.cutting.excess c.cutting.invariant.within
          (omega (arith, w.if-len-lent.false, w.len-in-cutting.ensures, c.cutting.sealed.ok.0, length-parts c.cutting.sealed.items))) w.sealed-is
      | else-cutting-test w ↦ ends (omega (arith, w.cutting-test.false, c.len.ensures, c.cutting.last.ok.0)) w.sealed-is
      | then-cutting-test+then-len-lent+in_default w ↦
          absurd (omega (arith, w.in_default.ensures.cases.0, w.if-len-lent.true, w.len-in-cutting.ensures))
    ] in
    let items : c.truncate.new.self.items ≡ take (length last - c.cutting.excess) last =
    c.truncate.ensures.items ∙ ap (λ n. take (n - c.cutting.excess) last) (c.len-2.ensures ∙ c.cutting.last.ok.0) in
    subst (λ (o : List ℕ). Cut old c.args.last.now.items c.args.lent c.args.excess (parts c.cutting-test.sealed.items) o) (sym items) cut
