use Rattle.std.proofs.Common.{◌∙◌, ap}
use Rattle.std.specs.List.{concat}
use Rattle.vesgrauf_queue.specs.Layout.{parts}
use Rattle.vesgrauf_queue.proofs.ReuseLemmas.{IsNearlyLaid, laid-reused, kept-reused, pieces-reused}
use Rattle.vesgrauf_queue.proofs.CutLemmas.{nearly-cut, kept-cut, pieces-cut}
use Rattle.vesgrauf_queue.proofs.blocks.Blocks.cut.Goals as goal

nearly : (c : goal.After-reuse-used) → let b = c.args.self.now in
    IsNearlyLaid (parts c.cut_last.new.sealed.items) c.cut_last.new.last.items b.lent b.used b.freed
nearly c =
    let b = c.args.self.now in
    nearly-cut (parts b.sealed.items) (parts c.cut_last.new.sealed.items) b.last.items c.cut_last.new.last.items b.lent b.used b.freed
    c.args.excess b.laid c.requires c.cut_last.ensures

pub invariant_of-self : goal.invariant_of-self
invariant_of-self c =
    let b = c.args.self.now in
    record {
      laid = laid-reused (parts c.cut_last.new.sealed.items) c.cut_last.new.last.items b.lent b.used b.freed
          c.reuse-used.new.last.items c.reuse-used.result.0 c.reuse-used.result.1 (nearly c) c.reuse-used.ensures;
    }

pub returns-clause-kept : goal.returns-clause-kept
returns-clause-kept c =
    let b = c.args.self.now in
    kept-reused (parts c.cut_last.new.sealed.items) c.cut_last.new.last.items b.lent b.used b.freed
    c.reuse-used.new.last.items c.reuse-used.result.0 c.reuse-used.result.1 (nearly c.before) c.reuse-used.ensures
    ∙ kept-cut (parts b.sealed.items) (parts c.cut_last.new.sealed.items) b.last.items c.cut_last.new.last.items b.lent b.used b.freed
    c.args.excess b.laid c.requires c.cut_last.ensures

pub returns-clause-pieces : goal.returns-clause-pieces
returns-clause-pieces c =
    let b = c.args.self.now in
    ap concat (pieces-reused (parts c.cut_last.new.sealed.items) c.cut_last.new.last.items b.lent b.used b.freed
    c.reuse-used.new.last.items c.reuse-used.result.0 c.reuse-used.result.1 (nearly c.before) c.reuse-used.ensures)
    ∙ pieces-cut (parts b.sealed.items) (parts c.cut_last.new.sealed.items) b.last.items c.cut_last.new.last.items b.lent b.used b.freed
    c.args.excess b.laid c.requires c.cut_last.ensures
