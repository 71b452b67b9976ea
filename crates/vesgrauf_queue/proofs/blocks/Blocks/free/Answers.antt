use Rattle.std.proofs.Common.{◌+◌, ◌≤◌, ◌∙◌, arith, length, length-drop}
use Rattle.vesgrauf_queue.specs.Layout.{parts, given_in}
use Rattle.vesgrauf_queue.proofs.FreeLemmas.{freed-bound, kept-freed, pieces-freed}
use Rattle.vesgrauf_queue.proofs.ReuseLemmas.{IsNearlyLaid, laid-reused, kept-reused, pieces-reused, nearly-freed}
use Rattle.vesgrauf_queue.proofs.blocks.Blocks.free.Goals as goal

pub overflow_add-self : goal.overflow_add-self
overflow_add-self c =
    let b = c.args.self.now in
    omega (arith, c.requires.within, c.requires.few, freed-bound b.sealed.items b.last b.lent b.used b.freed b.laid)

nearly : (c : goal.After-reuse-used) → let b = c.args.self.now in
    IsNearlyLaid (parts c.drop_freed-lent.new.sealed.items) b.last.items c.drop_freed-lent.result.0 b.used c.drop_freed-lent.result.1
nearly c =
    let b = c.args.self.now in
    let m = parts b.sealed.items in
    let within : b.freed + c.args.len ≤ length (given_in m b.last.items b.lent b.used) =
    omega (arith, c.requires.within, length-drop b.freed (given_in m b.last.items b.lent b.used), b.laid.given) in
    nearly-freed m (parts c.drop_freed-lent.new.sealed.items) b.last.items b.lent b.used b.freed c.args.len
    c.drop_freed-lent.result.0 c.drop_freed-lent.result.1 b.laid within c.drop_freed-lent.ensures

pub invariant_of-self : goal.invariant_of-self
invariant_of-self c =
    let b = c.args.self.now in
    record {
      laid = laid-reused (parts c.drop_freed-lent.new.sealed.items) b.last.items c.drop_freed-lent.result.0 b.used c.drop_freed-lent.result.1
          c.reuse-used.new.last.items c.reuse-used.result.0 c.reuse-used.result.1 (nearly c) c.reuse-used.ensures;
    }

pub returns-clause-kept : goal.returns-clause-kept
returns-clause-kept c =
    let b = c.args.self.now in
    kept-reused (parts c.drop_freed-lent.new.sealed.items) b.last.items c.drop_freed-lent.result.0 b.used c.drop_freed-lent.result.1
    c.reuse-used.new.last.items c.reuse-used.result.0 c.reuse-used.result.1 (nearly c.before) c.reuse-used.ensures
    ∙ kept-freed (parts b.sealed.items) (parts c.drop_freed-lent.new.sealed.items) b.last.items b.lent b.used b.freed c.args.len
    c.drop_freed-lent.result.0 c.drop_freed-lent.result.1 c.drop_freed-lent.ensures

pub returns-clause-pieces : goal.returns-clause-pieces
returns-clause-pieces c =
    let b = c.args.self.now in
    pieces-reused (parts c.drop_freed-lent.new.sealed.items) b.last.items c.drop_freed-lent.result.0 b.used c.drop_freed-lent.result.1
    c.reuse-used.new.last.items c.reuse-used.result.0 c.reuse-used.result.1 (nearly c.before) c.reuse-used.ensures
    ∙ pieces-freed (parts b.sealed.items) (parts c.drop_freed-lent.new.sealed.items) b.last.items b.lent b.used (b.freed + c.args.len)
    c.drop_freed-lent.result.0 c.drop_freed-lent.result.1 c.drop_freed-lent.ensures
