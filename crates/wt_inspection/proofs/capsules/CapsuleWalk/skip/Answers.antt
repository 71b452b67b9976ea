use Rattle.std.proofs.Common.{◌++◌, ◌∙◌, ℕ, sym, subst}
use Rattle.wt_inspection.specs.Walks.{Stepped}
use Rattle.wt_inspection.proofs.WalkLemmas.{begins_before, pending_is, skips}
use Rattle.wt_inspection.proofs.capsules.CapsuleWalk.skip.Goals as goal

pub returns : goal.returns
returns c = λ place came h.
    let (none, lacks) = skips c.args.self.now c.args.unknown c.keep.new.self.value.items c.next_any.new.self c.next_any.result came c.args.front.now c.requires.unknown c.requires.fits (rw c.in_ok-keep.ensures.cursor at c.next_any.ensures.first) c.in_ok-keep.ensures.value h in
    let begins = begins_before came c.args.self.now.at place (pending_is c.args.self.now c.args.unknown came c.requires.unknown h) in
    subst (λ (n : ℕ). Stepped n c.go_on.result c.go_on.new.self (came ++ c.args.front.now)) (c.in_ok-keep.ensures.at ∙ sym begins)
    (c.go_on.ensures (came ++ c.args.front.now) (c.in_ok-keep.ensures.held ∙ none) lacks)
