use Rattle.std.proofs.Common.{◌≡◌, ◌+◌, ◌-◌, ◌++◌, ◌≤◌, Some, None, refl, sym, ◌∙◌, arith, length, take-append-drop}
use Rattle.std.proofs.lemmas.Bool.{eqb-true}
use Rattle.wt_inspection.proofs.WalkLemmas.{so_far_bad, so_far_done, so_far_end, so_far_more}
use Rattle.wt_inspection.proofs.capsules.CapsuleWalk.add.Goals as goal

pub returns-in-Fault : goal.returns-in-Fault
returns-in-Fault c =
    let parts : c.steps.rest.now ≡ c.split_at.result.0.now ++ c.split_at.result.1.now = rw (c.split_at.ensures.front, c.split_at.ensures.back) (sym (take-append-drop c.next_len.result c.steps.rest.now)) in
    so_far_bad c.args.self.now c.args.at (c.args.at + (length c.args.piece.now - length c.steps.rest.now)) c.steps.self c.step.new.self c.args.piece.now c.steps.rest.now c.split_at.result.0.now c.split_at.result.1.now (record { items = c.steps.items; fault = Some c.in-Fault.fault }) c.in-Fault.fault c.steps.invariant.0 c.steps.invariant.1 refl parts (rw c.in-Fault.is at c.in_ok-step.ensures) cc

pub steps-preserved : goal.steps-preserved
steps-preserved c =
    let parts : c.steps.rest.now ≡ c.split_at.result.0.now ++ c.split_at.result.1.now = rw (c.split_at.ensures.front, c.split_at.ensures.back) (sym (take-append-drop c.next_len.result c.steps.rest.now)) in
    let less : length c.split_at.result.1.now ≤ length c.args.piece.now = omega (arith, c.steps.invariant.1, c.split_at.ensures.back_len) in
    (so_far_done c.args.self.now c.args.at (c.args.at + (length c.args.piece.now - length c.steps.rest.now)) c.steps.self c.step.new.self c.args.piece.now c.steps.rest.now c.split_at.result.0.now c.split_at.result.1.now c.steps.items.items c.push.new.self.items c.in-Done.item c.steps.invariant.0 c.steps.invariant.1 refl parts (rw c.in-Done.is at c.in_ok-step.ensures) c.in_ok-push-in-Done.ensures.items, less)

pub returns-then-is_empty : goal.returns-then-is_empty
returns-then-is_empty c =
    let none : length c.steps.rest.now ≡ 0 = eqb-true _ _ (sym c.is_empty.ensures ∙ c.if-is_empty.true) in
    so_far_end c.args.self.now c.args.at c.steps.self c.args.piece.now c.steps.rest.now (record { items = c.steps.items; fault = None }) c.steps.invariant.0 none refl

pub steps-preserved-in-More : goal.steps-preserved-in-More
steps-preserved-in-More c =
    let parts : c.steps.rest.now ≡ c.split_at.result.0.now ++ c.split_at.result.1.now = rw (c.split_at.ensures.front, c.split_at.ensures.back) (sym (take-append-drop c.next_len.result c.steps.rest.now)) in
    let less : length c.split_at.result.1.now ≤ length c.args.piece.now = omega (arith, c.steps.invariant.1, c.split_at.ensures.back_len) in
    (so_far_more c.args.self.now c.args.at (c.args.at + (length c.args.piece.now - length c.steps.rest.now)) c.steps.self c.step.new.self c.args.piece.now c.steps.rest.now c.split_at.result.0.now c.split_at.result.1.now c.steps.items.items c.steps.invariant.0 c.steps.invariant.1 refl parts (rw c.in-More.is at c.in_ok-step.ensures), less)
