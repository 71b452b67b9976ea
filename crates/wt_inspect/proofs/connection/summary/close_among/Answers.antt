use Rattle.std.proofs.Common.{◌≡◌, List, None, Some, ap, length, rules, subst, sym, ◌∙◌, map-id}
use Rattle.std.proofs.lemmas.Iterator.Adapters.{YieldsList-from_vec}
use Rattle.std.proofs.lemmas.Iterator.Consumers.{YieldsList-so_far, YieldsList-turn}
use Rattle.wt_inspection_model.specs.declared.item.capsule.CapsuleItem.{CapsuleItem}
use Rattle.wt_inspection_model.specs.declared.item.capsule.CloseReason.{CloseReason}
use Rattle.wt_inspect.specs.SessionsShown.{close_among}
use Rattle.wt_inspect.proofs.SummaryLemmas.{close_none, close_turn}
use Rattle.wt_inspect.proofs.connection.summary.close_among.Goals as goal

pub returns-in-Some-close : goal.returns-in-Some-close
returns-in-Some-close c =
    let all = c.args.capsules.items in
    let from = YieldsList-from_vec {s = c.into_iter-capsule-iterator.result} all (search rules) (search rules) in
    let turn = YieldsList-turn from c.loop-capsule.yielded c.loop-capsule.capsule-iterator c.loop-capsule.yielded_by c.next.result c.next.new.self c.in-Some.capsule c.in-Some.is c.next.ensures.steps in
    let so_far = YieldsList-so_far from c.loop-capsule.yielded c.loop-capsule.capsule-iterator c.loop-capsule.yielded_by in
    ap (λ (x : CloseReason). Some x) c.in-Some-close.close-is ∙ sym (close_turn all (length c.loop-capsule.yielded) c.in-Some.capsule c.in-Some-close.close (subst (λ (xs : List CapsuleItem). close_among xs ≡ None) (sym (map-id c.loop-capsule.yielded) ∙ so_far) c.loop-capsule.invariant) turn.0 turn.1 c.in-Some-close.is)

pub loop-capsule-preserved : goal.loop-capsule-preserved
loop-capsule-preserved c =
    close_none c.loop-capsule.yielded c.in-Some.capsule c.loop-capsule.invariant c.in_default.is
