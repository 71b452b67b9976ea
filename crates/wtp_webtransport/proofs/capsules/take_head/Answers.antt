use Rattle.std.proofs.Common.{sym, ap, ◌∙◌, rules}
use Rattle.wtp_wire.specs.Settings.{pair_at}
use Rattle.wtp_webtransport.proofs.CapsuleLemmas.{head_found}
use Rattle.wtp_webtransport.proofs.capsules.take_head.Goals as goal

pub returns-in-Some-first_pair : goal.returns-in-Some-first_pair
returns-in-Some-first_pair c =
    let f = head_found c.args.head.now.items c.args.bytes.now.now c.bytes.head.items c.bytes.bytes.now c.in-Some.rest.now c.in-Some.byte.now _ _ _ c.bytes.invariant.0 c.bytes.invariant.1 c.bytes.invariant.2 (search rules) (ap pair_at (sym (c.deref.ensures.value ∙ c.in_ok-push.ensures.items)) ∙ c.in-Some-first_pair.ensures.found) in
    (c.clear.ensures.items, f.0, f.1)
