use Rattle.std.proofs.Common.{List, length, ap, sym, subst, arith, length-append, [], ◌∷◌}
use Rattle.wtp_dynamic_encoder.specs.declared.key.Key.{Key}
use Rattle.wtp_dynamic_encoder.specs.Keys.{AreKeys}
use Rattle.wtp_dynamic_encoder.proofs.KeyLists.{keys_push}
use Rattle.wtp_dynamic_encoder.proofs.key.fill_keys.Goals as goal

pub returns-in-Err : goal.returns-in-Err
returns-in-Err c =
    subst (λ (z : List Key). AreKeys z c.args.proposals.now) (sym c.in-Err.ensures.items) c.loop-proposal.invariant.keys

pub loop-proposal-preserved : goal.loop-proposal-preserved
loop-proposal-preserved c = record {
  count = omega (arith, ap length c.in-Ok.ensures.items, length-append c.loop-proposal.keys.items (c.of.result ∷ []), c.loop-proposal.invariant.count);
  keys = subst (λ (z : List Key). AreKeys z c.args.proposals.now) (sym c.in-Ok.ensures.items)
      (keys_push c.loop-proposal.keys.items c.args.proposals.now c.of.result _ c.loop-proposal.proposal-index c.loop-proposal.invariant.keys c.loop-proposal.invariant.count c.of.ensures);
}
