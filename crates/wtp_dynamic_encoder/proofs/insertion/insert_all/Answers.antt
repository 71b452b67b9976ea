use Rattle.std.proofs.Common.{sym, subst, List}
use Rattle.std.proofs.lemmas.List.{take_more, drop_more}
use Rattle.wtp_dynamic_encoder.specs.declared.proposal.Proposal.{Proposal}
use Rattle.wtp_dynamic_encoder.specs.Encoding.{AreOffered}
use Rattle.wtp_dynamic_encoder.proofs.KeyLists.{key_here}
use Rattle.wtp_dynamic_encoder.proofs.Orders.{ordered_join, offered_push, stopped_at}
use Rattle.wtp_dynamic_encoder.proofs.insertion.insert_all.Goals as goal

pub returns-in-Err-clause-offered : goal.returns-in-Err-clause-offered
returns-in-Err-clause-offered c =
    stopped_at c.args.policy _ _ _ _ _ _ _ _ _ _ c.loop-i.i c.loop-i.invariant.offered
    (drop_more c.args.proposals.now c.loop-i.i _ c.loop-i-test.true)
    c.in-Err.ensures.offered.0 c.in-Err.ensures.offered.1 c.in-Err.ensures.offered.2

pub loop-i-preserved : goal.loop-i-preserved
loop-i-preserved c = record {
  offered = subst (λ (z : List Proposal). AreOffered c.args.policy z c.args.ledger.now c.args.table.now c.insert_proposed.new.table c.args.out.now.items c.insert_proposed.new.out.items)
      (sym (take_more c.args.proposals.now c.loop-i.i _ c.loop-i-test.true))
      (offered_push c.args.policy _ _ _ _ _ _ _ _ _ c.loop-i.invariant.offered c.in-Ok.ensures.offered);
  orders = ordered_join _ _ _ _ _ _ c.loop-i.invariant.orders c.in-Ok.ensures.orders;
  owes = λ owes. c.in-Ok.ensures.owes (c.loop-i.invariant.owes owes);
}

pub key_at-key-requires : goal.key_at-key-requires
key_at-key-requires c = key_here c.args.keys.now c.args.proposals.now c.loop-i.i _ c.requires c.loop-i-test.true
