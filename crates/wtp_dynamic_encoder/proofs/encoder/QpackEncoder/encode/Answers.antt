use Rattle.std.proofs.Common.{refl, sym, subst, Err, List}
use Rattle.wtp_dynamic_encoder.specs.declared.key.Key.{Key}
use Rattle.wtp_dynamic_encoder.specs.Keys.{AreKeys}
use Rattle.wtp_dynamic_encoder.specs.Encoding.{State, progress_of, Encodes}
use Rattle.wtp_dynamic_encoder.proofs.Encoded.{sent_keeps, sent_is, unsent}
use Rattle.wtp_dynamic_encoder.proofs.encoder.QpackEncoder.encode.Goals as goal

pub invariant_of-self-2 : goal.invariant_of-self-2
invariant_of-self-2 c =
    sent_keeps c.send-sent.result c.args.stream c.self.inside.most c.self.inside.policy c.draining_index-low.result c.bound_of-bound.result c.insert_all.new.table _ _ _ _ c.self.inside.ledger c.send-sent.new.ledger _ _
    c.send-sent.ensures c.in-Ok.ensures.lines c.bound_of-bound.ensures.within c.bound_of-bound.ensures.value (c.insert_all.ensures.owes c.self.invariant.0, c.self.invariant.1)

pub returns : goal.returns
returns c =
    let after : State = record {
      table = c.insert_all.new.table;
      ledger = c.send-sent.new.ledger;
      progress = progress_of c.self.inside.fault c.self.inside.decoder;
      most = c.self.inside.most;
      policy = c.self.inside.policy;
    } in
    subst
    (λ (s : State). Encodes c.args.stream c.args.proposals.now s after c.args.encoder_stream.now.items c.insert_all.new.out.items c.args.section.now.items c.send-sent.new.out.items c.send-sent.result)
    c.self.view_is (
      c.insert_all.ensures.orders,
      refl,
      refl,
      refl,
      sent_is c.send-sent.result c.args.stream c.self.inside.most c.self.inside.policy c.draining_index-low.result c.bound_of-bound.result c.self.inside.table c.insert_all.new.table _ _ _ _ c.self.inside.ledger c.send-sent.new.ledger _ _ _ _
          c.send-sent.ensures c.in-Ok.ensures.lines c.draining_index-low.ensures c.bound_of-bound.ensures.within c.bound_of-bound.ensures.value c.in_ok-insert_all.ensures.offered,
    )

pub returns-in-Err : goal.returns-in-Err
returns-in-Err c =
    let after : State = record {
      table = c.insert_all.new.table;
      ledger = c.self.inside.ledger;
      progress = progress_of c.self.inside.fault c.self.inside.decoder;
      most = c.self.inside.most;
      policy = c.self.inside.policy;
    } in
    subst
    (λ (s : State). Encodes c.args.stream c.args.proposals.now s after c.args.encoder_stream.now.items c.insert_all.new.out.items c.args.section.now.items c.args.section.now.items (Err c.in-Err.fault))
    c.self.view_is (
      c.insert_all.ensures.orders,
      refl,
      refl,
      refl,
      unsent c.self.inside.policy _ c.self.inside.ledger c.self.inside.table c.insert_all.new.table _ _ _ c.in_ok-insert_all.ensures.offered,
    )

pub insert_all-requires : goal.insert_all-requires
insert_all-requires c =
    subst (λ (z : List Key). AreKeys z c.args.proposals.now) (sym c.as_slice.ensures.value) c.fill_keys.ensures

pub write_lines-requires-clause-keys : goal.write_lines-requires-clause-keys
write_lines-requires-clause-keys c =
    subst (λ (z : List Key). AreKeys z c.args.proposals.now) (sym c.as_slice-2.ensures.value) c.fill_keys.ensures
