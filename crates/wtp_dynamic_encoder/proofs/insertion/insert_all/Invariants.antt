use Rattle.std.proofs.Common.{take}
use Rattle.wtp_dynamic.specs.EncoderState.{Owes}
use Rattle.wtp_dynamic_encoder.specs.Encoding.{encoder_of, AreOffered, Ordered}
use Rattle.wtp_dynamic_encoder.proofs.insertion.insert_all.Given as goal

abbrev pub invariant-loop-i : goal.invariant-loop-i
invariant-loop-i l = record {
  offered : AreOffered l.policy (take l.i l.proposals) l.ledger l.initial.table l.table l.initial.out.items l.out.items;
  orders : Ordered l.initial.table l.table l.initial.out.items l.out.items;
  owes : Owes (encoder_of l.initial.table l.ledger) → Owes (encoder_of l.table l.ledger);
}
