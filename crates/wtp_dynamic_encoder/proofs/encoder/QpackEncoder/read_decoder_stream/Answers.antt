use Rattle.wtp_dynamic_encoder.proofs.Kept.{stands_keep, reaches_keep}
use Rattle.wtp_dynamic_encoder.proofs.encoder.QpackEncoder.read_decoder_stream.Goals as goal

pub invariant_of-self : goal.invariant_of-self
invariant_of-self c =
    stands_keep c.self.inside.table c.self.inside.most c.insert_count-count.result c.self.inside.ledger _ c.read.new.ledger _ c.insert_count-count.ensures.value c.self.invariant c.in-Ok.ensures

pub invariant_of-self-in-Err : goal.invariant_of-self-in-Err
invariant_of-self-in-Err c =
    reaches_keep c.self.inside.table c.self.inside.most c.insert_count-count.result c.self.inside.ledger _ c.read.new.ledger c.insert_count-count.ensures.value c.self.invariant c.in-Err.ensures.0
