use Rattle.wt_c.proofs.EncoderLemmas.{no_encoder, no_room}
use Rattle.wt_c.proofs.sending.encoder.encoder_in.Goals as goal

pub returns-else-is_roomy : goal.returns-else-is_roomy
returns-else-is_roomy c = λ _.
    no_room c.in-Ok-Some.encoder c.args.bytes.now (rw c.in-Ok-Some.field-0-is at c.in-Ok-Some.ensures) c.if-is_roomy.ensures

pub returns-in-Ok-None : goal.returns-in-Ok-None
returns-in-Ok-None c = λ _. no_encoder c.args.bytes.now (rw c.in-Ok-None.field-0-is at c.in-Ok-None.ensures)
