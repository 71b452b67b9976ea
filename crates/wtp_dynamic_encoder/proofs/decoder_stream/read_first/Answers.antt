use Rattle.std.proofs.Common.{arith}
use Rattle.wtp_dynamic_encoder.proofs.Fronts.{read_shorter, first_whole}
use Rattle.wtp_dynamic_encoder.proofs.decoder_stream.read_first.Goals as goal

pub overflow_sub-used : goal.overflow_sub-used
overflow_sub-used c = omega (arith, read_shorter _ _ _ c.in-Ok.ensures)

pub returns-in-Ok : goal.returns-in-Ok
returns-in-Ok c = first_whole _ _ _ _ _ c.head-head.ensures c.in-Ok.ensures c.split_at.ensures.back
