use Rattle.std.proofs.Common.{arith}
use Rattle.wtp_dynamic_decoder.proofs.Grown.{reaches_grow}
use Rattle.wtp_dynamic_decoder.proofs.decoder.QpackDecoder.read_encoder_stream.Goals as goal

pub invariant_of-self-in-Err : goal.invariant_of-self-in-Err
invariant_of-self-in-Err c =
    let grown = reaches_grow _ _ _ c.in-Err.ensures.read.0 in
    (omega (arith, c.self.invariant.0, grown), c.self.invariant.1)
