use Rattle.std.proofs.Common.{[], ◌∷◌, ◌++◌}
use Rattle.wtp_dynamic_encoder.proofs.Fronts.{whole_shorter}
use Rattle.wtp_dynamic_encoder.proofs.Acknowledged.{leads_push}
use Rattle.wtp_dynamic_encoder.proofs.decoder_stream.read_instructions.Goals as goal

pub instructions-smaller : goal.instructions-smaller
instructions-smaller c = whole_shorter _ _ _ c.in-Whole.ensures

pub instructions-preserved : goal.instructions-preserved
instructions-preserved c =
    let kept = c.instructions.invariant in
    (kept.0 ++ _ ∷ [], leads_push kept.0 _ _ _ _ _ _ _ _ kept.1 c.in-Whole.ensures c.in-Ok.ensures)
