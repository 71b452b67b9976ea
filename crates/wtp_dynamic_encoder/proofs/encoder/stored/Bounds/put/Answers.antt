use Rattle.wtp_dynamic_encoder.proofs.Storing.{bounds_put}
use Rattle.wtp_dynamic_encoder.proofs.encoder.stored.Bounds.put.Goals as goal

pub returns : goal.returns
returns c = bounds_put _ _ _ _ _ _ _ c.in_ok-put_word.ensures c.in_ok-put_word-2.ensures c.in_ok-put_word-3.ensures c.in_ok-put_word-4.ensures c.in_ok-put_word-5.ensures
