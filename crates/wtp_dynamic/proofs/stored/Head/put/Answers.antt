use Rattle.wtp_dynamic.proofs.Storing.{head_put}
use Rattle.wtp_dynamic.proofs.stored.Head.put.Goals as goal

pub returns : goal.returns
returns c = head_put _ _ _ _ _ _ _ _ _ c.in_ok-put_word.ensures c.in_ok-put_word-2.ensures c.in_ok-put_word-3.ensures c.in_ok-put_word-4.ensures c.in_ok-put_word-5.ensures c.in_ok-put_word-6.ensures c.in_ok-put_word-7.ensures
