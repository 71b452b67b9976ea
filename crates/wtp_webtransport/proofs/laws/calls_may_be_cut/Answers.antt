use Rattle.wtp_webtransport.proofs.StopLemmas.{calls_stop}
use Rattle.wtp_webtransport.proofs.GivenLemmas.{calls_give}
use Rattle.wtp_webtransport.proofs.PieceLemmas.{calls_give_pieces}
use Rattle.wtp_webtransport.proofs.laws.calls_may_be_cut.Goals as goal

pub returns-clause-stops : goal.returns-clause-stops
returns-clause-stops c = λ limit d s a b fin o p q ns h e g v k w. calls_stop limit d s a b fin o p q ns h e g v k w

pub returns-clause-given : goal.returns-clause-given
returns-clause-given c = λ limit d s a b fin o q ns h v goes whole k w. calls_give limit d s a b fin o q ns v h goes whole k w

pub returns-clause-pieces : goal.returns-clause-pieces
returns-clause-pieces c = λ limit d s a b fin o q ns hf g i free h m. calls_give_pieces limit d s a b fin o q ns hf g i free h m
