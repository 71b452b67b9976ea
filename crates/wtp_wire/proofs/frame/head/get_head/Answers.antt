use Rattle.wtp_core.proofs.RestLemmas.{rest-same, rest-rest, rest-number}
use Rattle.wtp_wire.proofs.FrontLemmas.{head_at-numbers}
use Rattle.wtp_wire.proofs.PastLemmas.{left-two_none, left-one, left-two}
use Rattle.wtp_wire.proofs.frame.head.get_head.Goals as goal

pub returns-clause-head : goal.returns-clause-head
returns-clause-head g c = rw c.classify_head.ensures.announces (head_at-numbers _ _ _ _ _ c.in_ok-id.ensures.found c.in_ok-number.ensures.found)

pub returns-in_err-id-clause-rest : goal.returns-in_err-id-clause-rest
returns-in_err-id-clause-rest g c = rest-same _ _ c.in_err-id.ensures.none

pub returns-in_err-number-clause-rest : goal.returns-in_err-number-clause-rest
returns-in_err-number-clause-rest g c =
    rest-rest _ _ _ (rest-same _ _ c.in_err-number.ensures.none) (rest-number _ _ _ c.in_ok-id.ensures.found)

pub returns-clause-rest : goal.returns-clause-rest
returns-clause-rest g c =
    rest-rest _ _ _ (rest-number _ _ _ c.in_ok-number.ensures.found) (rest-number _ _ _ c.in_ok-id.ensures.found)

pub returns-in_err-id-clause-left : goal.returns-in_err-id-clause-left
returns-in_err-id-clause-left g c = left-two_none _ _ c.in_err-id.ensures.found c.in_err-id.ensures.none

pub returns-in_err-number-clause-left : goal.returns-in_err-number-clause-left
returns-in_err-number-clause-left g c = left-one _ _ _ _ c.in_ok-id.ensures.found c.in_err-number.ensures.found c.in_err-number.ensures.none

pub returns-clause-left : goal.returns-clause-left
returns-clause-left g c = left-two _ _ _ _ _ c.in_ok-id.ensures.found c.in_ok-number.ensures.found
