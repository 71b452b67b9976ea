use Rattle.std.proofs.Common.{refl}
use Rattle.wtp_core.proofs.RestLemmas.{rest-bytes, rest-same}
use Rattle.wtp_wire.proofs.FrontLemmas.{after-payload, after-skip, after_payload-cut, after_skip-cut}
use Rattle.wtp_wire.proofs.frame.Frame.read_body.Goals as goal

pub returns-in-Some-clause-answer : goal.returns-in-Some-clause-answer
returns-in-Some-clause-answer g c =
    rw (c.in-Payload.is, c.with_number.ensures) (after-payload c.in-Payload.kind c.in-Payload.size c.in-Some.payload.now _ _ c.in-Some.ensures.found)

pub returns-in-Some-clause-rest : goal.returns-in-Some-clause-rest
returns-in-Some-clause-rest g c = rest-bytes _ _ _ _ c.in-Some.ensures.found

pub returns-in-None-clause-answer : goal.returns-in-None-clause-answer
returns-in-None-clause-answer g c =
    rw c.in-Payload.is (after_payload-cut c.in-Payload.kind c.in-Payload.size _ c.in-None.ensures.found)

pub returns-in-None-clause-rest : goal.returns-in-None-clause-rest
returns-in-None-clause-rest g c = rest-same _ _ c.in-None.ensures.none

pub returns-in-Session-clause-answer : goal.returns-in-Session-clause-answer
returns-in-Session-clause-answer g c = rw (c.in-Session.is, c.new_webtransport.ensures) refl

pub returns-in-Some-get_bytes-clause-answer : goal.returns-in-Some-get_bytes-clause-answer
returns-in-Some-get_bytes-clause-answer g c =
    rw c.in-Skip.is (after-skip c.in-Skip.size c.in-Some-get_bytes.field-0.now _ _ c.in-Some-get_bytes.ensures.found)

pub returns-in-Some-get_bytes-clause-rest : goal.returns-in-Some-get_bytes-clause-rest
returns-in-Some-get_bytes-clause-rest g c = rest-bytes _ _ _ _ c.in-Some-get_bytes.ensures.found

pub returns-in-None-get_bytes-clause-answer : goal.returns-in-None-get_bytes-clause-answer
returns-in-None-get_bytes-clause-answer g c =
    rw c.in-Skip.is (after_skip-cut c.in-Skip.size _ c.in-None-get_bytes.ensures.found)

pub returns-in-None-get_bytes-clause-rest : goal.returns-in-None-get_bytes-clause-rest
returns-in-None-get_bytes-clause-rest g c = rest-same _ _ c.in-None-get_bytes.ensures.none
