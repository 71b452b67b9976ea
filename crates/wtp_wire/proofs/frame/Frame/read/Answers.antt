use Rattle.std.proofs.Common.{sym, subst, ◌∙◌}
use Rattle.wtp_core.proofs.RestLemmas.{rest-rest}
use Rattle.wtp_wire.specs.Front.{Front}
use Rattle.wtp_wire.specs.FrameReading.{Answers}
use Rattle.wtp_wire.proofs.FrontLemmas.{front-head, front-headless}
use Rattle.wtp_wire.proofs.frame.Frame.read.Goals as goal

pub returns-clause-answer : goal.returns-clause-answer
returns-clause-answer g c =
    subst (λ (x : Front). Answers x c.read_body.result (g.R.BytesReader.left c.read_body.new.reader)) (sym (front-head _ _ _ c.in-Some.ensures.head)) c.read_body.ensures.answer

pub returns-clause-rest : goal.returns-clause-rest
returns-clause-rest g c = rest-rest _ _ _ c.read_body.ensures.rest c.get_head.ensures.rest

pub returns-in_default-clause-answer : goal.returns-in_default-clause-answer
returns-in_default-clause-answer g c = front-headless _ c.in_default.ensures.head

pub returns-clause-none : goal.returns-clause-none
returns-clause-none g c = λ e. c.read_body.ensures.none e ∙ c.get_head.ensures.left
