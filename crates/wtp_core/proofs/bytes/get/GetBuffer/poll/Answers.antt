use Rattle.std.proofs.Common.{take, arith, length-take, ◌∙◌}
use Rattle.std.proofs.lemmas.List.{take-take}
use Rattle.wtp_core.proofs.FillLemmas.{begins}
use Rattle.wtp_core.specs.declared.bytes.error.IoReadError.{IoReadError}
use Rattle.wtp_core.proofs.WaitLemmas.{interrupted_waits}
use Rattle.wtp_core.proofs.GetLemmas.{interrupted_plain, interrupted_buffer_given, paced_whole, paced_interrupted}
use Rattle.wtp_core.proofs.bytes.get.GetBuffer.poll.Goals as goal

pub returns-in-Ok-clause-given : goal.returns-in-Ok-clause-given
returns-in-Ok-clause-given g c = (
  omega (arith, c.in-Ok.ensures.lengths, c.fill.auto.buf, length-take c.fill.new.at c.fill.new.buf),
  begins c.args.self.now.filled _ (take c.fill.new.at c.fill.new.buf) (take-take c.args.self.now.filled c.fill.new.at c.fill.new.buf c.fill.ensures.forward ∙ c.fill.ensures.front),
)

pub returns-in-Err-clause-waits : goal.returns-in-Err-clause-waits
returns-in-Err-clause-waits g c = rw (interrupted_plain _ _ _ c.interrupt_result.ensures) (interrupted_waits (Unit {0}) IoReadError (Unit {0}) (λ f. f) c.in-Err.interrupt c.fill.new.at _ _ c.in-Err.ensures.waits)

pub returns-in-Err-clause-given : goal.returns-in-Err-clause-given
returns-in-Err-clause-given g c = rw (interrupted_plain _ _ _ c.interrupt_result.ensures) (interrupted_buffer_given (Unit {0}) c.in-Err.interrupt c.fill.new.at c.args.self.now.filled _ _ (take c.fill.new.at c.fill.new.buf)
    (omega (arith, c.in-Err.ensures.lengths, c.fill.auto.buf, length-take c.fill.new.at c.fill.new.buf))
    (take-take c.args.self.now.filled c.fill.new.at c.fill.new.buf c.fill.ensures.forward ∙ c.fill.ensures.front))

pub returns-in-Ok-clause-paced : goal.returns-in-Ok-clause-paced
returns-in-Ok-clause-paced g c = paced_whole (g.S.AsyncRead.model c.args.source.now) (g.S.AsyncRead.model c.fill.new.source) _ _ c.in-Ok.ensures.model

pub returns-in-Err-clause-paced : goal.returns-in-Err-clause-paced
returns-in-Err-clause-paced g c = paced_interrupted (g.S.AsyncRead.model c.args.source.now) (g.S.AsyncRead.model c.fill.new.source) c.in-Err.interrupt _ _ c.in-Err.ensures.model
