use Rattle.std.proofs.Common.{Some, None, sym, ◌∙◌}
use Rattle.wtp_core.proofs.RestLemmas.{rest-rest}
use Rattle.wtp_wire.proofs.FrontLemmas.{unknown-shorter}
use Rattle.wtransport_proto.proofs.ReadingLemmas.{skips-none, skips-one, known-ok, known-code, unknown-code}
use Rattle.wtp_wire.proofs.RunLemmas.{skip_unknown-short}
use Rattle.wtransport_proto.proofs.stream.cursor.take_known.Goals as goal

pub returns-in-Ok-Some : goal.returns-in-Ok-Some
returns-in-Ok-Some c = record {
  answer = known-ok _ c.frames.rest.now _ (Some c.in-Ok-Some.frame) c.frames.invariant.known (rw c.in-Ok-Some.field-0-is at c.in-Ok-Some.ensures.answer);
  short = λ e. absurd (cc);
  rest = rest-rest _ _ _ c.in-Ok-Some.ensures.rest c.frames.invariant.rest;
}

pub returns-in-Ok-None : goal.returns-in-Ok-None
returns-in-Ok-None c = record {
  answer = known-ok _ c.frames.rest.now c.frames.rest.now None c.frames.invariant.known (rw c.in-Ok-None.field-0-is at c.in-Ok-None.ensures.answer);
  short = λ _. sym (c.frames.invariant.known ∙ skip_unknown-short c.frames.rest.now (rw c.in-Ok-None.field-0-is at c.in-Ok-None.ensures.answer));
  rest = c.frames.invariant.rest;
}

pub frames-init : goal.frames-init
frames-init c = skips-none _

pub frames-smaller : goal.frames-smaller
frames-smaller c = unknown-shorter _ _ (unknown-code c.in-Err.fault _ _ (sym c.code.ensures ∙ c.in-None.is) c.in-Err.ensures.answer)

pub frames-preserved : goal.frames-preserved
frames-preserved c = skips-one _ _ _ c.frames.invariant (unknown-code c.in-Err.fault _ _ (sym c.code.ensures ∙ c.in-None.is) c.in-Err.ensures.answer) c.in-Err.ensures.rest

pub returns-in-Some : goal.returns-in-Some
returns-in-Some c = record {
  answer = known-code c.in-Err.fault c.in-Some.code _ c.frames.rest.now _ (sym c.code.ensures ∙ c.in-Some.is) c.frames.invariant.known c.in-Err.ensures.answer;
  short = λ e. absurd (cc);
  rest = rest-rest _ _ _ c.in-Err.ensures.rest c.frames.invariant.rest;
}
