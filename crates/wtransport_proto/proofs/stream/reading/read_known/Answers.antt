use Rattle.std.proofs.Common.{◌≡◌, None, Ok, refl, sym, ap, ◌∙◌}
use Rattle.wtp_core.proofs.RestLemmas.{rest-rest}
use Rattle.wtp_wire.proofs.FrontLemmas.{unknown-shorter}
use Rattle.wtransport_proto.proofs.ReadingLemmas.{skips-none, skips-one, known-none, known-ok, known-code, unknown-code}
use Rattle.wtransport_proto.proofs.stream.reading.read_known.Goals as goal

pub returns-in-Ok : goal.returns-in-Ok
returns-in-Ok g c = record {
  answer = known-ok _ (g.R.BytesReader.left c.frames.reader) _ c.in-Ok.found c.frames.invariant.0.known c.in-Ok.ensures.answer;
  none = λ e. let none : c.in-Ok.found ≡ None = cc in known-none _ (g.R.BytesReader.left c.frames.reader) _ c.in-Ok.found c.frames.invariant.0.known c.in-Ok.ensures.answer (λ s. c.in-Ok.ensures.none (ap Ok s)) none;
  rest = rest-rest _ _ _ c.in-Ok.ensures.rest c.frames.invariant.0.rest;
  kept = c.in-Ok.ensures.kept ∙ c.frames.invariant.1;
}

pub frames-init : goal.frames-init
frames-init g c = (skips-none _, refl)

pub frames-smaller : goal.frames-smaller
frames-smaller g c = unknown-shorter _ _ (unknown-code c.in-Err.fault _ _ (sym c.code.ensures ∙ c.in-None.is) c.in-Err.ensures.answer)

pub frames-preserved : goal.frames-preserved
frames-preserved g c = (skips-one _ _ _ c.frames.invariant.0 (unknown-code c.in-Err.fault _ _ (sym c.code.ensures ∙ c.in-None.is) c.in-Err.ensures.answer) c.in-Err.ensures.rest, c.in-Err.ensures.kept ∙ c.frames.invariant.1)

pub returns-in-Some : goal.returns-in-Some
returns-in-Some g c = record {
  answer = known-code c.in-Err.fault c.in-Some.code _ (g.R.BytesReader.left c.frames.reader) _ (sym c.code.ensures ∙ c.in-Some.is) c.frames.invariant.0.known c.in-Err.ensures.answer;
  none = λ e. absurd (cc);
  rest = rest-rest _ _ _ c.in-Err.ensures.rest c.frames.invariant.0.rest;
  kept = c.in-Err.ensures.kept ∙ c.frames.invariant.1;
}
