use Rattle.std.proofs.Common.{◌+◌, ◌++◌, [], ◌∷◌, length, length-append, ap, sym, subst, ◌∙◌, arith}
use Rattle.wtp_dynamic.specs.EncoderState.{AreKept}
use Rattle.wtp_dynamic_encoder.specs.Acknowledging.{Ledger}
use Rattle.wtp_dynamic_encoder.specs.Stored.{sections_bytes, AreStreams}
use Rattle.wtp_dynamic_encoder.proofs.Storing.{short_sections, wrong_section, kept_push, streams_push, taken_section}
use Rattle.wtp_dynamic_encoder.proofs.encoder.stored.take_ledger.Goals as goal

pub returns-in_default : goal.returns-in_default
returns-in_default c = short_sections c.args.head.now c.args.sections c.args.bytes.now c.loop-count.rest.now c.loop-count.ledger.1 c.loop-count.invariant.bytes (omega arith) c.in_default.ensures

pub returns-then-not-is_within : goal.returns-then-not-is_within
returns-then-not-is_within c = wrong_section c.args.head.now c.args.sections c.args.bytes.now c.loop-count.rest.now c.in-Some.behind.now c.loop-count.ledger.1 c.in-Some.sent c.requires.count c.loop-count.invariant.bytes (omega arith) c.loop-count.invariant.kept c.loop-count.invariant.streams c.in-Some.ensures.0 c.in-Some.ensures.1 c.if-not-is_within.ensures

pub loop-count-preserved : goal.loop-count-preserved
loop-count-preserved c =
    let e = c.in_ok-open.ensures in
    record {
      known = ap (λ (l : Ledger). l.0) e ∙ c.loop-count.invariant.known;
      count = ap (λ (l : Ledger). length l.1) e ∙ length-append c.loop-count.ledger.1 (c.in-Some.sent ∷ []) ∙ omega (arith, c.loop-count.invariant.count);
      most = omega arith;
      kept = subst (λ (l : Ledger). AreKept c.args.head.now.dropped (c.args.head.now.dropped + c.args.head.now.count) l.1) (sym e) (kept_push c.args.head.now.dropped (c.args.head.now.dropped + c.args.head.now.count) c.loop-count.ledger.1 c.in-Some.sent c.loop-count.invariant.kept c.if-not-is_within.ensures);
      streams = subst (λ (l : Ledger). AreStreams l.1) (sym e) (streams_push c.loop-count.ledger.1 c.in-Some.sent c.loop-count.invariant.streams c.in-Some.ensures.1.0);
      bytes = taken_section c.args.bytes.now c.loop-count.rest.now c.in-Some.behind.now c.loop-count.ledger.1 c.in-Some.sent c.loop-count.invariant.bytes c.in-Some.ensures.0 ∙ ap (λ (l : Ledger). sections_bytes l.1 ++ c.in-Some.behind.now) (sym e);
    }
