use Rattle.std.proofs.Common.{refl}
use Rattle.wtp_wire.proofs.CloseLemmas.{close_in-bad_text, close_in-read}
use Rattle.wtp_wire.proofs.capsule.capsules.CloseWebTransportSession.code_and_reason.Goals as goal

pub returns-in-Err-clause-parts : goal.returns-in-Err-clause-parts
returns-in-Err-clause-parts c = close_in-bad_text _ _ c.in_ok-code.ensures.cases.1 c.in-Err.ensures.cases.0

pub returns-in-Ok-clause-parts : goal.returns-in-Ok-clause-parts
returns-in-Ok-clause-parts c =
    let s = c.in_ok-code.ensures.cases in
    let text = c.in-Ok.ensures.cases in
    close_in-read _ c.args.payload.now _ _ _ _ refl s.0 s.1 s.2 c.if-text-gt-MAX_REASON_LEN.false text.1 c.from_be_bytes.ensures text.0
