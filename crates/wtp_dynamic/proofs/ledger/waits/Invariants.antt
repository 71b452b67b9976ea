use Rattle.std.proofs.Common.{◌≡◌, drop}
use Rattle.wtp_dynamic.specs.EncoderState.{may_wait}
use Rattle.wtp_dynamic.proofs.ledger.waits.Given as goal

abbrev pub invariant-loop-i : goal.invariant-loop-i
invariant-loop-i l = may_wait l.known l.stream (drop l.i l.sections.items) ≡ may_wait l.known l.stream (drop l.from l.sections.items)
