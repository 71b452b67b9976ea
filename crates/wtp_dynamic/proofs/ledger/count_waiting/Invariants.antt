use Rattle.std.proofs.Common.{◌≡◌, ◌+◌, ◌≤◌, length, drop}
use Rattle.wtp_dynamic.specs.EncoderState.{waiting_streams}
use Rattle.wtp_dynamic.proofs.ledger.count_waiting.Given as goal

abbrev pub invariant-loop-i : goal.invariant-loop-i
invariant-loop-i l = record {
  few : l.count ≤ l.i;
  count : l.count + length (waiting_streams l.known (drop l.i l.sections.items)) ≡ length (waiting_streams l.known l.sections.items);
}
