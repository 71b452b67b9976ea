use Rattle.std.proofs.Common.{◌≡◌, ◌≤◌, length, take, filter}
use Rattle.wtp_dynamic_decoder.specs.Decoder.{waits}
use Rattle.wtp_dynamic_decoder.proofs.decoder.count_waiting.Given as goal

abbrev pub invariant-loop-one : goal.invariant-loop-one
invariant-loop-one l = record {
  few : l.others ≤ l.one-index;
  counted : l.others ≡ length (filter (waits l.stream l.count) (take l.one-index l.waiting));
}
