use Rattle.std.proofs.Common.{◌≡◌, drop}
use Rattle.std.specs.List.{list_all}
use Rattle.wtp_connection.specs.Instructions.{sets_zero}
use Rattle.wtp_connection.proofs.instructions.sets_nothing.Given as goal

abbrev pub invariant-loop-byte : goal.invariant-loop-byte
invariant-loop-byte l = list_all sets_zero (drop l.byte-index l.bytes) ≡ list_all sets_zero l.bytes
