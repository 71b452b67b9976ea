use Rattle.std.proofs.Common.{◌≡◌, drop}
use Rattle.wtp_connection.specs.Instructions.{after_bytes}
use Rattle.wtp_connection.proofs.instructions.DecoderPlace.after.Given as goal

abbrev pub invariant-loop-byte : goal.invariant-loop-byte
invariant-loop-byte l = after_bytes l.place (drop l.byte-index l.bytes) ≡ after_bytes l.fn.self l.bytes
