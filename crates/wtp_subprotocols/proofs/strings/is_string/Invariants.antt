use Rattle.std.proofs.Common.{◌≡◌, drop}
use Rattle.wtp_subprotocols.specs.Strings.{is_string}
use Rattle.wtp_subprotocols.proofs.strings.is_string.Given as goal

abbrev pub invariant-loop-byte : goal.invariant-loop-byte
invariant-loop-byte l = is_string (drop l.byte-index l.value) ≡ is_string l.value
