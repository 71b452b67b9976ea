use Rattle.std.proofs.Common.{◌≡◌, take, drop}
use Rattle.wtp_messages.specs.Length.{parts_of}
use Rattle.wtp_messages.proofs.LengthLemmas.{prepended}
use Rattle.wtp_messages.proofs.length.first_part.Given as goal

abbrev pub invariant-loop-i : goal.invariant-loop-i
invariant-loop-i l = prepended (take l.i l.text) (parts_of (drop l.i l.text)) ≡ parts_of l.text
