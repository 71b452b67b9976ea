use Rattle.std.proofs.Common.{◌≡◌, length}
use Rattle.wtp_messages.specs.Length.{without_end}
use Rattle.wtp_messages.proofs.length.trim_end.Given as goal

abbrev pub invariant-loop-last : goal.invariant-loop-last
invariant-loop-last l = without_end l.rest ≡ without_end l.text

abbrev pub decreases-loop-last : goal.decreases-loop-last
decreases-loop-last l = length l.rest
