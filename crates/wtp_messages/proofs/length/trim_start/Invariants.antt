use Rattle.std.proofs.Common.{◌≡◌, length}
use Rattle.wtp_messages.specs.Length.{without_start}
use Rattle.wtp_messages.proofs.length.trim_start.Given as goal

abbrev pub invariant-loop-first : goal.invariant-loop-first
invariant-loop-first l = without_start l.rest ≡ without_start l.text

abbrev pub decreases-loop-first : goal.decreases-loop-first
decreases-loop-first l = length l.rest
