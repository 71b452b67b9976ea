use Rattle.std.proofs.Common.{◌≡◌, ◌-◌, length, drop}
use Rattle.wtp_frames.specs.First.{first}
use Rattle.wtp_frames.proofs.StepLemmas.{HasMoved}
use Rattle.wtp_frames.proofs.reader.Reader.next.Given as goal

abbrev pub invariant-moves : goal.invariant-moves
invariant-moves l =
    HasMoved l.fn.self l.bytes l.self l.at × (first l.fn.self l.bytes ≡ first l.self (drop l.at l.bytes))

abbrev pub decreases-moves : goal.decreases-moves
decreases-moves l = length l.bytes - l.at
