use Rattle.std.proofs.Common.{length}
use Rattle.wtp_wire.specs.Content.{payload_in}
use Rattle.wtp_wire.proofs.PairLemmas.{ReadSoFar}
use Rattle.wtp_wire.proofs.settings.Settings.with_frame.Given as goal

abbrev pub invariant-loop-payload : goal.invariant-loop-payload
invariant-loop-payload l = ReadSoFar (payload_in l.frame) l.payload l.settings

abbrev pub decreases-loop-payload : goal.decreases-loop-payload
decreases-loop-payload l = length l.payload
