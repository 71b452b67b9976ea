use Rattle.std.proofs.Common.{length}
use Rattle.wtp_connection.proofs.SettingLemmas.{IsReading}
use Rattle.wtp_connection.proofs.settings.PeerSettings.read.Given as goal

abbrev pub invariant-pairs : goal.invariant-pairs
invariant-pairs l = IsReading l.values l.pairs l.payload

abbrev pub decreases-pairs : goal.decreases-pairs
decreases-pairs l = length l.pairs
