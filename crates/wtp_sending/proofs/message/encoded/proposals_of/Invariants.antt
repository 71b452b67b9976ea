use Rattle.std.proofs.Common.{◌≡◌, ◌++◌, map}
use Rattle.wtp_sending.specs.Encoded.{proposed, with_indexing}
use Rattle.wtp_sending.proofs.message.encoded.proposals_of.Given as goal

abbrev pub invariant-loop-field : goal.invariant-loop-field
invariant-loop-field l = map proposed l.proposals.items ++ map with_indexing l.fields ≡ map with_indexing l.list
