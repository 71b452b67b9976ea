use Rattle.wtp_connection.proofs.InstructionLemmas.{all_read, other_reported, large_reported}
use Rattle.wtp_connection.proofs.laws.cancelled_streams_are_read.Goals as goal

pub returns-clause-cancelled : goal.returns-clause-cancelled
returns-clause-cancelled c = all_read

pub returns-clause-other : goal.returns-clause-other
returns-clause-other c = other_reported

pub returns-clause-large : goal.returns-clause-large
returns-clause-large c = large_reported
