use Rattle.wtp_transcripts.proofs.ResumedStepLemmas.{resumed_seen, resumed_streams, resumed_over, resumed_kept, refused_forgets}
use Rattle.wtp_transcripts.proofs.laws.resumption_changes_nothing_else.Goals as goal

pub returns-clause-seen : goal.returns-clause-seen
returns-clause-seen c = resumed_seen

pub returns-clause-streams : goal.returns-clause-streams
returns-clause-streams c = resumed_streams

pub returns-clause-over : goal.returns-clause-over
returns-clause-over c = resumed_over

pub returns-clause-kept : goal.returns-clause-kept
returns-clause-kept c = resumed_kept

pub returns-clause-refused : goal.returns-clause-refused
returns-clause-refused c = refused_forgets
