use Rattle.wtp_transcripts.proofs.WaitLemmas.{waits_whole, waited_given}
use Rattle.wtp_transcripts.proofs.laws.waiting_streams_lose_nothing.Goals as goal

pub returns-clause-kept : goal.returns-clause-kept
returns-clause-kept c = waits_whole

pub returns-clause-given : goal.returns-clause-given
returns-clause-given c = waited_given
