use Rattle.wtp_transcripts.proofs.SessionLemmas.{uni_whole, bi_whole}
use Rattle.wtp_transcripts.proofs.laws.session_streams_are_whole.Goals as goal

pub returns-clause-uni : goal.returns-clause-uni
returns-clause-uni c = uni_whole

pub returns-clause-bi : goal.returns-clause-bi
returns-clause-bi c = bi_whole
