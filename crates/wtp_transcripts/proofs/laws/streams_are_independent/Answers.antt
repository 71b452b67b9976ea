use Rattle.wtp_transcripts.proofs.IndependentLemmas.{stands_alone}
use Rattle.wtp_transcripts.proofs.laws.streams_are_independent.Goals as goal

pub returns-clause-seen : goal.returns-clause-seen
returns-clause-seen c = λ e t n steps k o h. (stands_alone e t n steps k o h).seen

pub returns-clause-held : goal.returns-clause-held
returns-clause-held c = λ e t n steps k o h. (stands_alone e t n steps k o h).held

pub returns-clause-over : goal.returns-clause-over
returns-clause-over c = λ e t n steps k o h. (stands_alone e t n steps k o h).over
