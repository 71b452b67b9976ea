use Rattle.wtp_transcripts.proofs.IndependentLemmas.{first_error}
use Rattle.wtp_transcripts.proofs.OverLemmas.{after_over, seen_before}
use Rattle.wtp_transcripts.proofs.laws.nothing_is_found_after_an_error.Goals as goal

pub returns-clause-first : goal.returns-clause-first
returns-clause-first c = first_error

pub returns-clause-seen : goal.returns-clause-seen
returns-clause-seen c = λ x first rest o. seen_before first rest x o

pub returns-clause-over : goal.returns-clause-over
returns-clause-over c = λ x steps o. after_over steps x o
