use Rattle.wtp_transcripts.proofs.TakenLemmas.{datagrams_taken, nothing_taken}
use Rattle.wtp_transcripts.proofs.laws.datagrams_are_independent.Goals as goal

pub returns-clause-taken : goal.returns-clause-taken
returns-clause-taken c = λ x steps o. datagrams_taken steps x o

pub returns-clause-over : goal.returns-clause-over
returns-clause-over c = λ x steps o. nothing_taken steps x o
