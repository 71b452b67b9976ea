use Rattle.wtp_messages.proofs.AuthorityLemmas.{authority_passes, authority_found}
use Rattle.wtp_messages.proofs.laws.authorities_are_those_of_the_grammar.Goals as goal

pub returns-clause-taken : goal.returns-clause-taken
returns-clause-taken c = authority_passes

pub returns-clause-no_other : goal.returns-clause-no_other
returns-clause-no_other c = authority_found
