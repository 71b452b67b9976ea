use Rattle.wtp_subprotocols.proofs.ReadLemmas.{list_read, item_read}
use Rattle.wtp_subprotocols.proofs.GrammarLemmas.{list_found, item_found}
use Rattle.wtp_subprotocols.proofs.laws.strings_are_those_of_the_grammar.Goals as goal

pub returns-clause-list : goal.returns-clause-list
returns-clause-list c = list_read

pub returns-clause-item : goal.returns-clause-item
returns-clause-item c = item_read

pub returns-clause-no_other_list : goal.returns-clause-no_other_list
returns-clause-no_other_list c = list_found

pub returns-clause-no_other_item : goal.returns-clause-no_other_item
returns-clause-no_other_item c = item_found
