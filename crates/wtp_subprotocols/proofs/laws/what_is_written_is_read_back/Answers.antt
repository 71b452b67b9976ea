use Rattle.wtp_subprotocols.proofs.GrammarLemmas.{list_kept, string_kept}
use Rattle.wtp_subprotocols.proofs.laws.what_is_written_is_read_back.Goals as goal

pub returns-clause-list : goal.returns-clause-list
returns-clause-list c = list_kept

pub returns-clause-string : goal.returns-clause-string
returns-clause-string c = string_kept
