use Rattle.wtp_webtransport.proofs.ContentLemmas.{count_names, sign_names, static_prefix}
use Rattle.wtp_webtransport.proofs.laws.prefixes_that_name_a_table_are_refused.Goals as goal

pub returns-clause-count : goal.returns-clause-count
returns-clause-count c = count_names

pub returns-clause-sign : goal.returns-clause-sign
returns-clause-sign c = sign_names

pub returns-clause-neither : goal.returns-clause-neither
returns-clause-neither c = static_prefix
