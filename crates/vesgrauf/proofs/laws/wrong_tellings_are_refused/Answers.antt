use Rattle.vesgrauf.proofs.PieceLemmas.{content_joins}
use Rattle.vesgrauf.proofs.RunLemmas.{none_after_an_error, not_before_content}
use Rattle.vesgrauf.proofs.laws.wrong_tellings_are_refused.Goals as goal

pub returns-clause-pieces : goal.returns-clause-pieces
returns-clause-pieces c = content_joins

pub returns-clause-after_an_error : goal.returns-clause-after_an_error
returns-clause-after_an_error c = none_after_an_error

pub returns-clause-end_before_content : goal.returns-clause-end_before_content
returns-clause-end_before_content c = not_before_content
