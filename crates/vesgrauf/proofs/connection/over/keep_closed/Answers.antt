use Rattle.std.proofs.Common.{rules}
use Rattle.std.proofs.lemmas.Fn.{filter_same}
use Rattle.vesgrauf.proofs.ToldLemmas.{closed_by}
use Rattle.vesgrauf.proofs.connection.over.keep_closed.Goals as goal

pub returns-clause-kept : goal.returns-clause-kept
returns-clause-kept c = filter_same _ _ _ (λ x b f' k. search rules) _ _ c.retain.ensures.filtered

pub returns-clause-last : goal.returns-clause-last
returns-clause-last c = closed_by c.args.events.now.items _ (returns-clause-kept c)
