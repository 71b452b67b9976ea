use Rattle.std.proofs.Common.{rules, ◌∙◌}
use Rattle.std.proofs.lemmas.Fn.{filter_same}
use Rattle.wtp_dynamic.proofs.Ledgers.{filter_without}
use Rattle.wtp_dynamic.proofs.ledger.keep_others.Goals as goal

pub returns : goal.returns
returns c = filter_same _ _ _ (λ x b f' k. search rules) _ _ c.retain.ensures.filtered ∙ filter_without c.args.stream c.args.sections.now.items
