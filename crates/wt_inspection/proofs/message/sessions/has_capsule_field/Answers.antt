use Rattle.std.proofs.Common.{rules, tests}
use Rattle.std.proofs.lemmas.Iterator.{YieldsList-from_slice}
use Rattle.std.proofs.lemmas.Iterator.Search.{any_from_yields_List}
use Rattle.wt_inspection.specs.SessionSections.{is_capsule_field}
use Rattle.wt_inspection.proofs.message.sessions.has_capsule_field.Goals as goal

pub returns : goal.returns
returns c =
    any_from_yields_List is_capsule_field _ _ c.any.result c.any.ensures.ran (YieldsList-from_slice c.args.section.now.lines.items (cc)) (λ x b q k. search (rules, tests))
