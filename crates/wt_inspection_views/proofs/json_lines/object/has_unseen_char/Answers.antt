use Rattle.std.proofs.Common.{rules, tests}
use Rattle.std.proofs.lemmas.Iterator.{YieldsList-from_chars}
use Rattle.std.proofs.lemmas.Iterator.Search.{any_from_yields_List}
use Rattle.wt_inspection_views.specs.JsonLines.{is_unseen}
use Rattle.wt_inspection_views.proofs.json_lines.object.has_unseen_char.Goals as goal

pub returns : goal.returns
returns c =
    any_from_yields_List is_unseen _ _ c.any.result c.any.ensures.ran (YieldsList-from_chars c.args.text.now c.utf8.text (search rules)) (λ x b q k. search (rules, tests))
