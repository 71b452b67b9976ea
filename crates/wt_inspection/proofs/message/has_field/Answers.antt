use Rattle.std.proofs.Common.{rules, tests}
use Rattle.std.proofs.lemmas.Iterator.{YieldsList-from_slice}
use Rattle.std.proofs.lemmas.Iterator.Search.{any_from_yields_List}
use Rattle.std.specs.Str.{bytes_eq}
use Rattle.wt_inspection_model.specs.declared.item.fields.Line.{Line}
use Rattle.wt_inspection.proofs.message.has_field.Goals as goal

pub returns : goal.returns
returns c =
    any_from_yields_List (λ (line : Line). bytes_eq line.name.items c.args.name.now) _ _ c.any.result c.any.ensures.ran (YieldsList-from_slice c.args.section.now.lines.items (cc)) (λ x b q k. search (rules, tests))
