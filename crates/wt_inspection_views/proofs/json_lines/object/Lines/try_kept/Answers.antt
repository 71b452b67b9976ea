use Rattle.wt_inspection_views.proofs.JsonLemmas.{AddsLines-added}
use Rattle.wt_inspection_views.proofs.json_lines.object.Lines.try_kept.Goals as goal

pub returns-in-Some-clause-added : goal.returns-in-Some-clause-added
returns-in-Some-clause-added c = AddsLines-added c.add_to.result c.args.self.now _ (λ whole. whole) c.add_to.ensures.added
