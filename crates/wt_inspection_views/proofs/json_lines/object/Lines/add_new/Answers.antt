use Rattle.wt_inspection_views.proofs.JsonLemmas.{HasLines-added}
use Rattle.wt_inspection_views.proofs.json_lines.object.Lines.add_new.Goals as goal

pub returns-clause-added : goal.returns-clause-added
returns-clause-added c k has = HasLines-added k c.args.self.now _ c.in_ok-add_to.ensures.added.0 has c.in_ok-add_to.ensures.added.1 (λ whole. whole) c.in_ok-add_to.ensures.added.2
