use Rattle.wt_inspection_views.proofs.PageLemmas.{page_filled}
use Rattle.wt_inspection_views.proofs.html.page.Page.fragment.Goals as goal

pub returns : goal.returns
returns c =
    page_filled c.args.self.now (record c.try_fragment-added.new.self { is_whole = c.note.new.self }) c.try_fragment-added.new.self.is_whole c.try_fragment-added.result c.try_fragment-added.ensures.added c.try_fragment-added.ensures.whole c.note.ensures.ok c.note.ensures.err
