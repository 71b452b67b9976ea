use Rattle.std.proofs.Common.{[]}
use Rattle.wt_inspection_views.proofs.html.connection.ConnectionPage.new.Goals as goal

pub returns : goal.returns
returns c = c.fragment.ensures [] c.new-page.ensures
