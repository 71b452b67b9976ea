use Rattle.wt_inspect.proofs.ViewLemmas.{keeps_both}
use Rattle.wt_inspect.proofs.connection.page.begin_stream.Goals as goal

pub returns : goal.returns
returns c =
    keeps_both c.args.page.now.page c.begin_group.new.page.page c.begin_at.new.page.page c.in_ok-begin_group.ensures c.begin_at.ensures
