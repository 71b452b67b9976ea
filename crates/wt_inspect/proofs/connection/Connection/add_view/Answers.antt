use Rattle.wt_inspect.specs.PageShown.{is_server}
use Rattle.wt_inspect.proofs.ViewLemmas.{adds_sent}
use Rattle.wt_inspect.proofs.connection.Connection.add_view.Goals as goal

pub returns-in-Some : goal.returns-in-Some
returns-in-Some c =
    adds_sent c.broken_sent.result.is_server (is_server c.args.view.now.piece.now.entry.sender) c.args.page.now.page c.sent.new.self.page c.broken_sent.ensures c.sent.ensures

pub returns : goal.returns
returns c =
    adds_sent c.whole_sent.result.is_server (is_server c.args.view.now.piece.now.entry.sender) c.args.page.now.page c.sent-in-None.new.self.page c.whole_sent.ensures c.sent-in-None.ensures
