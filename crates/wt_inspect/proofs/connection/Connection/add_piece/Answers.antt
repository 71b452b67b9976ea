use Rattle.wt_inspect.proofs.connection.Connection.add_piece.Goals as goal

pub returns : goal.returns
returns c = (c.in_ok-view.view, c.in_ok-push.ensures.items, c.in_ok-view.ensures)
