use Rattle.vesgrauf.specs.Cuts.{AreCut}
use Rattle.vesgrauf.proofs.CutLemmas.{cut_then, on_ok_is}
use Rattle.vesgrauf.proofs.connection.Connection.shut.Goals as goal

pub returns-clause-cut : goal.returns-clause-cut
returns-clause-cut c = on_ok_is c.leave.result
    (AreCut c.args.id c.args.self.now.streams.entries c.leave.new.self.streams.entries)
    (cut_then (cut_then (cut_then c.in_ok-end_session.ensures.cut c.tell_closed.ensures.alone)
    c.end_left.ensures.alone) c.leave.ensures.alone)
