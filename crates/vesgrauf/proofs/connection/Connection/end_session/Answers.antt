use Rattle.vesgrauf.specs.Cuts.{AreCut}
use Rattle.vesgrauf.proofs.CutLemmas.{cut_then, on_ok_is}
use Rattle.vesgrauf.proofs.connection.Connection.end_session.Goals as goal

pub returns-clause-cut : goal.returns-clause-cut
returns-clause-cut c = on_ok_is c.lose_own.result
    (AreCut c.args.session c.args.self.now.streams.entries c.lose_own.new.self.streams.entries)
    (cut_then c.in_ok-cut_all.ensures.joined c.lose_own.ensures.alone)
