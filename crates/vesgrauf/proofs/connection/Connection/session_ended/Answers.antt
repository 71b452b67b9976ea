use Rattle.std.proofs.Common.{◌≡◌, false}
use Rattle.vesgrauf.specs.Cuts.{AreCut}
use Rattle.vesgrauf.specs.Joined.{holds_in}
use Rattle.vesgrauf.specs.Own.{entry_at}
use Rattle.vesgrauf.proofs.CutLemmas.{alone_holds, cut_then, on_ok_is}
use Rattle.vesgrauf.proofs.connection.Connection.session_ended.Goals as goal

pub returns-clause-cut : goal.returns-clause-cut
returns-clause-cut c = on_ok_is c.forget_if_done.result
    (AreCut c.args.session c.args.self.now.streams.entries c.forget_if_done.new.self.streams.entries)
    (cut_then (cut_then (cut_then c.in_ok-end_session.ensures.cut c.drop_peer.ensures.alone)
    c.cancel_left.ensures.alone) c.forget_if_done.ensures.alone)

pub returns-clause-over : goal.returns-clause-over
returns-clause-over c = on_ok_is c.forget_if_done.result
    (holds_in (entry_at c.forget_if_done.new.self.streams.entries c.args.session) ≡ false)
    (alone_holds c.forget_if_done.ensures.alone (alone_holds c.cancel_left.ensures.alone
    (alone_holds c.drop_peer.ensures.alone c.in_ok-end_session.ensures.over)))
