use Rattle.vesgrauf.specs.Messages.{ClosesSession}
use Rattle.vesgrauf.proofs.KeepsLemmas.{keeps_own}
use Rattle.vesgrauf.proofs.CutLemmas.{changes_others, cut_after}
use Rattle.vesgrauf.proofs.EndLemmas.{lasts_then}
use Rattle.vesgrauf.proofs.MessageLemmas.{changes_then}
use Rattle.vesgrauf.proofs.connection.Connection.close_session.Goals as goal

pub returns-clause-closes : goal.returns-clause-closes
returns-clause-closes c = changes_then c.args.self.now c.put_close.new.self c.session_ended.new.self c.args.session
    (ClosesSession c.args.code c.args.reason.now) c.in_ok-put_close.ensures.closes
    (keeps_own c.session_ended.ensures.keeps)

pub returns-clause-cut : goal.returns-clause-cut
returns-clause-cut c = cut_after c.args.session c.args.self.now.streams.entries
    c.put_close.new.self.streams.entries c.session_ended.new.self.streams.entries
    (changes_others c.args.self.now c.put_close.new.self c.args.session (ClosesSession c.args.code c.args.reason.now)
    c.in_ok-put_close.ensures.closes)
    c.in_ok-session_ended.ensures.cut

pub returns-clause-lasts : goal.returns-clause-lasts
returns-clause-lasts c = lasts_then c.args.session c.args.self.now c.put_close.new.self c.session_ended.new.self
    c.put_close.ensures.lasts c.put_close.ensures.goes c.session_ended.ensures.keeps

pub returns-in_err-session_ended-clause-lasts : goal.returns-in_err-session_ended-clause-lasts
returns-in_err-session_ended-clause-lasts c = lasts_then c.args.session c.args.self.now c.put_close.new.self c.session_ended.new.self
    c.put_close.ensures.lasts c.put_close.ensures.goes c.session_ended.ensures.keeps
