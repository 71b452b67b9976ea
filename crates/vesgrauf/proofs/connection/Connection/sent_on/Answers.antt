use Rattle.vesgrauf.proofs.EndLemmas.{lasts_then}
use Rattle.vesgrauf.proofs.connection.Connection.sent_on.Goals as goal

pub returns-clause-lasts : goal.returns-clause-lasts
returns-clause-lasts c = lasts_then c.args.id c.args.self.now c.message_sent.new.self c.after_sent.new.self
    c.message_sent.ensures.lasts c.message_sent.ensures.goes c.after_sent.ensures.keeps

pub returns-in_err-after_sent-clause-lasts : goal.returns-in_err-after_sent-clause-lasts
returns-in_err-after_sent-clause-lasts c = lasts_then c.args.id c.args.self.now c.message_sent.new.self
    c.after_sent.new.self c.message_sent.ensures.lasts c.message_sent.ensures.goes c.after_sent.ensures.keeps
