use Rattle.vesgrauf_queue.specs.Steps.{Does, Acknowledges}
use Rattle.vesgrauf.proofs.KeepsLemmas.{keeps_own}
use Rattle.vesgrauf.proofs.MessageLemmas.{changes_then}
use Rattle.vesgrauf.proofs.connection.Connection.acked_stream.Goals as goal

pub returns-clause-acks : goal.returns-clause-acks
returns-clause-acks c = λ have. changes_then c.args.self.now c.acked_on.new.self c.after_sent.new.self c.args.id
    (λ v w. Does (Acknowledges c.args.len) v.queue w.queue) (c.in_ok-is_done.ensures.acks have)
    (keeps_own c.after_sent.ensures.keeps)
