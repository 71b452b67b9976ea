use Rattle.std.specs.Prelude.{is_some}
use Rattle.std.proofs.Common.{◌≡◌, true, subst, sym}
use Rattle.vesgrauf_queue.specs.Steps.{Does, Acknowledges}
use Rattle.vesgrauf.specs.Messages.{ChangesThen}
use Rattle.vesgrauf.specs.State.{stream_at}
use Rattle.vesgrauf.proofs.StepLemmas.{on_ok_map}
use Rattle.vesgrauf.proofs.MessageLemmas.{same_stream, still_then}
use Rattle.vesgrauf.proofs.connection.Connection.acked.Goals as goal

pub returns-clause-acks : goal.returns-clause-acks
returns-clause-acks c = on_ok_map c.acked_stream.result
    (is_some (stream_at c.reserve.new.self c.args.id) ≡ true
    → ChangesThen c.args.id (λ v w. Does (Acknowledges c.args.len) v.queue w.queue) c.reserve.new.self c.acked_stream.new.self)
    _
    (λ f other have. still_then c.args.self.now c.reserve.new.self c.acked_stream.new.self c.args.id
    (λ v w. Does (Acknowledges c.args.len) v.queue w.queue) c.reserve.ensures.still
    (f (subst (λ o. is_some o ≡ true) (sym (same_stream c.args.self.now c.reserve.new.self c.args.id c.reserve.ensures.still)) have)))
    c.acked_stream.ensures.acks
