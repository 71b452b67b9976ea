use Rattle.std.proofs.Common.{◌∙◌}
use Rattle.vesgrauf_stream.specs.Headers.{SendsTrailers}
use Rattle.vesgrauf.proofs.MessageLemmas.{same_but, changes_by_ok}
use Rattle.vesgrauf.proofs.connection.Connection.send_trailers.Goals as goal

pub returns-clause-ok : goal.returns-clause-ok
returns-clause-ok c = changes_by_ok c.args.self.now c.choose_policy.new.self c.put_trailers-result.new.self
    c.queue_due.new.self c.args.id (SendsTrailers c.args.list.now) c.put_trailers-result.result
    (c.choose_policy.ensures.still ∙ c.begin_send.ensures.still)
    (same_but c.args.self.now c.begin_send.new.self c.choose_policy.new.self c.begin_send.ensures.tools
    c.choose_policy.ensures.policy c.choose_policy.ensures.instructions)
    c.put_trailers-result.ensures.ok c.queue_due.ensures.due
