use Rattle.std.proofs.Common.{◌∙◌, []}
use Rattle.vesgrauf_stream.specs.Headers.{response_at, SendsHeaders}
use Rattle.vesgrauf.proofs.KeepsLemmas.{keeps_own}
use Rattle.vesgrauf.proofs.EndLemmas.{lasts_aside, lasts_from, lasts_then}
use Rattle.vesgrauf.proofs.GoesLemmas.{goes_still}
use Rattle.vesgrauf.proofs.GoesSteps.{goes_on}
use Rattle.vesgrauf.proofs.MessageLemmas.{same_but, responds}
use Rattle.vesgrauf.proofs.connection.Connection.respond.Goals as goal

pub returns-clause-responds : goal.returns-clause-responds
returns-clause-responds c = responds c.args.self.now c.choose_policy.new.self c.put_response-result.new.self
    c.queue_due.new.self c.responded.new.self c.args.id
    (λ a s t v w. SendsHeaders (response_at v c.args.id a) c.args.list.now c.args.fin s t v w)
    (c.choose_policy.ensures.still ∙ c.begin_send.ensures.still)
    (same_but c.args.self.now c.begin_send.new.self c.choose_policy.new.self c.begin_send.ensures.tools
    c.choose_policy.ensures.policy c.choose_policy.ensures.instructions)
    c.in_ok-result.ensures.ok c.queue_due.ensures.due.others (keeps_own c.responded.ensures.keeps)

pub returns-clause-lasts : goal.returns-clause-lasts
returns-clause-lasts c = lasts_then c.args.id c.args.self.now c.queue_due.new.self c.responded.new.self
    (lasts_aside c.args.id c.args.self.now c.put_response-result.new.self c.queue_due.new.self
    (lasts_from c.args.id c.args.self.now c.choose_policy.new.self c.put_response-result.new.self
    (c.choose_policy.ensures.still ∙ c.begin_send.ensures.still) c.put_response-result.ensures.lasts)
    c.queue_due.ensures.due.others)
    (goes_on [] c.args.self.now c.choose_policy.new.self c.queue_due.new.self
    (goes_still c.args.self.now c.choose_policy.new.self (c.choose_policy.ensures.still ∙ c.begin_send.ensures.still))
    (goes_on [] c.choose_policy.new.self c.put_response-result.new.self c.queue_due.new.self
    c.put_response-result.ensures.goes c.queue_due.ensures.goes))
    c.responded.ensures.keeps

pub returns-in_err-result-clause-lasts : goal.returns-in_err-result-clause-lasts
returns-in_err-result-clause-lasts c =
    lasts_aside c.args.id c.args.self.now c.put_response-result.new.self c.queue_due.new.self
    (lasts_from c.args.id c.args.self.now c.choose_policy.new.self c.put_response-result.new.self
    (c.choose_policy.ensures.still ∙ c.begin_send.ensures.still) c.put_response-result.ensures.lasts)
    c.queue_due.ensures.due.others

pub returns-in_err-responded-clause-lasts : goal.returns-in_err-responded-clause-lasts
returns-in_err-responded-clause-lasts c = lasts_then c.args.id c.args.self.now c.queue_due.new.self c.responded.new.self
    (lasts_aside c.args.id c.args.self.now c.put_response-result.new.self c.queue_due.new.self
    (lasts_from c.args.id c.args.self.now c.choose_policy.new.self c.put_response-result.new.self
    (c.choose_policy.ensures.still ∙ c.begin_send.ensures.still) c.put_response-result.ensures.lasts)
    c.queue_due.ensures.due.others)
    (goes_on [] c.args.self.now c.choose_policy.new.self c.queue_due.new.self
    (goes_still c.args.self.now c.choose_policy.new.self (c.choose_policy.ensures.still ∙ c.begin_send.ensures.still))
    (goes_on [] c.choose_policy.new.self c.put_response-result.new.self c.queue_due.new.self
    c.put_response-result.ensures.goes c.queue_due.ensures.goes))
    c.responded.ensures.keeps
