use Rattle.wtransport_proto.proofs.StreamPollLemmas.{ruled_judges, code_judges, io_judges, again_judges}
use Rattle.wtransport_proto.proofs.stream.poll.apply_rule.Goals as goal

pub returns-in-Ready-Ok-clause-polled : goal.returns-in-Ready-Ok-clause-polled
returns-in-Ready-Ok-clause-polled g c = ruled_judges g.K.Rule.role c.args.answer c.in-Ready-Ok.frame c.args.first c.permit.result c.map_err.result (cc) c.permit.ensures c.map_err.ensures.cases

pub returns-in-Ready-Err-Parse-clause-polled : goal.returns-in-Ready-Err-Parse-clause-polled
returns-in-Ready-Err-Parse-clause-polled g c = rw c.without_frame.ensures (code_judges g.K.Rule.role c.args.answer c.in-Ready-Err-Parse.fault c.args.first (cc))

pub returns-in-Ready-Err-IO-clause-polled : goal.returns-in-Ready-Err-IO-clause-polled
returns-in-Ready-Err-IO-clause-polled g c = rw c.stream_fault.ensures (io_judges g.K.Rule.role c.args.answer c.in-Ready-Err-IO.fault c.args.first (cc))

pub returns-in-Again-clause-polled : goal.returns-in-Again-clause-polled
returns-in-Again-clause-polled g c = again_judges g.K.Rule.role c.args.answer c.args.first c.in-Again.is
