use Rattle.vesgrauf_stream.proofs.HeadersLemmas.{trailers_refused}
use Rattle.vesgrauf_stream.proofs.writing.Writing.put_trailers.Goals as goal

pub returns-clause-err : goal.returns-clause-err
returns-clause-err c =
    trailers_refused c.args.message c.args.list.now c.args.tools.now c.write_trailers.new.self c.put_written.new.tools c.write_trailers.new.message c.args.self.now c.unacknowledged-count.result c.put_written.result
    c.in_ok-write_trailers.ensures.sent c.put_written.ensures.err c.unacknowledged-count.ensures c.put_written.ensures.instructions
