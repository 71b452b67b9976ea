use Rattle.vesgrauf_stream.proofs.HeadersLemmas.{head_refused}
use Rattle.vesgrauf_stream.proofs.writing.Writing.put_headers.Goals as goal

pub returns-clause-err : goal.returns-clause-err
returns-clause-err c =
    head_refused c.args.message c.args.list.now c.args.fin c.args.tools.now c.write_headers.new.self c.put_written.new.tools c.write_headers.new.message c.args.self.now c.unacknowledged-count.result c.put_written.result
    c.in_ok-write_headers.ensures.sent c.put_written.ensures.err c.unacknowledged-count.ensures c.put_written.ensures.instructions
