use Rattle.vesgrauf.proofs.KeepsLemmas.{keeps_left}
use Rattle.vesgrauf.proofs.TellsLemmas.{passed_same}
use Rattle.vesgrauf.proofs.connection.Connection.read_decoder_stream.Goals as goal

pub returns-in-Ok-clause-same : goal.returns-in-Ok-clause-same
returns-in-Ok-clause-same c = λ r h. passed_same c.args.id c.args.self.now.streams.entries
    c.count_read.new.self.streams.entries c.args.input.now c.drop_rest.new.self r h c.drop_rest.ensures.report
    (keeps_left c.count_read.ensures.keeps)
