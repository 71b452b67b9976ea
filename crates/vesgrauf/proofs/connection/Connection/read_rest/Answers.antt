use Rattle.vesgrauf.specs.Items.{items_by}
use Rattle.vesgrauf.proofs.ReadsLemmas.{reads_kept}
use Rattle.vesgrauf.proofs.connection.Connection.read_rest.Goals as goal

pub returns-then-is_nothing-clause-reads : goal.returns-then-is_nothing-clause-reads
returns-then-is_nothing-clause-reads c =
    reads_kept c.args.id (items_by c.in_ok-heard.heard) c.args.self.now.streams.entries
    c.read.new.self.streams.entries c.new-nothing.result c.read.new.chunk c.new-nothing.ensures.bytes
    c.new-nothing.ensures.fin (c.is_nothing.ensures c.if-is_nothing.true).0
    (c.is_nothing.ensures c.if-is_nothing.true).1 c.in_ok-heard.ensures.reads
