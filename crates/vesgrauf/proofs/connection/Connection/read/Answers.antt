use Rattle.std.proofs.Common.{[]}
use Rattle.wtp_webtransport.specs.Events.{told_of}
use Rattle.vesgrauf.specs.Items.{items_of, items_in}
use Rattle.vesgrauf.proofs.KeepsLemmas.{keeps_left}
use Rattle.vesgrauf.proofs.TellsLemmas.{left_reads, reads_left}
use Rattle.vesgrauf.proofs.connection.Connection.read.Goals as goal

pub returns-in-Some-clause-reads : goal.returns-in-Some-clause-reads
returns-in-Some-clause-reads c =
    left_reads c.args.id (items_of (told_of c.in_ok-event.event)) c.args.self.now.streams.entries
    c.join.new.self.streams.entries c.args.chunk.now c.in_ok-event.ensures.silent (keeps_left c.join.ensures.keeps)

pub returns-in-Heard-clause-reads : goal.returns-in-Heard-clause-reads
returns-in-Heard-clause-reads c = reads_left c.args.id (items_in c.in-Heard.heard) c.args.self.now.streams.entries
    c.look.new.self.streams.entries c.credit.new.self.streams.entries c.args.chunk.now c.look.new.chunk
    (rw c.in-Heard.is at c.in_ok-found.ensures.reads) (keeps_left c.credit.ensures.keeps)

pub returns-in-Again-clause-reads : goal.returns-in-Again-clause-reads
returns-in-Again-clause-reads c = reads_left c.args.id [] c.args.self.now.streams.entries
    c.look.new.self.streams.entries c.credit.new.self.streams.entries c.args.chunk.now c.look.new.chunk
    (rw c.in-Again.is at c.in_ok-found.ensures.reads) (keeps_left c.credit.ensures.keeps)
