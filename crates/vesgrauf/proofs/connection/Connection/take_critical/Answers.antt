use Rattle.vesgrauf.specs.declared.output.StreamKind.TheVariants as kind
use Rattle.vesgrauf.proofs.IdLemmas.{goes_taken}
use Rattle.vesgrauf.proofs.connection.Connection.take_critical.Goals as goal

pub returns-clause-goes : goal.returns-clause-goes
returns-clause-goes c = rw c.take.ensures (goes_taken c.args.self.now.streams.entries c.args.self.now.ids
    c.args.self.now.events.items kind.Unidirectional)
