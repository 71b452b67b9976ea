use Rattle.vesgrauf.specs.Instructions.{table_of}
use Rattle.vesgrauf.specs.State.{is_over}
use Rattle.vesgrauf.proofs.ActSteps.{act_goes}
use Rattle.vesgrauf.proofs.IdLemmas.{goes_blocked}
use Rattle.vesgrauf.proofs.connection.Connection.set_blocked.Goals as goal

pub returns-in-Kind-clause-works : goal.returns-in-Kind-clause-works
returns-in-Kind-clause-works c = rw c.block.ensures
    (act_goes c.args.self.now.streams.entries c.args.self.now.ids _ (table_of c.args.self.now) (is_over c.args.self.now) c.args.self.now.events.items c.args.self.now.events.items
    (goes_blocked c.args.self.now.streams.entries c.args.self.now.ids c.args.self.now.events.items c.in-Kind.kind c.args.blocked))
