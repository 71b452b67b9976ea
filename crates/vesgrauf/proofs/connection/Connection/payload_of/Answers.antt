use Rattle.vesgrauf.proofs.TableSteps.{keeps_datagram}
use Rattle.vesgrauf.proofs.connection.Connection.payload_of.Goals as goal

pub returns : goal.returns
returns c = record {
  keeps = keeps_datagram _ _ c.args.self.now.shared c.datagram.new.self _ _ _ _ _ c.datagram.ensures.connection;
}
