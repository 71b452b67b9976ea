use Rattle.wtp_connection.proofs.AheadLemmas.{if_ahead}
use Rattle.wtp_connection.proofs.connection.Connection.data_ahead.Goals as goal

pub returns-in-Frames : goal.returns-in-Frames
returns-in-Frames c = rw c.in-Frames.is (if_ahead c.data_ahead.result c.args.self.now c.in-Frames.reader c.in-Frames.field-1 c.args.bytes.now c.if-self.false c.data_ahead.ensures)
