use Rattle.wtp_webtransport.specs.Events.{told_of}
use Rattle.wtp_webtransport.proofs.TableLemmas.{over_read}
use Rattle.wtp_webtransport.proofs.connection.Connection.take_read.Goals as goal

pub returns : goal.returns
returns c =
    over_read c.args.list c.args.required c.args.self.now c.take-received.new.self c.note_read.new.self c.args.stream.now c.take-received.new.stream c.args.message c.args.span c.take-received.result.consumed (told_of c.take-received.result.event) c.take-received.ensures c.note_read.ensures
