use Rattle.wtp_dynamic_encoder.proofs.Acknowledged.{increment_steps}
use Rattle.wtp_dynamic_encoder.proofs.decoder_stream.apply.Goals as goal

pub returns-in-Increment : goal.returns-in-Increment
returns-in-Increment c =
    rw c.in-Increment.is (increment_steps c.in-Increment.count c.args.inserted c.args.ledger.now c.increment.new.self c.increment.result c.increment.ensures)
