use Rattle.std.proofs.Common.{rules}
use Rattle.wt_c.proofs.sending.session.wt_sending_close.Goals as goal

pub returns-in-Ok-close_bytes-clause-room : goal.returns-in-Ok-close_bytes-clause-room
returns-in-Ok-close_bytes-clause-room c e = (record { s = c.in-Some.state; t = c.close_bytes.new.state; state_is = c.in-Some.ensures; steps = search rules }, search rules)
