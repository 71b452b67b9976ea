use Rattle.std.proofs.Common.{rules}
use Rattle.wt_c.proofs.sending.control.wt_control_goaway.Goals as goal

pub returns-in-Ok-put_goaway-clause-room : goal.returns-in-Ok-put_goaway-clause-room
returns-in-Ok-put_goaway-clause-room c e = (record { c = c.in-Some.state; d = c.put_goaway.new.state; state_is = c.in-Some.ensures; steps = search rules }, search rules)
