use Rattle.std.proofs.Common.{rules, true}
use Rattle.wt_c.proofs.sending.control.wt_control_settings.Goals as goal

pub returns-in-Ok-first_bytes-clause-sent : goal.returns-in-Ok-first_bytes-clause-sent
returns-in-Ok-first_bytes-clause-sent c e = (record { c = c.in-Some.state; d = record c.in-Some.state { settled = true }; old_is = c.in-Some.ensures; steps = search rules; new_is = search rules }, search rules)

pub returns-in-Ok-first_bytes-clause-room : goal.returns-in-Ok-first_bytes-clause-room
returns-in-Ok-first_bytes-clause-room c e = (record { c = c.in-Some.state; d = record c.in-Some.state { settled = true }; state_is = c.in-Some.ensures; steps = search rules }, search rules)
