use Rattle.std.proofs.Common.{drop}
use Rattle.wt_c.proofs.SessionLemmas.{IsAppending}
use Rattle.wt_c.proofs.sessions.push_fields.Given as goal

abbrev pub invariant-loop-field : goal.invariant-loop-field
invariant-loop-field l = IsAppending l.texts l.list l.fn.list (drop l.field-index l.fields) l.fields
