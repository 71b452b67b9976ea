use Rattle.std.proofs.Common.{drop}
use Rattle.wt_c.specs.Sessions.{AreMessageFields}
use Rattle.wt_c.proofs.TextLemmas.{AreLeft}
use Rattle.wt_c.proofs.sessions.are_message_fields.Given as goal

abbrev pub invariant-loop-field : goal.invariant-loop-field
invariant-loop-field l = AreLeft (AreMessageFields l.texts) (drop l.field-index l.fields) l.fields
