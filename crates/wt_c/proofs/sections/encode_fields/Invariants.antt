use Rattle.std.proofs.Common.{drop}
use Rattle.wt_c.proofs.SendingLemmas.{IsEncoding}
use Rattle.wt_c.proofs.sections.encode_fields.Given as goal

abbrev pub invariant-loop-field : goal.invariant-loop-field
invariant-loop-field l = IsEncoding l.texts l.out.items (drop l.field-index l.fields) l.fields
