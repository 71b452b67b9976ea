use Rattle.std.proofs.Common.{drop}
use Rattle.wt_c.specs.Fields.{AreWithin}
use Rattle.wt_c.proofs.TextLemmas.{AreLeft}
use Rattle.wt_c.proofs.texts.are_within.Given as goal

abbrev pub invariant-loop-field : goal.invariant-loop-field
invariant-loop-field l = AreLeft (AreWithin l.size) (drop l.field-index l.fields) l.fields
