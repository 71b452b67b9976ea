use Rattle.std.proofs.Common.{drop}
use Rattle.wt_c.specs.Texts.{AreTextFields}
use Rattle.wt_c.proofs.TextLemmas.{AreLeft}
use Rattle.wt_c.proofs.texts.each_is_utf8.Given as goal

abbrev pub invariant-loop-field : goal.invariant-loop-field
invariant-loop-field l = AreLeft (AreTextFields l.texts) (drop l.field-index l.fields) l.fields
