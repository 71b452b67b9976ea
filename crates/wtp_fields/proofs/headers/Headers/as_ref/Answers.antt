use Rattle.std.proofs.Common.{subst}
use Rattle.wtp_qpack.specs.Field.{IsMap, AreTexts}
use Rattle.wtp_fields.proofs.HeaderLemmas.{held_ordered, held_texts}
use Rattle.wtp_fields.proofs.headers.Headers.as_ref.Goals as goal

pub returns-clause-ordered : goal.returns-clause-ordered
returns-clause-ordered c = subst IsMap c.self.view_is (held_ordered c.self.inside.fields.entries c.len-len.ensures.ordered)

pub returns-clause-texts : goal.returns-clause-texts
returns-clause-texts c = subst AreTexts c.self.view_is (held_texts c.self.inside.fields.entries)
