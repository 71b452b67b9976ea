use Rattle.std.proofs.Common.{refl}
use Rattle.wt_c.proofs.TextLemmas.{texts_by_places}
use Rattle.wt_c.proofs.texts.are_texts.Goals as goal

pub returns-then-is_short_ascii : goal.returns-then-is_short_ascii
returns-then-is_short_ascii c = texts_by_places c.are_within.result c.args.texts.now c.args.fields.now (c.if-is_short_ascii.ensures refl) c.are_within.ensures
