use Rattle.std.proofs.Common.{◌∙◌}
use Rattle.wtp_qpack.proofs.StaticLemmas.{named_not_at}
use Rattle.wtp_dynamic_encoder.proofs.lookup.find_named.Goals as goal

pub returns-in-None : goal.returns-in-None
returns-in-None c = λ index found. named_not_at c.args.name.now c.args.value.now index (c.requires ∙ c.in-None.is) found
