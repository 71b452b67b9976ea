use Rattle.std.proofs.Common.{◌∙◌}
use Rattle.vesgrauf.proofs.KeepsOwnLemmas.{holds_then, holds_config}
use Rattle.vesgrauf.proofs.BoundLemmas.{bound_only, on_ok}
use Rattle.vesgrauf.proofs.connection.Connection.keep.Goals as goal

pub returns-clause-keeps : goal.returns-clause-keeps
returns-clause-keeps c = holds_then c.keep_input.ensures.keeps c.check_kept.ensures.keeps

pub returns-clause-bounded : goal.returns-clause-bounded
returns-clause-bounded c = on_ok c.check_kept.result
    (λ f. bound_only c.args.id c.keep_input.ensures.only c.check_kept.ensures.left
    (rw (holds_config c.keep_input.ensures.keeps) at f)
    (holds_config c.check_kept.ensures.keeps ∙ holds_config c.keep_input.ensures.keeps)) c.check_kept.ensures.fits
