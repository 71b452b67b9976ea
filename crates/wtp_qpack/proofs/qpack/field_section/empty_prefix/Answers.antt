use Rattle.std.proofs.Common.{◌∙◌, ap, [], ◌∷◌, ◌++◌}
use Rattle.wtp_qpack.proofs.qpack.field_section.empty_prefix.Goals as goal

pub returns : goal.returns
returns c = c.in_ok-extend_from_slice.ensures.items ∙ ap (λ z. z ++ 0 ∷ 0 ∷ []) c.in_ok-out.ensures.items
