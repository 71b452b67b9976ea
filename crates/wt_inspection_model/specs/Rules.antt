-- Which rules are hints: bytes that break none may be of another kind than the one that was named.
use Rattle.std.specs.Prelude.{Bool, true, false}
use Rattle.wt_inspection_model.specs.declared.item.rule.Rule.{Rule}
use Rattle.wt_inspection_model.specs.declared.item.rule.Rule.TheVariants as rule-is

-- the rule is a hint
abbrev pub is_hint : Rule → Bool
is_hint rule-is.LikeControlStream = true
is_hint rule-is.LikeMessage = true
is_hint rule-is.LikeResponse = true
is_hint rule-is.LikeRequest = true
is_hint rule-is.LikeCapsules = true
is_hint other = false
