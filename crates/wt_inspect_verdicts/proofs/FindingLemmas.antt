-- What was found: nothing comes after an error of the connection.
use Rattle.std.proofs.Common.{◌≡◌, ◌-◌, Bool, false, List, [], ◌∷◌, ◌++◌, length, take, sym, ap, ◌∙◌, arith}
use Rattle.std.specs.List.{list_any}
use Rattle.std.proofs.lemmas.Grind.{common_steps}
use Rattle.std.proofs.lemmas.List.Folds.{list_any-append}
use Rattle.wt_inspect_verdicts.specs.Findings.{AreFound, is_end}
use Rattle.wt_inspect_verdicts.specs.declared.verdict.Verdict.{Verdict}

-- all but the last of a list with one more at the end
pub take_first : (verdicts : List Verdict) (v : Verdict) → take (length (verdicts ++ v ∷ []) - 1) (verdicts ++ v ∷ []) ≡ verdicts
take_first verdicts v = grind (arith, common_steps)

pub any_more : (verdicts : List Verdict) (v : Verdict) → list_any is_end verdicts ≡ false → list_any is_end (verdicts ++ v ∷ []) ≡ is_end v
any_more verdicts v none = grind (arith, none, list_any-append is_end verdicts (v ∷ []))

pub found_more : (verdicts : List Verdict) (v : Verdict) (old over : Bool) → AreFound old verdicts → old ≡ false → over ≡ is_end v → AreFound over (verdicts ++ v ∷ [])
found_more verdicts v old over are was e =
    let none : list_any is_end verdicts ≡ false = sym are.over_is ∙ was in
    record {
      once = ap (list_any is_end) (take_first verdicts v) ∙ none;
      over_is = e ∙ sym (any_more verdicts v none);
    }
