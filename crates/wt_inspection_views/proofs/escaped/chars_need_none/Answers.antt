use Rattle.std.proofs.Common.{rules, tests, ◌≡◌, Bool, true, false, not, IsTrue, refl, sym, ap, subst, ◌∙◌}
use Rattle.wt_inspection_views.specs.Characters.{needs_escape}
use Rattle.std.specs.Str.{NonePass, chars}
use Rattle.std.proofs.lemmas.Iterator.{YieldsList-from_chars}
use Rattle.std.proofs.lemmas.Iterator.Search.{any_from_yields_List}
use Rattle.std.proofs.lemmas.Str.{encodes-chars, encodes_same}
use Rattle.wt_inspection_views.proofs.CleanLemmas.{any_from_none, none_from_any}
use Rattle.wt_inspection_views.proofs.escaped.chars_need_none.Goals as goal

false_from_not : (b : Bool) → IsTrue (not b) → b ≡ false
false_from_not false t = refl
false_from_not true t = sym t

true_not : (b : Bool) → b ≡ false → IsTrue (not b)
true_not b e = ap not e

pub returns-clause-none : goal.returns-clause-none
returns-clause-none c t =
    let any = any_from_yields_List needs_escape _ _ c.any.result c.any.ensures.ran (YieldsList-from_chars c.args.text.now c.utf8.text (search rules)) (λ x b q k. search (rules, tests)) in
    (chars c.args.text.now, encodes-chars c.args.text.now c.utf8.text, none_from_any needs_escape (chars c.args.text.now) (sym any ∙ false_from_not c.any.result t))

pub returns-clause-some : goal.returns-clause-some
returns-clause-some c n =
    let any = any_from_yields_List needs_escape _ _ c.any.result c.any.ensures.ran (YieldsList-from_chars c.args.text.now c.utf8.text (search rules)) (λ x b q k. search (rules, tests)) in
    let same = encodes_same n.0 (chars c.args.text.now) (n.1 ∙ sym (encodes-chars c.args.text.now c.utf8.text)) in
    true_not c.any.result (any ∙ any_from_none needs_escape (chars c.args.text.now) (subst (NonePass needs_escape) same n.2))
