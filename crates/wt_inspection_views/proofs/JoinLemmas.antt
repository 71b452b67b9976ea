-- Texts of lines one after the other, and lines of JSON.
use Rattle.std.proofs.Common.{◌≡◌, ℕ, ◌+◌, nat_eq, cond, List, [], ◌∷◌, ◌++◌, length-append, ap₂, ◌∙◌, sym}
use Rattle.std.proofs.lemmas.Grind.{flat_map-append}
use Rattle.std.proofs.lemmas.List.Sums.{sum_by-append}
use Rattle.json.specs.Token.{Token}
use Rattle.wt_inspection_views.specs.Escaped.{AreLines, ArePlain, line_count, marked_line}
use Rattle.wt_inspection_views.specs.JsonLines.{AreJsonLines, AreObjects, json_line}

ArePlain-join : (a b : List (List ℕ)) → ArePlain a → ArePlain b → ArePlain (a ++ b)
ArePlain-join [] b p q = q
ArePlain-join (l ∷ a) b p q = (p.0, ArePlain-join a b p.1 q)

pub AreLines-join : (a b : List ℕ) → AreLines a → AreLines b → AreLines (a ++ b)
AreLines-join a b p q =
    (p.0 ++ q.0, ap₂ (λ (x y : List ℕ). x ++ y) p.1 q.1 ∙ sym (flat_map-append marked_line p.0 q.0), ArePlain-join p.0 q.0 p.2 q.2)

pub line_count-join : (a b : List ℕ) → line_count (a ++ b) ≡ line_count a + line_count b
line_count-join a b = sum_by-append (λ (c : ℕ). cond (nat_eq c 10) 1 0) a b

AreObjects-join : (a b : List (List Token)) → AreObjects a → AreObjects b → AreObjects (a ++ b)
AreObjects-join [] b p q = q
AreObjects-join (l ∷ a) b p q = (p.0, AreObjects-join a b p.1 q)

pub AreJsonLines-join : (m n : ℕ) (a b : List ℕ) → AreJsonLines m a → AreJsonLines n b → AreJsonLines (m + n) (a ++ b)
AreJsonLines-join m n a b p q =
    (p.0 ++ q.0, length-append p.0 q.0 ∙ ap₂ (λ (x y : ℕ). x + y) p.1 q.1, ap₂ (λ (x y : List ℕ). x ++ y) p.2 q.2 ∙ sym (flat_map-append json_line p.0 q.0), AreObjects-join p.0 q.0 p.3 q.3)
