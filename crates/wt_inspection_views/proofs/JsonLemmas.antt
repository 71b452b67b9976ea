-- Concatenation of JSON lines.
use Rattle.std.proofs.Common.{arith, ◌≡◌, ℕ, ◌+◌, IsTrue, List, [], ◌∷◌, ◌++◌, length-append, OnOk, Result, Ok, Err, sym, subst}
use Rattle.std.proofs.lemmas.List.{flat_map_more}
use Rattle.json.specs.Token.{Token}
use Rattle.wt_inspection_views.specs.JsonLines.{AreJsonLines, IsJsonLine, IsObject, AreObjects, ReadsBack, json_line}
use Rattle.wt_inspection_views.specs.Objects.{AddsLines, HasLines}
use Rattle.wt_inspection_views.specs.declared.json_lines.object.Lines.{Lines}

AreObjects-push : (lines : List (List Token)) (ts : List Token) → AreObjects lines → ReadsBack ts × IsObject ts → AreObjects (lines ++ ts ∷ [])
AreObjects-push [] ts a r = (r, tt)
AreObjects-push (l ∷ ls) ts a r = (a.0, AreObjects-push ls ts a.1 r)

AreJsonLines-append : (n : ℕ) (old line : List ℕ) → AreJsonLines n old → IsJsonLine line → AreJsonLines (n + 1) (old ++ line)
AreJsonLines-append n old line o l =
    (o.0 ++ l.0 ∷ [], omega (arith, o.1, length-append o.0 (l.0 ∷ [])), rw (o.2, l.1) (flat_map_more json_line [] o.0 l.0), AreObjects-push o.0 l.0 o.3 (l.2, l.3))

pub HasLines-added : (n : ℕ) (old new : Lines) (line : List ℕ) → HasLines n old → IsJsonLine line → (IsTrue new.is_whole → IsTrue old.is_whole) → new.text.items ≡ old.text.items ++ line → HasLines (n + 1) new
unfolding HasLines
HasLines-added n old new line o l w e = λ whole. subst (AreJsonLines (n + 1)) (sym e) (AreJsonLines-append n old.text.items line (o (w whole)) l)

-- a line that was appended, unless allocation failed
pub AddsLines-added : {A E : Type 0} (r : Result A E) (old new : Lines) → (IsTrue new.is_whole → IsTrue old.is_whole) → OnOk r ((line : List ℕ) × IsJsonLine line × (new.text.items ≡ old.text.items ++ line)) → OnOk r (AddsLines 1 old new)
AddsLines-added (Ok a) old new w (line, is, e) = λ k has. HasLines-added k old new line has is w e
AddsLines-added (Err x) old new w added = tt

-- the same number in another form
pub HasLines-same : (m n : ℕ) (lines : Lines) → m ≡ n → HasLines m lines → HasLines n lines
HasLines-same m n lines e h = subst (λ k. HasLines k lines) e h
