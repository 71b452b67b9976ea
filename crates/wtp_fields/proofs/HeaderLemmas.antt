-- Header maps: the contents of a map, and the values of its names.
use Rattle.std.proofs.Common.{◌≡◌, ℕ, Bool, true, false, cond, List, [], ◌∷◌, ◌++◌, map, string_bytes, String, Global, refl, ◌∙◌, ap, arith, Option, Some, option_map}
use Rattle.std.proofs.lemmas.Cmp.{nat_list_cmp_total}
use Rattle.std.proofs.lemmas.List.{map-append}
use Rattle.std.proofs.lemmas.Map.Text.{is_eq-slice_cmp}
use Rattle.std.proofs.lemmas.Str.{IsUtf8-string_bytes}
use Rattle.std.specs.Borrow.{Bor}
use Rattle.std.specs.BTreeMap.{is_at}
use Rattle.std.specs.Cmp.Lexicographic.{slice_cmp}
use Rattle.std.specs.List.{AllByRecursion, AllZip}
use Rattle.std.specs.List.Sorted.{IsStrictlySortedBy}
use Rattle.std.specs.Map.{lookup}
use Rattle.std.specs.Ordering.{nat_cmp, is_eq, ordering_reverse}
use Rattle.std.specs.Str.{bytes_eq}
use Rattle.std.specs.String.{string_cmp}
use Rattle.std.specs.declared.cmp.Ordering.{Ordering}
use Rattle.std.specs.declared.cmp.Ordering.TheVariants.{Less, Equal, Greater}
use Rattle.wtp_qpack.specs.Field.{Field, IsText, AreTexts, IsMap, field_of, fields_of_texts, put, field_map, field_value}
use Rattle.wtp_qpack.proofs.SectionReading.{map_push}

-- ---- the value of a name

eq_reversed : (o : Ordering) → is_eq (ordering_reverse o) ≡ is_eq o
eq_reversed Less = refl
eq_reversed Equal = refl
eq_reversed Greater = refl

pub eq_turned : (xs ys : List ℕ) → is_eq (slice_cmp nat_cmp xs ys) ≡ bytes_eq ys xs
eq_turned xs ys = ap is_eq (nat_list_cmp_total.antisymm xs ys) ∙ eq_reversed (slice_cmp nat_cmp ys xs) ∙ is_eq-slice_cmp ys xs

chosen : {X Y : Type 0} (f : X → Y) (b : Bool) (x : X) (r : Option X) → option_map f (cond b (Some x) r) ≡ cond b (Some (f x)) (option_map f r)
chosen f true x r = refl
chosen f false x r = refl

-- looking up a name in the entries finds the value of the name
pub value_found : (name : List ℕ) (es : List (String Global × String Global))
    → option_map string_bytes (lookup (is_at (λ k. slice_cmp nat_cmp name (string_bytes k))) es) ≡ field_value name (map field_of es)
value_found name [] = refl
value_found name (e ∷ es) =
    chosen string_bytes (is_at (λ k. slice_cmp nat_cmp name (string_bytes k)) e.0) e.1 (lookup (is_at (λ k. slice_cmp nat_cmp name (string_bytes k))) es)
    ∙ rw (eq_turned name (string_bytes e.0), value_found name es) refl

-- ---- facts about every map

below : (k : String Global) (es : List (String Global × String Global)) → AllByRecursion (λ y. string_cmp k y ≡ Less) (map (λ (e : String Global × String Global). e.0) es)
    → AllByRecursion (λ y. slice_cmp nat_cmp (string_bytes k) y ≡ Less) (map (λ (field : Field). field.0) (map field_of es))
below k [] h = tt
below k (e ∷ es) h = (h.0, below k es h.1)

pub held_ordered : (es : List (String Global × String Global)) → IsStrictlySortedBy string_cmp (map (λ (e : String Global × String Global). e.0) es) → IsMap (map field_of es)
unfolding IsStrictlySortedBy
held_ordered [] h = h
held_ordered (e ∷ es) h = (below e.0 es h.0, held_ordered es h.1)

is_text : (s : String Global) → IsText (string_bytes s)
is_text s = record { utf8 = IsUtf8-string_bytes s; few = omega (arith, s.bytes.small, s.bytes.ok) }

pub held_texts : (es : List (String Global × String Global)) → AreTexts (map field_of es)
held_texts [] = tt
held_texts (e ∷ es) = (is_text e.0, is_text e.1, held_texts es)

-- ---- one more pair

pub lent_push : (ps : List (Bor (List ℕ) × Bor (List ℕ))) (p : Bor (List ℕ) × Bor (List ℕ)) → field_map (fields_of_texts (ps ++ p ∷ [])) ≡ put (field_map (fields_of_texts ps)) (p.0.now, p.1.now)
lent_push ps p = ap field_map (map-append (λ (e : Bor (List ℕ) × Bor (List ℕ)). (e.0.now, e.1.now)) ps (p ∷ [])) ∙ map_push (fields_of_texts ps) (p.0.now, p.1.now)

-- a clone of a map has the same fields
pub held_clone : (xs ys : List (String Global × String Global))
    → AllZip (λ p q. (string_bytes q.0 ≡ string_bytes p.0) × (string_bytes q.1 ≡ string_bytes p.1)) xs ys → map field_of ys ≡ map field_of xs
held_clone [] [] all = refl
held_clone [] (y ∷ ys) all = absurd all
held_clone (x ∷ xs) [] all = absurd all
held_clone (x ∷ xs) (y ∷ ys) all = rw (all.0.0, all.0.1, held_clone xs ys all.1) refl
