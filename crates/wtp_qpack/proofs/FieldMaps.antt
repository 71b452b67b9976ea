-- Header maps: what putting fields into them gives.
use Rattle.std.proofs.Common.{◌≡◌, ℕ, Bool, true, false, cond, List, [], ◌∷◌, map, refl, sym, ◌∙◌, ap, Option, Some, None}
use Rattle.std.proofs.lemmas.Cmp.{nat_list_cmp_total, tied_itself}
use Rattle.std.proofs.lemmas.Map.Lookups.{exact_bytes}
use Rattle.std.specs.List.{fold, AllByRecursion}
use Rattle.std.specs.List.Sorted.{IsStrictlySortedBy}
use Rattle.std.specs.Str.{bytes_eq}
use Rattle.std.specs.Cmp.Lexicographic.{slice_cmp}
use Rattle.std.specs.Ordering.{nat_cmp, ordering_reverse}
use Rattle.std.specs.declared.cmp.Ordering.{Ordering}
use Rattle.std.specs.declared.cmp.Ordering.TheVariants.{Less, Equal, Greater}
use Rattle.wtp_qpack.specs.Field.{Field, IsMap, put, field_map, field_value, or_else, last_value}
use Rattle.wtp_qpack.proofs.StaticLemmas.{same_bytes}

-- ---- the order of a map

-- the name is below those of the fields
abbrev pub Below : List ℕ → List Field → Type 0
Below name [] = Unit {0}
Below name (e ∷ es) = (slice_cmp nat_cmp name e.0 ≡ Less) × Below name es

-- each name is below those after it
abbrev pub Ascends : List Field → Type 0
Ascends [] = Unit {0}
Ascends (e ∷ es) = Below e.0 es × Ascends es

below_from : (name : List ℕ) (es : List Field) → AllByRecursion (λ y. slice_cmp nat_cmp name y ≡ Less) (map (λ (e : Field). e.0) es) → Below name es
below_from name [] h = tt
below_from name (e ∷ es) h = (h.0, below_from name es h.1)

below_to : (name : List ℕ) (es : List Field) → Below name es → AllByRecursion (λ y. slice_cmp nat_cmp name y ≡ Less) (map (λ (e : Field). e.0) es)
below_to name [] h = tt
below_to name (e ∷ es) h = (h.0, below_to name es h.1)

pub ascends_from : (es : List Field) → IsMap es → Ascends es
unfolding IsStrictlySortedBy
ascends_from [] h = tt
ascends_from (e ∷ es) h = (below_from e.0 es h.0, ascends_from es h.1)

pub ascends_to : (es : List Field) → Ascends es → IsMap es
unfolding IsStrictlySortedBy
ascends_to [] h = tt
ascends_to (e ∷ es) h = (below_to e.0 es h.0, ascends_to es h.1)

-- the comparison the other way round
pub reversed : (a b : List ℕ) (o : Ordering) → slice_cmp nat_cmp a b ≡ o → slice_cmp nat_cmp b a ≡ ordering_reverse o
reversed a b o e = nat_list_cmp_total.antisymm b a ∙ ap ordering_reverse e

below_all : (a b : List ℕ) (es : List Field) → slice_cmp nat_cmp a b ≡ Less → Below b es → Below a es
below_all a b [] less h = tt
below_all a b (e ∷ es) less h = (nat_list_cmp_total.trans a b e.0 less h.0, below_all a b es less h.1)

below_put : (name : List ℕ) (x : Field) (es : List Field) → slice_cmp nat_cmp name x.0 ≡ Less → Below name es → Below name (put es x)
below_put name x [] less h = (less, tt)
below_put name x (e ∷ es) less h = by_cases (slice_cmp nat_cmp x.0 e.0) refl (below_put name x es less h.1)
  where
    by_cases : (o : Ordering) → slice_cmp nat_cmp x.0 e.0 ≡ o → Below name (put es x) → Below name (put (e ∷ es) x)
    by_cases Less o later = rw o (less, h)
    by_cases Equal o later = rw o h
    by_cases Greater o later = rw o (h.0, later)

pub ascends_put : (x : Field) (es : List Field) → Ascends es → Ascends (put es x)
ascends_put x [] h = (tt, tt)
ascends_put x (e ∷ es) h = by_cases (slice_cmp nat_cmp x.0 e.0) refl (ascends_put x es h.1)
  where
    by_cases : (o : Ordering) → slice_cmp nat_cmp x.0 e.0 ≡ o → Ascends (put es x) → Ascends (put (e ∷ es) x)
    by_cases Less o later = rw o ((o, below_all x.0 e.0 es o h.0), h)
    by_cases Equal o later = rw o h
    by_cases Greater o later = rw o (below_put e.0 x es (reversed x.0 e.0 Greater o) h.0, later)

ascends_fold : (lines es : List Field) → Ascends es → Ascends (fold put es lines)
ascends_fold [] es h = h
ascends_fold (x ∷ lines) es h = ascends_fold lines (put es x) (ascends_put x es h)

pub map_ordered : (lines : List Field) → IsMap (field_map lines)
unfolding field_map
map_ordered lines = ascends_to (fold put [] lines) (ascends_fold lines [] tt)

-- ---- the values of a map

pub value_put : (name : List ℕ) (x : Field) (es : List Field) → field_value name (put es x) ≡ cond (bytes_eq x.0 name) (Some x.1) (field_value name es)
value_put name x [] = refl
value_put name x (e ∷ es) = by_cases (slice_cmp nat_cmp x.0 e.0) refl (value_put name x es)
  where
    twice : {X : Type 0} (b : Bool) (p q r : X) → cond b p r ≡ cond b p (cond b q r)
    twice true p q r = refl
    twice false p q r = refl

    -- of two names that differ at most one is the name
    apart : (b c : Bool) → bytes_eq e.0 name ≡ b → bytes_eq x.0 name ≡ c → slice_cmp nat_cmp x.0 e.0 ≡ Greater
        → cond b (Some e.1) (cond c (Some x.1) (field_value name es)) ≡ cond c (Some x.1) (cond b (Some e.1) (field_value name es))
    apart true true p q o =
        let same : x.0 ≡ e.0 = same_bytes x.0 name q ∙ sym (same_bytes e.0 name p) in
        cc (o, ap (λ z. slice_cmp nat_cmp z e.0) same, tied_itself nat_list_cmp_total e.0)
    apart true false p q o = refl
    apart false true p q o = refl
    apart false false p q o = refl

    by_cases : (o : Ordering) → slice_cmp nat_cmp x.0 e.0 ≡ o → field_value name (put es x) ≡ cond (bytes_eq x.0 name) (Some x.1) (field_value name es)
        → field_value name (put (e ∷ es) x) ≡ cond (bytes_eq x.0 name) (Some x.1) (field_value name (e ∷ es))
    by_cases Less o later = rw o refl
    by_cases Equal o later =
        let same : x.0 ≡ e.0 = exact_bytes x.0 e.0 o in
        rw (o, same) (twice (bytes_eq e.0 name) (Some x.1) (Some e.1) (field_value name es))
    by_cases Greater o later = rw (o, later) (apart (bytes_eq e.0 name) (bytes_eq x.0 name) refl refl o)

value_fold : (name : List ℕ) (lines es : List Field) → field_value name (fold put es lines) ≡ or_else (last_value name lines) (field_value name es)
value_fold name [] es = refl
value_fold name (x ∷ lines) es =
    value_fold name lines (put es x) ∙ ap (or_else (last_value name lines)) (value_put name x es) ∙ joined (last_value name lines) (bytes_eq x.0 name)
  where
    joined : (o : Option (List ℕ)) (b : Bool) → or_else o (cond b (Some x.1) (field_value name es)) ≡ or_else (or_else o (cond b (Some x.1) None)) (field_value name es)
    joined (Some v) b = refl
    joined None true = refl
    joined None false = refl

pub map_last : (lines : List Field) (name : List ℕ) → field_value name (field_map lines) ≡ last_value name lines
unfolding field_map
map_last lines name = value_fold name lines [] ∙ nothing (last_value name lines)
  where
    nothing : (o : Option (List ℕ)) → or_else o None ≡ o
    nothing (Some v) = refl
    nothing None = refl

-- ---- the map of a map

pub put_first : (x : Field) (es : List Field) → Below x.0 es → put es x ≡ x ∷ es
put_first x [] h = refl
put_first x (e ∷ es) h = rw h.0 refl

pub put_after : (x y : Field) (es : List Field) → slice_cmp nat_cmp x.0 y.0 ≡ Less → put (x ∷ es) y ≡ x ∷ put es y
put_after x y es h = rw (reversed x.0 y.0 Less h) refl

pub fold_after : (x : Field) (es ys : List Field) → Below x.0 ys → fold put (x ∷ es) ys ≡ x ∷ fold put es ys
fold_after x es [] h = refl
fold_after x es (y ∷ ys) h = ap (λ z. fold put z ys) (put_after x y es h.0) ∙ fold_after x (put es y) ys h.1

pub built : (m : List Field) → Ascends m → fold put [] m ≡ m
built [] h = refl
built (x ∷ m) h = fold_after x [] m h.0 ∙ ap (λ z. x ∷ z) (built m h.1)

pub map_kept : (m : List Field) → IsMap m → field_map m ≡ m
unfolding field_map
map_kept m h = built m (ascends_from m h)
