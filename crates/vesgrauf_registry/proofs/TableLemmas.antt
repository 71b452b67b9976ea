-- Rows and their numbers.
use Rattle.std.proofs.Common.{◌≡◌, ℕ, Bool, true, false, eqb, List, [], ◌∷◌, map, Option, Some, None, option_map, refl, sym, ap, subst, ◌∙◌, inl, inr}
use Rattle.std.specs.Prelude.{◌&&◌, not}
use Rattle.std.proofs.lemmas.Bool.{eqb-true}
use Rattle.vesgrauf_registry.specs.Table.{Entry, among, row_among, shown_by, AtEach, IsOther, all_entries, IsEntry}
use Rattle.vesgrauf_registry.specs.declared.row.Row as declared

-- the entry of a number is its row
pub shown_among : {C D : Type 0} (columns : C → D) (n : ℕ) (rows : List (declared.Row C)) → option_map (λ r. shown_by columns r) (row_among n rows) ≡ among n (map (λ r. shown_by columns r) rows)
unfolding row_among
shown_among columns n [] = refl
shown_among columns n (r ∷ rows) = by_test (eqb n r.number) refl (shown_among columns n rows)
  where
    by_test : (b : Bool) → eqb n r.number ≡ b → option_map (λ r. shown_by columns r) (row_among n rows) ≡ among n (map (λ r. shown_by columns r) rows) → option_map (λ r. shown_by columns r) (row_among n (r ∷ rows)) ≡ among n (map (λ r. shown_by columns r) (r ∷ rows))
    by_test true e h = rw e refl
    by_test false e h = rw e h

-- the entry of a number is the row that was found
pub found_among : {C D T : Type 0} (columns : C → D) (now : T → declared.Row C) (n : ℕ) (rows : List (declared.Row C)) (found : Option T) → option_map now found ≡ row_among n rows → option_map (λ r. shown_by columns (now r)) found ≡ among n (map (λ r. shown_by columns r) rows)
found_among columns now n rows None h = ap (λ x. option_map (λ r. shown_by columns r) x) h ∙ shown_among columns n rows
found_among columns now n rows (Some r) h = ap (λ x. option_map (λ r. shown_by columns r) x) h ∙ shown_among columns n rows

-- what holds at each entry's number, and of each other number, holds of each number
pub by_entries : {C : Type 0} (P : ℕ → Type 0) (es : List (Entry C)) (n : ℕ) → AtEach P es → (IsOther n es → P n) → P n
by_entries P [] n each others = others tt
by_entries P (e ∷ rest) n each others = by_test (eqb n e.number) refl (λ d. by_entries P rest n each.1 (λ h. others (d, h)))
  where
    by_test : (b : Bool) → eqb n e.number ≡ b → (eqb n e.number ≡ false → P n) → P n
    by_test true t further = subst P (sym (eqb-true n e.number t)) each.0
    by_test false t further = further t

-- no entry is found of another number
pub among-other : {C : Type 0} (es : List (Entry C)) (n : ℕ) → IsOther n es → among n es ≡ None
among-other [] n h = refl
among-other (e ∷ rest) n h = rw h.0 (among-other rest n h.1)

-- ---- laws of every table, by one induction each

both_true : (a b : Bool) → (a && b) ≡ true → (a ≡ true) × (b ≡ true)
both_true true b e = (refl, e)
both_true false b e = absurd (cc)

-- what is found has the number, and is an entry
pub among-is : {C : Type 0} (es : List (Entry C)) (n : ℕ) (e : Entry C) → among n es ≡ Some e → (n ≡ e.number) × IsEntry e es
among-is [] n e h = absurd (cc)
among-is {C = C} (first ∷ rest) n e h = by_test (eqb n first.number) refl (among-is rest n e)
  where
    by_test : (b : Bool) → eqb n first.number ≡ b → (among n rest ≡ Some e → (n ≡ e.number) × IsEntry e rest) → (n ≡ e.number) × IsEntry e (first ∷ rest)
    by_test true t further = let same : first ≡ e = cc (rw t at h) in (eqb-true n first.number t ∙ ap (λ (x : Entry C). x.number) same, inl (sym same))
    by_test false t further = let (one, two) = further (rw t at h) in (one, inr two)

-- what a test says of all entries it says of what is found
pub among-all : {C : Type 0} (test : Entry C → Bool) (es : List (Entry C)) (n : ℕ) (e : Entry C) → all_entries test es ≡ true → among n es ≡ Some e → test e ≡ true
among-all test [] n e all h = absurd (cc)
among-all {C = C} test (first ∷ rest) n e all h = let (here, there) = both_true (test first) (all_entries test rest) all in by_test (eqb n first.number) refl here (among-all test rest n e there)
  where
    by_test : (b : Bool) → eqb n first.number ≡ b → test first ≡ true → (among n rest ≡ Some e → test e ≡ true) → test e ≡ true
    by_test true t here further = let same : first ≡ e = cc (rw t at h) in subst (λ (x : Entry C). test x ≡ true) same here
    by_test false t here further = further (rw t at h)

-- a number of which a test holds is not found among entries of which it does not hold
pub among-misses : {C : Type 0} (test : ℕ → Bool) (es : List (Entry C)) (n : ℕ) → all_entries (λ e. not (test e.number)) es ≡ true → test n ≡ true → among n es ≡ None
among-misses test [] n all t = refl
among-misses {C = C} test (first ∷ rest) n all t = let (here, there) = both_true (not (test first.number)) (all_entries (λ e. not (test e.number)) rest) all in by_test (eqb n first.number) refl here (among-misses test rest n there t)
  where
    by_test : (b : Bool) → eqb n first.number ≡ b → not (test first.number) ≡ true → among n rest ≡ None → among n (first ∷ rest) ≡ None
    by_test true e here further = absurd (both (test n) t (subst (λ (m : ℕ). not (test m) ≡ true) (sym (eqb-true n first.number e)) here))
      where
        both : (b : Bool) → b ≡ true → not b ≡ true → ⊥
        both true s h = cc
        both false s h = cc
    by_test false e here further = rw e further
