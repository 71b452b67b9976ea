-- What is at a place, and what a look-up finds there.
use Rattle.std.proofs.Common.{◌≡◌, ◌≢◌, ◌⊎◌, ℕ, zero, suc, ◌+◌, ◌<◌, Bool, true, false, true≢false, cond, inl, inr, List, [], ◌∷◌, ◌++◌, length, None, Some, refl, ap, sym, subst, ◌∙◌, arith, slice_get, slice_set, nat_cmp, is_eq, Ordering, Less, Equal, Greater}
use Rattle.std.specs.Map.{lookup, set_value, remove_entry}
use Rattle.std.specs.BTreeMap.{is_at}
use Rattle.std.proofs.lemmas.Map.Lookups.{exact_unsigned}
use Rattle.std.proofs.lemmas.Bool.{cases_order}
use Rattle.std.specs.List.{cons_option}
use Rattle.vesgrauf_streams.specs.declared.slots.Slot.{Slot}
use Rattle.vesgrauf_streams.specs.declared.slots.Slot.TheVariants.{Free, Taken}
use Rattle.vesgrauf_streams.specs.Slots.{entry_in, entries_in, id_in, value_in, id_at}

-- ---- IDs

equal_from : (o : Ordering) → is_eq o ≡ true → o ≡ Equal
equal_from Less e = cc e
equal_from Equal e = refl
equal_from Greater e = cc e

-- two IDs at one place are the same
pub same_id : (a b : ℕ) → is_at (nat_cmp a) b ≡ true → a ≡ b
same_id a b e = exact_unsigned a b (equal_from (nat_cmp a b) e)

pub own_id : (a : ℕ) → is_at (nat_cmp a) a ≡ true
own_id a = grind arith

pub true_or_false : (b : Bool) → (b ≡ true) ⊎ (b ≡ false)
true_or_false true = inl refl
true_or_false false = inr refl

pub other_id : (a b : ℕ) → a ≢ b → is_at (nat_cmp a) b ≡ false
other_id a b ne = elim (true_or_false (is_at (nat_cmp a) b)) [
  | inl same ↦ absurd (ne (same_id a b same))
  | inr other ↦ other
]

pub of_some : {A : Type 0} (a b : A) → Some a ≡ Some b → a ≡ b
of_some a b e = cc e

pub here : (a b : ℕ) → Some a ≡ Some b → is_at (nat_cmp b) a ≡ true
here a b e = subst (λ n. is_at (nat_cmp n) a ≡ true) (of_some a b e) (own_id a)

pub not_other : (a b : ℕ) → a ≡ b → is_at (nat_cmp a) b ≡ false → ⊥
not_other a b e f = true≢false (sym (own_id a) ∙ ap (λ n. is_at (nat_cmp a) n) e ∙ f)

pub apart_or_same : (a b : ℕ) → (a ≡ b) ⊎ (a ≢ b)
apart_or_same a b = elim (cases_order a b) [
  | inl same ↦ inl same
  | inr apart ↦ inr (λ e. lies a b e apart)
]
  where
    lies : (a b : ℕ) → a ≡ b → ((a < b) ⊎ (b < a)) → ⊥
    lies a b e (inl lt) = omega arith
    lies a b e (inr lt) = omega arith

module _ {V : Type 0} where
  -- ---- the slot at a place

  pub within_id : (slots : List (Slot V)) (i id : ℕ) → id_at slots i ≡ Some id → i < length slots
  within_id [] i id e = cc e
  within_id (x ∷ xs) zero id e = omega arith
  within_id (x ∷ xs) (suc i) id e = omega (arith, within_id xs i id e)

  pub set_same : (slots : List (Slot V)) (i : ℕ) (s t : Slot V) → slice_get slots i ≡ Some s
      → slice_get (slice_set slots i t) i ≡ Some t
  set_same [] i s t e = cc e
  set_same (x ∷ xs) zero s t e = refl
  set_same (x ∷ xs) (suc i) s t e = set_same xs i s t e

  pub set_other : (slots : List (Slot V)) (i j : ℕ) (t : Slot V) → j ≢ i
      → slice_get (slice_set slots i t) j ≡ slice_get slots j
  set_other [] i j t ne = refl
  set_other (x ∷ xs) zero zero t ne = absurd (ne refl)
  set_other (x ∷ xs) zero (suc j) t ne = refl
  set_other (x ∷ xs) (suc i) zero t ne = refl
  set_other (x ∷ xs) (suc i) (suc j) t ne = set_other xs i j t (λ e. ne (ap suc e))

  -- no other slot has this ID
  abbrev pub IsOnly : List (Slot V) → ℕ → ℕ → Type 0
  IsOnly slots i id = (j : ℕ) → id_at slots j ≡ Some id → j ≡ i

  only_tail : (s : Slot V) (slots : List (Slot V)) (i id : ℕ) → IsOnly (s ∷ slots) (suc i) id → IsOnly slots i id
  only_tail s slots i id only j e = omega (arith, only (suc j) e)

  -- the first slot has another ID, if a later one has this one
  first_other : (k : ℕ) (v : V) (slots : List (Slot V)) (i id : ℕ) → IsOnly (Taken k v ∷ slots) (suc i) id
      → is_at (nat_cmp id) k ≡ false
  first_other k v slots i id only = other_id id k (λ e. absurd (never (only zero (ap Some (sym e)))))
    where
      never : zero ≡ suc i → ⊥
      never e = omega (arith, e)

  -- ---- what a look-up finds

  pub found : (slots : List (Slot V)) (i id : ℕ) (v : V) → slice_get slots i ≡ Some (Taken id v) → IsOnly slots i id
      → lookup (is_at (nat_cmp id)) (entries_in slots) ≡ Some v
  found [] i id v e only = cc e
  found (Free n ∷ xs) zero id v e only = cc e
  found (Taken k w ∷ xs) zero id v e only = rw (here k id (ap id_in e)) (ap value_in e)
  found (Free n ∷ xs) (suc i) id v e only = found xs i id v e (only_tail (Free n) xs i id only)
  found (Taken k w ∷ xs) (suc i) id v e only = rw (first_other k w xs i id only)
      (found xs i id v e (only_tail (Taken k w) xs i id only))

  pub missing : (slots : List (Slot V)) (id : ℕ) → ((j : ℕ) → id_at slots j ≢ Some id)
      → lookup (is_at (nat_cmp id)) (entries_in slots) ≡ None
  missing [] id none = refl
  missing (Free n ∷ xs) id none = missing xs id (λ j. none (suc j))
  missing (Taken k w ∷ xs) id none = rw (other_id id k (λ e. none zero (ap Some (sym e))))
      (missing xs id (λ j. none (suc j)))

  -- ---- what a write changes

  -- the value of an entry
  pub refill : (slots : List (Slot V)) (i id : ℕ) (v w : V) → slice_get slots i ≡ Some (Taken id v) → IsOnly slots i id
      → entries_in (slice_set slots i (Taken id w)) ≡ set_value (is_at (nat_cmp id)) (entries_in slots) w
  refill [] i id v w e only = cc e
  refill (Free n ∷ xs) zero id v w e only = cc
  refill (Taken k u ∷ xs) zero id v w e only =
      rw (here k id (ap id_in e)) (ap (λ n. (n, w) ∷ entries_in xs) (sym (of_some k id (ap id_in e))))
  refill (Free n ∷ xs) (suc i) id v w e only = refill xs i id v w e (only_tail (Free n) xs i id only)
  refill (Taken k u ∷ xs) (suc i) id v w e only = rw (first_other k u xs i id only)
      (ap (λ l. (k, u) ∷ l) (refill xs i id v w e (only_tail (Taken k u) xs i id only)))

  -- an entry that is taken out
  pub emptied : (slots : List (Slot V)) (i id n : ℕ) (v : V) → slice_get slots i ≡ Some (Taken id v) → IsOnly slots i id
      → entries_in (slice_set slots i (Free n)) ≡ remove_entry (is_at (nat_cmp id)) (entries_in slots)
  emptied [] i id n v e only = cc e
  emptied (Free m ∷ xs) zero id n v e only = cc
  emptied (Taken k u ∷ xs) zero id n v e only = rw (here k id (ap id_in e)) refl
  emptied (Free m ∷ xs) (suc i) id n v e only = emptied xs i id n v e (only_tail (Free m) xs i id only)
  emptied (Taken k u ∷ xs) (suc i) id n v e only = rw (first_other k u xs i id only)
      (ap (λ l. (k, u) ∷ l) (emptied xs i id n v e (only_tail (Taken k u) xs i id only)))

  -- the slot has nothing of this ID
  abbrev pub IsOther : Slot V → ℕ → Type 0
  IsOther s q = id_in (Some s) ≢ Some q

  skips : (s : Slot V) (q : ℕ) (es : List (ℕ × V)) → IsOther s q
      → lookup (is_at (nat_cmp q)) (cons_option (entry_in s) es) ≡ lookup (is_at (nat_cmp q)) es
  skips (Free n) q es a = refl
  skips (Taken k u) q es a = rw (other_id q k (λ e. a (ap Some (sym e)))) refl

  -- what is found of another ID
  pub others : (slots : List (Slot V)) (i q : ℕ) (s t : Slot V) → slice_get slots i ≡ Some s → IsOther s q → IsOther t q
      → lookup (is_at (nat_cmp q)) (entries_in (slice_set slots i t)) ≡ lookup (is_at (nat_cmp q)) (entries_in slots)
  others [] i q s t e a b = refl
  others (x ∷ xs) zero q s t e a b =
      skips t q (entries_in xs) b ∙ sym (skips x q (entries_in xs) (λ h. a (sym (ap id_in e) ∙ h)))
  others (Free n ∷ xs) (suc i) q s t e a b = others xs i q s t e a b
  others (Taken k u ∷ xs) (suc i) q s t e a b = ap (λ r. cond (is_at (nat_cmp q) k) (Some u) r)
      (others xs i q s t e a b)

  -- how many entries a slot has
  abbrev pub held : Slot V → ℕ
  held (Free n) = 0
  held (Taken id v) = 1

  one : (s : Slot V) (es : List (ℕ × V)) → length (cons_option (entry_in s) es) ≡ length es + held s
  one (Free n) es = omega arith
  one (Taken k u) es = omega arith

  pub counts : (slots : List (Slot V)) (i : ℕ) (s t : Slot V) → slice_get slots i ≡ Some s
      → length (entries_in (slice_set slots i t)) + held s ≡ length (entries_in slots) + held t
  counts [] i s t e = cc e
  counts (x ∷ xs) zero s t e = omega (arith, one t (entries_in xs), one x (entries_in xs), ap held (of_some x s e))
  counts (Free n ∷ xs) (suc i) s t e = counts xs i s t e
  counts (Taken k u ∷ xs) (suc i) s t e = omega (arith, counts xs i s t e)

  -- ---- one more free slot

  pub more_entries : (slots : List (Slot V)) (n : ℕ) → entries_in (slots ++ Free n ∷ []) ≡ entries_in slots
  more_entries [] n = refl
  more_entries (Free m ∷ xs) n = more_entries xs n
  more_entries (Taken k u ∷ xs) n = ap (λ l. (k, u) ∷ l) (more_entries xs n)

  pub more_ids : (slots : List (Slot V)) (n j : ℕ) → id_at (slots ++ Free n ∷ []) j ≡ id_at slots j
  more_ids [] n zero = refl
  more_ids [] n (suc j) = refl
  more_ids (x ∷ xs) n zero = refl
  more_ids (x ∷ xs) n (suc j) = more_ids xs n j

  pub last_free : (slots : List (Slot V)) (n : ℕ) → slice_get (slots ++ Free n ∷ []) (length slots) ≡ Some (Free n)
  last_free [] n = refl
  last_free (x ∷ xs) n = last_free xs n
