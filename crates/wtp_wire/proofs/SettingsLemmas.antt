-- Settings as a list of identifiers and values: adding a setting.
use Rattle.std.proofs.Common.{◌≡◌, ℕ, ◌^◌, ◌<◌, List, [], ◌∷◌, ◌++◌, Bool, true, false, cond, IsTrue, refl, ap, ◌∙◌, append_assoc, arith, inl, inr}
use Rattle.std.proofs.lemmas.Bool.{cases_lt, lt-ltb, le-ltb, eq-eqb, ne_eqb}
use Rattle.std.specs.declared.cmp.Ordering.{Ordering}
use Rattle.std.specs.declared.cmp.Ordering.TheVariants.{Less, Equal, Greater}
use Rattle.std.specs.List.{AllByRecursion}
use Rattle.std.proofs.lemmas.Map.Keys.{sorted_head, sorted_tail}
use Rattle.std.specs.Map.{keys_of}
use Rattle.std.specs.Ordering.{nat_cmp, match_ordering}
use Rattle.std.specs.List.Sorted.{IsStrictlySortedBy}
use Rattle.std.proofs.lemmas.List.Elements.{All-nil, recursion_from_All}
use Rattle.std.proofs.lemmas.Map.Views.{All-keys-insert_entry, All-values-insert_entry}
use Rattle.wtp_wire.specs.SettingId.{is_setting}
use Rattle.wtp_wire.specs.Settings.{IsSettings, with_setting}

pub no_settings : (m : List (ℕ × ℕ)) → m ≡ [] → IsStrictlySortedBy nat_cmp (keys_of m) → IsSettings m
no_settings m e rising = record {
  rising = rising;
  known = rw e (All-nil (λ (i : ℕ). IsTrue (is_setting i)));
  ids = rw e (All-nil (λ (i : ℕ). i < 2 ^ 62));
  values = rw e (All-nil (λ (v : ℕ). v < 2 ^ 62));
}

-- adding a setting with a known identifier
pub are_settings-with : (m : List (ℕ × ℕ)) (id value : ℕ) (h : IsSettings m) → IsStrictlySortedBy nat_cmp (keys_of (with_setting m id value)) → is_setting id ≡ true → id < 2 ^ 62 → value < 2 ^ 62 → IsSettings (with_setting m id value)
are_settings-with m id value h rising known below small = record {
  rising = rising;
  known = All-keys-insert_entry nat_cmp id value (λ (i : ℕ). IsTrue (is_setting i)) m h.known known;
  ids = All-keys-insert_entry nat_cmp id value (λ (i : ℕ). i < 2 ^ 62) m h.ids below;
  values = All-values-insert_entry nat_cmp id value (λ (v : ℕ). v < 2 ^ 62) m h.values small;
}

-- ---- the order of numbers

not_less : (t : Bool) → cond t Equal Greater ≡ Less → ⊥
not_less true e = cc
not_less false e = cc

pub nat_cmp-less : (a b : ℕ) → nat_cmp a b ≡ Less → a < b
nat_cmp-less a b e = elim (cases_lt a b) [ inl h ↦ h | inr h ↦ absurd (not_less _ (rw (le-ltb a b h) at e)) ]

pub less-nat_cmp : (a b : ℕ) → a < b → nat_cmp a b ≡ Less
less-nat_cmp a b h = rw (lt-ltb a b h) refl

pub greater-nat_cmp : (a b : ℕ) → b < a → nat_cmp a b ≡ Greater
greater-nat_cmp a b h = rw (le-ltb a b (omega arith), ne_eqb a b (λ e. omega arith)) refl

pub equal-nat_cmp : (a b : ℕ) → a ≡ b → nat_cmp a b ≡ Equal
equal-nat_cmp a b e = rw (le-ltb a b (omega arith), eq-eqb a b e) refl

-- ---- a setting at the end

all_middle : (P : ℕ → Type 0) (xs ys : List (ℕ × ℕ)) (k v : ℕ) → AllByRecursion P (keys_of (xs ++ (k, v) ∷ ys)) → P k
all_middle P [] ys k v h = h.0
all_middle P (x ∷ xs) ys k v h = all_middle P xs ys k v h.1

pub known_middle : (m xs ys : List (ℕ × ℕ)) (k v : ℕ) (h : IsSettings m) → xs ++ (k, v) ∷ ys ≡ m → is_setting k ≡ true
known_middle m xs ys k v h e = all_middle (λ (i : ℕ). IsTrue (is_setting i)) xs ys k v (recursion_from_All (λ (i : ℕ). IsTrue (is_setting i)) (keys_of (xs ++ (k, v) ∷ ys)) (rw e h.known))

with_setting-last : (xs ys : List (ℕ × ℕ)) (k v : ℕ) → IsStrictlySortedBy nat_cmp (keys_of (xs ++ (k, v) ∷ ys)) → with_setting xs k v ≡ xs ++ (k, v) ∷ []
with_setting-last [] ys k v h = refl
with_setting-last (x ∷ xs) ys k v h =
    let below : x.0 < k = nat_cmp-less x.0 k (all_middle (λ (i : ℕ). nat_cmp x.0 i ≡ Less) xs ys k v (sorted_head nat_cmp x.0 (keys_of (xs ++ (k, v) ∷ ys)) h)) in
    ap (λ (o : Ordering). match_ordering o ((k, v) ∷ x ∷ xs) ((x.0, v) ∷ xs) (x ∷ with_setting xs k v)) (greater-nat_cmp k x.0 below) ∙ ap (λ (l : List (ℕ × ℕ)). x ∷ l) (with_setting-last xs ys k v (sorted_tail nat_cmp x.0 (keys_of (xs ++ (k, v) ∷ ys)) h))

-- copying the settings m in order
pub copied-more : (m xs ys next : List (ℕ × ℕ)) (k v : ℕ) (h : IsSettings m) → xs ++ (k, v) ∷ ys ≡ m → next ≡ with_setting xs k v → next ++ ys ≡ m
copied-more m xs ys next k v h e step =
    let rising : IsStrictlySortedBy nat_cmp (keys_of (xs ++ (k, v) ∷ ys)) = rw e h.rising in
    ap (λ (l : List (ℕ × ℕ)). l ++ ys) (step ∙ with_setting-last xs ys k v rising) ∙ append_assoc xs ((k, v) ∷ []) ys ∙ e
