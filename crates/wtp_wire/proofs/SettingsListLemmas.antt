-- Exactly the settings that are set are listed.
use Rattle.std.proofs.Common.{◌≡◌, ℕ, true, List, [], ◌∷◌, Option, Some, None, refl, sym, ap, subst, ◌∙◌, inl, inr, IsTrue}
use Rattle.std.specs.Prelude.{Contains, map}
use Rattle.std.specs.Map.{keys_of}
use Rattle.std.specs.List.{AllByRecursion}
use Rattle.std.proofs.lemmas.List.Elements.{recursion_from_All}
use Rattle.wtp_wire.specs.declared.settings.SettingId.{SettingId}
use Rattle.wtp_wire.specs.declared.settings.SettingId.TheVariants.{Exercise}
use Rattle.wtp_wire.specs.Kind.{IsExercise, is_exercise}
use Rattle.wtp_wire.specs.SettingId.{IsSettingId, setting_number_of, is_setting, known_number_of}
use Rattle.wtp_wire.specs.Settings.{IsSettings, value_at_some, setting_value}
use Rattle.wtp_wire.specs.SettingsList.{AreListed, setting_of, setting_or, settings_list}
use Rattle.wtp_wire.proofs.KindLemmas.{exercise_test, test_exercise, which, some_is}
use Rattle.wtp_wire.proofs.SettingIdLemmas.{setting_id_of-is, setting-is_setting}
use Rattle.wtp_wire.proofs.ValueLemmas.{contains_cases, contains_head, contains_tail, contains_none, value_contained, contained_value}

-- ---- a setting and its number

-- the setting of a known identifier
pub setting_of-is : (setting : SettingId) (id : ℕ) → IsSettingId setting id → setting_of id ≡ setting
setting_of-is setting id h = ap (λ (o : Option SettingId). setting_or o (Exercise id)) (setting_id_of-is setting id h)

is-setting_of : (id : ℕ) → is_setting id ≡ true → IsSettingId (setting_of id) id
is-setting_of id t = let (setting, h) = setting-is_setting id t in rw (setting_of-is setting id h) h

number_of-is : (setting : SettingId) (id : ℕ) → IsSettingId setting id → setting_number_of setting ≡ id
number_of-is (Exercise number) id h = h.0
number_of-is setting id h = sym h

known_number_of-is : (setting : SettingId) (id : ℕ) → IsSettingId setting id → known_number_of setting ≡ Some id
known_number_of-is (Exercise number) id h =
    let e : number ≡ id = h.0 in
    rw (e, exercise_test id h.1) refl
known_number_of-is setting id h = ap (λ (n : ℕ). Some n) (sym h)

is-known_number_of : (setting : SettingId) (id : ℕ) → known_number_of setting ≡ Some id → IsSettingId setting id
is-known_number_of (Exercise number) id h = elim (which (is_exercise number) (Some number) None (Some id) h) [
  | inl found ↦ let same : number ≡ id = some_is number id found.1 in (same, subst IsExercise same (test_exercise number found.0))
  | inr none ↦ absurd (none_is id none.1)
]
  where
    none_is : (n : ℕ) → None ≡ Some n → ⊥
    none_is n e = cc
is-known_number_of setting id h = sym (some_is (setting_number_of setting) id h)

-- ---- the list

numbers-listed : (m : List (ℕ × ℕ)) → AllByRecursion (λ (id : ℕ). IsTrue (is_setting id)) (keys_of m) → map (λ (x : SettingId × ℕ). setting_number_of x.0) (settings_list m) ≡ keys_of m
numbers-listed [] h = refl
numbers-listed (p ∷ m) h = ap (λ (n : ℕ). n ∷ map (λ (x : SettingId × ℕ). setting_number_of x.0) (settings_list m)) (number_of-is (setting_of p.0) p.0 (is-setting_of p.0 h.0)) ∙ ap (λ (l : List ℕ). p.0 ∷ l) (numbers-listed m h.1)

-- a setting that is set is listed
listed-contains : (m : List (ℕ × ℕ)) (setting : SettingId) (id value : ℕ) → IsSettingId setting id → Contains m (id, value) → Contains (settings_list m) (setting, value)
listed-contains [] setting id value h c = absurd (contains_none (id, value) c)
listed-contains (p ∷ m) setting id value h c = elim (contains_cases p m (id, value) c) [
  | inl e ↦ subst (λ (x : SettingId × ℕ). Contains (settings_list (p ∷ m)) x) (ap (λ (q : ℕ × ℕ). (setting_of q.0, q.1)) e ∙ ap (λ (s : SettingId). (s, value)) (setting_of-is setting id h)) (contains_head (setting_of p.0, p.1) (settings_list m))
  | inr rest ↦ contains_tail (setting_of p.0, p.1) (settings_list m) (setting, value) (listed-contains m setting id value h rest)
]

-- a setting that is listed is set
contains-listed : (m : List (ℕ × ℕ)) (setting : SettingId) (value : ℕ) → AllByRecursion (λ (id : ℕ). IsTrue (is_setting id)) (keys_of m) → Contains (settings_list m) (setting, value) → (id : ℕ) × IsSettingId setting id × Contains m (id, value)
contains-listed [] setting value h c = absurd (contains_none (setting, value) c)
contains-listed (p ∷ m) setting value h c = elim (contains_cases (setting_of p.0, p.1) (settings_list m) (setting, value) c) [
  | inl e ↦ (p.0, subst (λ (s : SettingId). IsSettingId s p.0) (ap (λ (x : SettingId × ℕ). x.0) e) (is-setting_of p.0 h.0), subst (λ (v : ℕ). Contains (p ∷ m) (p.0, v)) (ap (λ (x : SettingId × ℕ). x.1) e) (contains_head p m))
  | inr rest ↦ let (id, is, found) = contains-listed m setting value h.1 rest in (id, is, contains_tail p m (id, value) found)
]

value_at_some-contains : (m : List (ℕ × ℕ)) (setting : SettingId) (value : ℕ) (o : Option ℕ) → known_number_of setting ≡ o → value_at_some m o ≡ Some value → Contains (settings_list m) (setting, value)
value_at_some-contains m setting value None known e = absurd cc
value_at_some-contains m setting value (Some id) known e = listed-contains m setting id value (is-known_number_of setting id known) (value_contained m id value e)

contains-value : (m : List (ℕ × ℕ)) (h : IsSettings m) (setting : SettingId) (value : ℕ) → Contains (settings_list m) (setting, value) → setting_value m setting ≡ Some value
contains-value m h setting value c =
    let (id, is, found) = contains-listed m setting value (recursion_from_All (λ (i : ℕ). IsTrue (is_setting i)) (keys_of m) h.known) c in
    ap (λ (o : Option ℕ). value_at_some m o) (known_number_of-is setting id is) ∙ contained_value m id value h.rising found

pub settings-listed : (m : List (ℕ × ℕ)) → IsSettings m → AreListed m (settings_list m)
settings-listed m h = record {
  rising = rw (numbers-listed m (recursion_from_All (λ (i : ℕ). IsTrue (is_setting i)) (keys_of m) h.known)) h.rising;
  same = λ setting value. (contains-value m h setting value, value_at_some-contains m setting value (known_number_of setting) refl);
}
