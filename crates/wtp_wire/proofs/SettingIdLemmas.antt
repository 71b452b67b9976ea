-- The computed setting of an identifier agrees with the definition.
use Rattle.std.proofs.Common.{◌≡◌, ℕ, Bool, true, false, eqb, leb, ◌&&◌, Option, Some, None, is_some, refl, ap, arith, inl, inr}
use Rattle.std.proofs.lemmas.Bool.{eqb-true, eq-eqb, le-leb, leb-true, and_from, and_parts, or_left, or_right, or_cases}
use Rattle.wtp_wire.specs.declared.settings.SettingId.{SettingId}
use Rattle.wtp_wire.specs.declared.settings.SettingId.TheVariants.{Exercise}
use Rattle.wtp_wire.specs.SettingId.{IsSettingId, IsSetting, IsReserved, named_settings, setting_number_of, setting_id_of, is_setting, is_reserved}
use Rattle.wtp_wire.proofs.KindLemmas.{exercise_test, test_exercise}
use Rattle.wtp_wire.proofs.NamedLemmas.{kind_by-exercise, is-kind_by}

pub setting_id_of-is : (setting : SettingId) (id : ℕ) → IsSettingId setting id → setting_id_of id ≡ Some setting
unfolding setting_id_of
setting_id_of-is (Exercise number) id h =
    let e : number ≡ id = h.0 in
    rw e (kind_by-exercise setting_number_of (λ n. Exercise n) named_settings id refl (exercise_test id h.1))
setting_id_of-is setting id h = rw h refl

is_named : SettingId → Bool
is_named (Exercise number) = false
is_named setting = true

named_is : (setting : SettingId) (id : ℕ) → is_named setting ≡ true → id ≡ setting_number_of setting → IsSettingId setting id
unfolding is_named
named_is (Exercise number) id t e = absurd cc
named_is setting id t e = e

pub is-setting_id_of : (setting : SettingId) (id : ℕ) → setting_id_of id ≡ Some setting → IsSettingId setting id
unfolding setting_id_of is_named
is-setting_id_of setting id e = is-kind_by setting_number_of (λ n. Exercise n) IsSettingId is_named named_is (λ n t. (refl, test_exercise n t)) named_settings refl setting id e

-- ---- the tests

pub is_setting-true : (id : ℕ) → IsSetting id → is_setting id ≡ true
is_setting-true id (setting, h) = ap is_some (setting_id_of-is setting id h)

pub setting-is_setting : (id : ℕ) → is_setting id ≡ true → IsSetting id
setting-is_setting id t = setting_in (setting_id_of id) refl t
  where
    setting_in : (o : Option SettingId) → setting_id_of id ≡ o → is_some o ≡ true → IsSetting id
    setting_in None e s = absurd cc
    setting_in (Some setting) e s = (setting, is-setting_id_of setting id e)

pub is_reserved-true : (id : ℕ) → IsReserved id → is_reserved id ≡ true
is_reserved-true id (inl e) = or_left (eqb id 0) (leb 2 id && leb id 5) (eq-eqb id 0 e)
is_reserved-true id (inr h) = or_right (eqb id 0) (leb 2 id && leb id 5) (and_from (leb 2 id) (leb id 5) (le-leb 2 id h.0) (le-leb id 5 h.1))

pub reserved-is_reserved : (id : ℕ) → is_reserved id ≡ true → IsReserved id
reserved-is_reserved id t = elim (or_cases (eqb id 0) (leb 2 id && leb id 5) t) [
  | inl e ↦ inl (eqb-true id 0 e)
  | inr h ↦ let parts = and_parts (leb 2 id) (leb id 5) h in inr (leb-true 2 id parts.0, leb-true id 5 parts.1)
]

setting_number_not_reserved : (setting : SettingId) (id : ℕ) → IsSettingId setting id → IsReserved id → ⊥
setting_number_not_reserved (Exercise number) id (e, (n, far)) r = omega arith
setting_number_not_reserved setting id h r = omega arith

pub setting_not_reserved : (id : ℕ) → IsSetting id → IsReserved id → ⊥
setting_not_reserved id (setting, h) r = setting_number_not_reserved setting id h r
