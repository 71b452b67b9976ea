-- The settings as a list of identifiers and values, in ascending order of identifiers.
use Rattle.std.specs.Prelude.{◌≡◌, ℕ, ◌↔◌, List, Contains, Option, Some, None, map}
use Rattle.std.specs.Ordering.{nat_cmp}
use Rattle.std.specs.List.Sorted.{IsStrictlySortedBy}
use Rattle.wtp_wire.specs.declared.settings.SettingId.{SettingId}
use Rattle.wtp_wire.specs.declared.settings.SettingId.TheVariants.{Exercise}
use Rattle.wtp_wire.specs.SettingId.{setting_number_of, setting_id_of}
use Rattle.wtp_wire.specs.Settings.{setting_value}

-- xs are exactly the settings that are set in m, each with its value, in ascending order of
-- identifiers
pub record AreListed (m : List (ℕ × ℕ)) (xs : List (SettingId × ℕ)) : Type 0 where
  pub rising : IsStrictlySortedBy nat_cmp (map (λ x. setting_number_of x.0) xs)
  pub same : (setting : SettingId) (value : ℕ)
      → Contains xs (setting, value) ↔ (setting_value m setting ≡ Some value)

-- ---- the same, computed

-- the setting that was found, or else the other one
abbrev pub setting_or : Option SettingId → SettingId → SettingId
setting_or None other = other
setting_or (Some setting) other = setting

-- the setting with this identifier; for an unknown one, an exercise setting that is never stored
abbrev pub setting_of : ℕ → SettingId
setting_of id = setting_or (setting_id_of id) (Exercise id)

-- the settings that are set in m, each with its value
abbrev pub settings_list : List (ℕ × ℕ) → List (SettingId × ℕ)
settings_list m = map (λ p. (setting_of p.0, p.1)) m
