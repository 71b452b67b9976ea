-- Settings, one by one, as a payload has them (RFC 9114, section 7.2.4).
use Rattle.std.specs.Prelude.{◌≡◌, ◌&&◌, ℕ, Bool, true, false, List, [], ◌∷◌, Option, Some}
use Rattle.std.specs.Prelude.{None, nat_eq, nat_lt}
use Rattle.std.specs.List.{list_any}
use Rattle.vesgrauf_registry.specs.Settings.{setting_columns}
use Rattle.vesgrauf_registry.specs.declared.settings.Range.{Range}
use Rattle.vesgrauf_registry.specs.declared.settings.Range.TheVariants.{Flag}
use Rattle.vesgrauf_registry.specs.declared.settings.Setting.{Setting}
use Rattle.wtp_wire.specs.SettingId.{is_reserved}
use Rattle.wt_inspection_model.specs.declared.item.settings.SettingIssue.{SettingIssue}
use Rattle.wt_inspection_model.specs.declared.item.settings.SettingIssue.TheVariants.{Reserved}
use Rattle.wt_inspection_model.specs.declared.item.settings.SettingIssue.TheVariants.{Repeated, Value}
use Rattle.wt_inspection_model.specs.declared.item.settings.SettingLine.{SettingLine}
use Rattle.wtp_wire.specs.Settings.{pair_at}

-- the bytes start with these settings, one after the other, followed by the rest
abbrev pub StartsSettings : List ℕ → List SettingLine → List ℕ → Type 0
StartsSettings bytes [] rest = bytes ≡ rest
StartsSettings bytes (line ∷ lines) rest =
    (behind : List ℕ)
    × (pair_at bytes ≡ Some ((line.id, line.value), behind))
    × StartsSettings behind lines rest

abbrev pub is_flag_in : Range → Bool
is_flag_in Flag = true
is_flag_in other = false

abbrev pub is_flag_by : Option Setting → Bool
is_flag_by None = false
is_flag_by (Some s) = s.supported && is_flag_in s.range

-- a setting whose value is used, and is 0 or 1
abbrev pub is_flag : ℕ → Bool
is_flag id = is_flag_by (setting_columns id)

-- the value is not allowed for this setting: it has no values but 0 and 1
abbrev pub is_bad_value : ℕ → ℕ → Bool
is_bad_value id value = is_flag id && nat_lt 1 value

-- what is wrong with a setting whose identifier is reserved, or repeated, or whose value is bad
abbrev pub flag_of : Bool → Bool → Bool → Option SettingIssue
flag_of true repeated bad = Some Reserved
flag_of false true bad = Some Repeated
flag_of false false true = Some Value
flag_of false false false = None

-- each of these settings, after settings of these identifiers, says what is wrong with it
abbrev pub AreFlagged : List ℕ → List SettingLine → Type 0
AreFlagged before [] = Unit {0}
AreFlagged before (line ∷ lines) =
    (line.flag
    ≡ flag_of (is_reserved line.id) (list_any (nat_eq line.id) before)
    (is_bad_value line.id line.value))
    × AreFlagged (line.id ∷ before) lines

-- these are all settings of the bytes that are complete, up to one that is not
abbrev pub AreSettings : List ℕ → List SettingLine → Type 0
AreSettings bytes lines =
    (rest : List ℕ) × StartsSettings bytes lines rest × (pair_at rest ≡ None) × AreFlagged [] lines
