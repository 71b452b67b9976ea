-- What the tables say of connections: which streams must not be closed, and the settings of the peer.
use Rattle.std.specs.Prelude.{◌≡◌, ℕ, Bool, false, Option, Some, None, option_and_then}
use Rattle.vesgrauf_registry.specs.Settings.{setting_columns}
use Rattle.vesgrauf_registry.specs.Streams.{UniStream}
use Rattle.vesgrauf_registry.specs.Table.{Entry}
use Rattle.vesgrauf_registry.specs.declared.settings.Setting.{Setting}

-- ---- streams

abbrev pub critical_by : Option (Entry UniStream) → Bool
critical_by None = false
critical_by (Some e) = e.columns.critical

-- ---- settings

abbrev pub is_supported_by : Option Setting → Bool
is_supported_by None = false
is_supported_by (Some s) = s.supported

-- the value of a setting that is not sent, if there is one
abbrev pub setting_default : ℕ → Option ℕ
setting_default n = option_and_then (λ s. s.default) (setting_columns n)

abbrev pub IsDefault : ℕ → ℕ → Type 0
IsDefault n value = setting_default n ≡ Some value

-- a flag that is not sent is 0
abbrev pub IsOff : ℕ → Bool → Type 0
IsOff n is_on = (setting_default n ≡ Some 0) × (is_on ≡ false)
