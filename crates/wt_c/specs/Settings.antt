-- The C form of settings (RFC 9114, section 7.2.4).
use Rattle.std.specs.Prelude.{◌≡◌, ℕ, ◌<◌, ◌≤◌, ◌^◌, List, [], ◌∷◌, map, length, take, drop, None, Contains}
use Rattle.std.specs.Map.{keys_of}
use Rattle.wtp_wire.specs.SettingId.{IsReserved, IsSetting}
use Rattle.wtp_wire.specs.declared.settings.pairs.SettingPair.{SettingPair}
use Rattle.wtp_wire.specs.SettingPairs.{HasPairs, numbers_of}
use Rattle.wtp_wire.specs.Settings.{AreFaultless}
use Rattle.wt_c.specs.declared.settings.WtSetting.{WtSetting}

-- the identifier and value of a setting
abbrev pub pair_of : WtSetting → ℕ × ℕ
pair_of s = (s.id, s.value)

-- the identifiers and values of settings
abbrev pub pairs_of : List WtSetting → List (ℕ × ℕ)
pairs_of settings = map pair_of settings

-- the first `count` settings of the array are these pairs, and the rest of the array is unchanged
pub record HoldSettings (old settings : List WtSetting) (count : ℕ) (ps : List (ℕ × ℕ)) : Type 0
  where
    pub count_is : count ≡ length ps
    pub room : count ≤ length settings
    pub says : pairs_of (take count settings) ≡ ps
    pub after : drop count settings ≡ drop count old

-- the payload is these pairs, in order and including unknown identifiers, and has no error (RFC
-- 9114, section 7.2.4)
pub record ArePairsOf (payload : List ℕ) (ps : List SettingPair) : Type 0 where
  pub pairs : HasPairs ps None payload
  pub faultless : AreFaultless (numbers_of ps)

-- the array is too short for these pairs, and `count` is their number
pub record LackSettings (settings : List WtSetting) (count : ℕ) (m : List (ℕ × ℕ)) : Type 0 where
  pub count_is : count ≡ length m
  pub short : length settings < count

-- each identifier and each value fits in a variable-length integer
abbrev pub AreNumbers : List WtSetting → Type 0
AreNumbers [] = Unit {0}
AreNumbers (s ∷ ss) = (s.id < 2 ^ 62) × (s.value < 2 ^ 62) × AreNumbers ss

-- the identifier is not reserved from HTTP/2 and, if it is known, none of these settings has it
-- too
pub record IsFaultlessBefore (id : ℕ) (others : List WtSetting) : Type 0 where
  pub free : ¬ IsReserved id
  pub once : IsSetting id → ¬ Contains (keys_of (pairs_of others)) id

-- the settings can be written, and a peer finds no error in them (RFC 9114, sections 7.2.4 and
-- 7.2.4.1)
pub record AreWritable (settings : List WtSetting) : Type 0 where
  pub numbers : AreNumbers settings
  pub faultless : AreFaultless (pairs_of settings)
