-- The settings of a payload as pairs, including unknown ones, in the payload's order (RFC 9114,
-- section 7.2.4).
use Rattle.std.specs.Prelude.{◌≡◌, ℕ, zero, suc, ◌⊎◌, List, [], ◌∷◌, ◌++◌, length, All, Contains, Option, Some, None, Result, Ok, Err, map, if◌then◌else◌}
use Rattle.std.specs.Map.{keys_of}
use Rattle.wtp_core.specs.declared.error.ErrorCode.{ErrorCode}
use Rattle.wtp_core.specs.declared.error.ErrorCode.TheVariants.{Frame, Settings}
use Rattle.wtp_wire.specs.declared.settings.pairs.SettingPair.{SettingPair}
use Rattle.wtp_wire.specs.Front.{EncodesPair}
use Rattle.wtp_wire.specs.SettingId.{IsReserved, IsSetting, is_reserved}
use Rattle.wtp_wire.specs.Settings.{ArePairs, IsCutSetting, pair_at}

-- ---- by definition

-- the pairs as numbers: identifier and value
abbrev pub numbers_of : List SettingPair → List (ℕ × ℕ)
numbers_of ps = map (λ p. (p.id, p.value)) ps

-- the bytes start with a pair whose identifier is reserved because HTTP/2 used it
abbrev pub StartsReserved : List ℕ → Type 0
StartsReserved rest =
    (id value : ℕ) × (s more : List ℕ) × EncodesPair id value s × (rest ≡ s ++ more) × IsReserved id

-- the rest after the pairs is empty, or has this error: it is a truncated pair (Frame), or starts
-- with a pair with a reserved identifier (Settings)
abbrev pub EndsPairs : Option ErrorCode → List ℕ → Type 0
EndsPairs None rest = rest ≡ []
EndsPairs (Some code) rest =
    ((code ≡ Frame) × IsCutSetting rest) ⊎ ((code ≡ Settings) × StartsReserved rest)

-- the payload starts with these pairs, none of which has a reserved identifier, and then ends or
-- has this error
pub record HasPairs (ps : List SettingPair) (fault : Option ErrorCode) (payload : List ℕ) : Type 0
  where
    pub front : List ℕ
    pub rest : List ℕ
    pub pairs : ArePairs (numbers_of ps) front
    pub free : All (λ id. ¬ IsReserved id) (keys_of (numbers_of ps))
    pub parts : payload ≡ front ++ rest
    pub ending : EndsPairs fault rest

-- the item of an error, if there is one
abbrev pub fault_items : Option ErrorCode → List (Result SettingPair ErrorCode)
fault_items None = []
fault_items (Some code) = Err code ∷ []

-- the items returned: each pair, and then the error, if there is one
abbrev pub pair_items : List SettingPair → Option ErrorCode → List (Result SettingPair ErrorCode)
pair_items ps fault = map (λ p. Ok p) ps ++ fault_items fault

-- ---- the same, computed

-- the first item, and the items of the bytes after it
abbrev pub items_at :
    (List ℕ → List (Result SettingPair ErrorCode)) → Option ((ℕ × ℕ) × List ℕ)
    → List (Result SettingPair ErrorCode)
items_at more None = Err Frame ∷ []
items_at more (Some p) =
    if is_reserved p.0.0
    then Err Settings ∷ []
    else Ok (record { id = p.0.0; value = p.0.1 }) ∷ more p.1

-- the items of the bytes, at most n
unfoldable pub items_within : ℕ → List ℕ → List (Result SettingPair ErrorCode)
items_within n [] = []
items_within zero (b ∷ bs) = []
items_within (suc n) (b ∷ bs) = items_at (λ rest. items_within n rest) (pair_at (b ∷ bs))

-- the items of a payload: its pairs, up to its end or its first error
unfoldable pub setting_items : List ℕ → List (Result SettingPair ErrorCode)
setting_items payload = items_within (length payload) payload

-- ---- comparison with the settings that are stored

-- after these pairs, the next pair repeats the identifier of one of them, and that identifier is a
-- setting's
pub record Repeats (ps : List SettingPair) (payload : List ℕ) : Type 0 where
  pub again : SettingPair
  pub others : List (Result SettingPair ErrorCode)
  pub known : IsSetting again.id
  pub repeated : Contains (keys_of (numbers_of ps)) again.id
  pub items : setting_items payload ≡ map (λ p. Ok p) ps ++ Ok again ∷ others
