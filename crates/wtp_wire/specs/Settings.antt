-- The settings of a connection, and the payload of a SETTINGS frame (RFC 9114, sections 7.2.4 and
-- 7.2.4.1).
use Rattle.std.specs.Prelude.{◌≡◌, ◌≢◌, ℕ, ◌<◌, ◌^◌, ◌⊎◌, ◌↔◌, List, [], ◌∷◌, ◌++◌, length, All, Contains, Option, Some, None, is_some, option_and_then, IsTrue, Result, Ok, Err, suc, zero, nat_lt, drop, if◌then◌else◌}
use Rattle.std.specs.Ordering.{nat_cmp}
use Rattle.std.specs.Option.{option_map}
use Rattle.std.specs.Map.{lookup, keys_of, values_of}
use Rattle.std.specs.BTreeMap.{insert_entry, is_at}
use Rattle.std.specs.List.Sorted.{IsStrictlySortedBy}
use Rattle.wtp_core.specs.declared.error.ErrorCode.{ErrorCode}
use Rattle.wtp_core.specs.declared.error.ErrorCode.TheVariants.{Frame, Settings}
use Rattle.wtp_core.specs.declared.error.Refused.{Refused}
use Rattle.wtp_core.specs.declared.error.Refused.TheVariants.{Code, Memory}
use Rattle.wtp_core.specs.Varint.{number_at, shortest}
use Rattle.wtp_core.specs.Writer.{joined}
use Rattle.wtp_wire.specs.declared.settings.SettingId.{SettingId}
use Rattle.wtp_wire.specs.Front.{EncodesPair}
use Rattle.wtp_wire.specs.SettingId.{IsSetting, IsReserved, is_setting, is_reserved, known_number_of}

-- ---- settings are identifiers and their values, in ascending order of identifiers

-- m is a valid list of settings: known identifiers in ascending order, and all numbers below 2^62
pub record IsSettings (m : List (ℕ × ℕ)) : Type 0 where
  pub rising : IsStrictlySortedBy nat_cmp (keys_of m)
  pub known : All (λ id. IsTrue (is_setting id)) (keys_of m)
  pub ids : All (λ id. id < 2 ^ 62) (keys_of m)
  pub values : All (λ value. value < 2 ^ 62) (values_of m)

-- the value of an identifier, or None if it is not set
abbrev pub value_at : List (ℕ × ℕ) → ℕ → Option ℕ
value_at m id = lookup (is_at (nat_cmp id)) m

-- the value of an identifier, or None if there is no identifier
abbrev pub value_at_some : List (ℕ × ℕ) → Option ℕ → Option ℕ
value_at_some m None = None
value_at_some m (Some id) = value_at m id

-- the value of a setting, or None if it is not set
abbrev pub setting_value : List (ℕ × ℕ) → SettingId → Option ℕ
setting_value m setting = value_at_some m (known_number_of setting)

-- m with this value for an identifier: it replaces the previous value, or is inserted in order
abbrev pub with_setting : List (ℕ × ℕ) → ℕ → ℕ → List (ℕ × ℕ)
with_setting m id value = insert_entry nat_cmp m id value

-- ---- the payload

-- s is the encoding of these pairs in order: for each, an encoding of its identifier followed by
-- one of its value
abbrev pub ArePairs : List (ℕ × ℕ) → List ℕ → Type 0
ArePairs [] s = s ≡ []
ArePairs (p ∷ ps) s =
    (first rest : List ℕ) × EncodesPair p.0 p.1 first × ArePairs ps rest × (s ≡ first ++ rest)

-- no identifier is reserved because HTTP/2 used it, and no identifier of a setting occurs twice
abbrev pub AreFaultless : List (ℕ × ℕ) → Type 0
AreFaultless [] = Unit {0}
AreFaultless (p ∷ ps) =
    (¬ IsReserved p.0) × (IsSetting p.0 → ¬ Contains (keys_of ps) p.0) × AreFaultless ps

-- m are the settings among the pairs, in ascending order of identifiers
pub record AreKept (m ps : List (ℕ × ℕ)) : Type 0 where
  pub rising : IsStrictlySortedBy nat_cmp (keys_of m)
  pub same :
      (id value : ℕ) → (value_at m id ≡ Some value) ↔ (IsSetting id × Contains ps (id, value))

-- the payload contains these settings
abbrev pub IsPayload : List (ℕ × ℕ) → List ℕ → Type 0
IsPayload m s = (ps : List (ℕ × ℕ)) × ArePairs ps s × AreFaultless ps × AreKept m ps

-- the rest is a truncated pair: its identifier or its value is incomplete
abbrev pub IsCutSetting : List ℕ → Type 0
IsCutSetting rest =
    (rest ≢ []) × ((id value : ℕ) (s more : List ℕ) → EncodesPair id value s → rest ≡ s ++ more → ⊥)

-- the rest starts with a pair that is not permitted after these pairs: its identifier is reserved,
-- or repeats that of a setting
abbrev pub IsRefused : List (ℕ × ℕ) → List ℕ → Type 0
IsRefused ps rest =
    (id value : ℕ)
    × (s more : List ℕ)
    × EncodesPair id value s
    × (rest ≡ s ++ more)
    × (IsReserved id ⊎ (IsSetting id × Contains (keys_of ps) id))

-- the error code of the first error of the payload, in byte order
abbrev pub IsSettingsFault : ErrorCode → List ℕ → Type 0
IsSettingsFault code s =
    (ps : List (ℕ × ℕ))
    × (front rest : List ℕ)
    × ArePairs ps front
    × AreFaultless ps
    × (s ≡ front ++ rest)
    × (((code ≡ Frame) × IsCutSetting rest) ⊎ ((code ≡ Settings) × IsRefused ps rest))

-- ---- the same, computed

-- the identifier and the value at the start of the bytes, and the bytes after them; None if they
-- are incomplete
unfoldable pub pair_at : List ℕ → Option ((ℕ × ℕ) × List ℕ)
pair_at bytes =
    option_and_then (λ id. option_map (λ value. ((id.0, value.0), value.1)) (number_at id.1))
    (number_at bytes)

-- the settings m after one more pair, or the error code
unfoldable pub kept_with : List (ℕ × ℕ) → ℕ × ℕ → Result (List (ℕ × ℕ)) ErrorCode
kept_with m p =
    if is_reserved p.0
    then Err Settings
    else (if is_setting p.0
    then (if is_some (value_at m p.0) then Err Settings else Ok (with_setting m p.0 p.1))
    else Ok m)

-- the result of next for a value, or Frame if there is none
abbrev pub or_cut : {A B : Type 0} → Option A → (A → Result B ErrorCode) → Result B ErrorCode
or_cut None next = Err Frame
or_cut (Some x) next = next x

-- the result of next for a value, or the error
abbrev pub or_fault :
    {A B : Type 0} → Result A ErrorCode → (A → Result B ErrorCode) → Result B ErrorCode
or_fault (Err code) next = Err code
or_fault (Ok x) next = next x

-- the settings m after the pairs that the bytes encode, at most n, or the first error
unfoldable pub settings_from : ℕ → List (ℕ × ℕ) → List ℕ → Result (List (ℕ × ℕ)) ErrorCode
settings_from n m [] = Ok m
settings_from zero m (b ∷ bs) = Err Frame
settings_from (suc n) m (b ∷ bs) =
    or_cut (pair_at (b ∷ bs)) (λ p. or_fault (kept_with m p.0) (λ kept. settings_from n kept p.1))

-- the settings that the payload contains, or its first error
unfoldable pub settings_in : List ℕ → Result (List (ℕ × ℕ)) ErrorCode
settings_in bytes = settings_from (length bytes) [] bytes

-- ---- reading and writing

-- the result of storing one more pair; allocation may fail only for a setting that is stored
abbrev pub KeepsSetting : List (ℕ × ℕ) → ℕ × ℕ → Result (Unit {0}) Refused → List (ℕ × ℕ) → Type 0
KeepsSetting old p (Ok u) new = kept_with old p ≡ Ok new
KeepsSetting old p (Err (Code code)) new = kept_with old p ≡ Err code
KeepsSetting old p (Err Memory) new = kept_with old p ≡ Ok (with_setting old p.0 p.1)

-- a prefix of the payload contains valid settings, at least one
pub record StartsWithSettings (payload : List ℕ) : Type 0 where
  pub front : List ℕ
  pub rest : List ℕ
  pub m : List (ℕ × ℕ)
  pub parts : payload ≡ front ++ rest
  pub read : settings_in front ≡ Ok m
  pub some : m ≢ []

-- the result of parsing the payload; allocation may fail only after at least one setting without an
-- error before it
abbrev pub AnswersSettings : List ℕ → Result (List (ℕ × ℕ)) Refused → Type 0
AnswersSettings payload (Ok m) = settings_in payload ≡ Ok m
AnswersSettings payload (Err (Code code)) = settings_in payload ≡ Err code
AnswersSettings payload (Err Memory) = StartsWithSettings payload

-- the parts of a written payload: for each setting the shortest encodings of its identifier and its
-- value
abbrev pub settings_parts : List (ℕ × ℕ) → List (List ℕ)
settings_parts [] = []
settings_parts (p ∷ ps) = shortest p.0 ∷ shortest p.1 ∷ settings_parts ps

-- the bytes of a written payload
abbrev pub settings_wire : List (ℕ × ℕ) → List ℕ
settings_wire m = joined (settings_parts m)

-- the bytes of place after the parts were written over them in order, up to the first part that
-- does not fit
abbrev pub overwritten : List (List ℕ) → List ℕ → List ℕ
overwritten [] place = place
overwritten (part ∷ parts) place =
    if nat_lt (length place) (length part)
    then place
    else part ++ overwritten parts (drop (length part) place)
