-- Reading settings pair by pair.
use Rattle.std.proofs.Common.{◌≡◌, ℕ, ◌==◌, ◌&&◌, ◌||◌, nat_lt, Bool, true, false, cond, eqb, List, [], ◌∷◌, Option, None, is_some, Result, Ok, Err, refl, sym, ap, ◌∙◌}
use Rattle.std.proofs.lemmas.Bool.{eqb-true}
use Rattle.wtp_core.specs.declared.error.ErrorCode.{ErrorCode}
use Rattle.wtp_wire.specs.declared.settings.pairs.SettingPair.{SettingPair}
use Rattle.wtp_wire.specs.SettingPairs.{setting_items}
use Rattle.wtp_connection.specs.declared.fault.Fault.{Fault}
use Rattle.wtp_connection.specs.declared.fault.Fault.TheVariants as fault
use Rattle.wtp_connection.specs.declared.settings.Values.{Values}
use Rattle.wtp_connection.specs.Settings.{value_of, values_of, is_understood, is_flag, is_refused, settings_after, settings_in, held, taken, with_item}

-- the values are those of the pairs so far, and the rest of the payload follows
abbrev pub IsReading : Values → List (Result SettingPair ErrorCode) → List ℕ → Type 0
IsReading v items payload = (ps : List (ℕ × ℕ)) × (v ≡ values_of ps) × (settings_after ps items ≡ settings_in payload)

pub starts : (v : Values) (items : List (Result SettingPair ErrorCode)) (payload : List ℕ) → v ≡ values_of [] → items ≡ setting_items payload → IsReading v items payload
unfolding settings_in
starts v items payload e is = ([], e, ap (λ (l : List (Result SettingPair ErrorCode)). settings_after [] l) is)

-- ---- a value is held exactly if the identifier is understood and has one

held_case : (b u : Bool) (value : Option ℕ) (x y : Option ℕ) → (b ≡ true → value ≡ x) → is_some y ≡ (u && is_some x) → is_some (cond b value y) ≡ ((b || u) && is_some x)
held_case true u value x y e is = ap is_some (e refl)
held_case false u value x y e is = is

same_value : (id n : ℕ) (ps : List (ℕ × ℕ)) → eqb id n ≡ true → value_of n ps ≡ value_of id ps
same_value id n ps e = ap (λ (k : ℕ). value_of k ps) (sym (eqb-true id n e))

held_none : (b : Bool) (x y : Option ℕ) → (b ≡ true → y ≡ x) → is_some (cond b y None) ≡ (b && is_some x)
held_none true x y e = ap is_some (e refl)
held_none false x y e = refl

pub held_is : (id : ℕ) (ps : List (ℕ × ℕ)) → is_some (held (values_of ps) id) ≡ (is_understood id && is_some (value_of id ps))
held_is id ps =
    held_case (id == 0x01) _ (value_of 0x01 ps) (value_of id ps) _ (same_value id 0x01 ps) (
    held_case (id == 0x06) _ (value_of 0x06 ps) (value_of id ps) _ (same_value id 0x06 ps) (
    held_case (id == 0x07) _ (value_of 0x07 ps) (value_of id ps) _ (same_value id 0x07 ps) (
    held_case (id == 0x08) _ (value_of 0x08 ps) (value_of id ps) _ (same_value id 0x08 ps) (
    held_case (id == 0x33) _ (value_of 0x33 ps) (value_of id ps) _ (same_value id 0x33 ps) (
    held_case (id == 0x2b603742) _ (value_of 0x2b603742 ps) (value_of id ps) _ (same_value id 0x2b603742 ps) (
    held_case (id == 0xc671706a) _ (value_of 0xc671706a ps) (value_of id ps) _ (same_value id 0xc671706a ps) (
    held_none (id == 0x14e9cd29) (value_of id ps) (value_of 0x14e9cd29 ps) (same_value id 0x14e9cd29 ps))))))))

abbrev taken_or : Bool → Values → Result Values Fault
taken_or b v = cond b (Err fault.Settings) (Ok v)

-- a pair is taken after these
pub taken_is : (id value : ℕ) (ps : List (ℕ × ℕ)) → taken (values_of ps) id value ≡ taken_or (is_refused ps id value) (values_of ((id, value) ∷ ps))
taken_is id value ps = ap (λ (b : Bool). taken_or ((is_flag id && nat_lt 1 value) || b) (values_of ((id, value) ∷ ps))) (held_is id ps)

taken_case : (b : Bool) (v w : Values) → taken_or b v ≡ Ok w → (b ≡ false) × (v ≡ w)
taken_case true v w e = absurd (cc)
taken_case false v w e = (refl, cc)

-- ---- the moves of the loop

take_pair : (id value : ℕ) (ps : List (ℕ × ℕ)) (w : Values) (items : List (Result SettingPair ErrorCode)) (payload : List ℕ) → taken (values_of ps) id value ≡ Ok w → settings_after ps (Ok (record { id = id; value = value }) ∷ items) ≡ settings_in payload → IsReading w items payload
take_pair id value ps w items payload t is =
    let h = taken_case (is_refused ps id value) (values_of ((id, value) ∷ ps)) w (sym (taken_is id value ps) ∙ t) in
    ((id, value) ∷ ps, sym h.1, ap (λ (b : Bool). cond b (Err fault.Settings) (settings_after ((id, value) ∷ ps) items)) (sym h.0) ∙ is)

take_item : (item : Result SettingPair ErrorCode) (ps : List (ℕ × ℕ)) (w : Values) (items : List (Result SettingPair ErrorCode)) (payload : List ℕ) → with_item (values_of ps) item ≡ Ok w → settings_after ps (item ∷ items) ≡ settings_in payload → IsReading w items payload
take_item (Ok p) ps w items payload t is = take_pair p.id p.value ps w items payload t is
take_item (Err e) ps w items payload t is = absurd (cc)

first_is : (item : Result SettingPair ErrorCode) (ps : List (ℕ × ℕ)) (left items : List (Result SettingPair ErrorCode)) (payload : List ℕ) → left ≡ item ∷ items → settings_after ps left ≡ settings_in payload → settings_after ps (item ∷ items) ≡ settings_in payload
first_is item ps left items payload first is = ap (λ (l : List (Result SettingPair ErrorCode)). settings_after ps l) (sym first) ∙ is

pub goes_on : (v w : Values) (item : Result SettingPair ErrorCode) (left items : List (Result SettingPair ErrorCode)) (payload : List ℕ) → IsReading v left payload → left ≡ item ∷ items → Ok w ≡ with_item v item → IsReading w items payload
goes_on v w item left items payload (ps, e, is) first t = take_item item ps w items payload (ap (λ (x : Values). with_item x item) (sym e) ∙ sym t) (first_is item ps left items payload first is)
