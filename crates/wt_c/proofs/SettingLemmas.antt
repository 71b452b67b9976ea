-- Settings that are stored in an array, or written, one after the other.
use Rattle.std.proofs.Common.{◌≡◌, ℕ, ◌+◌, ◌<◌, ◌≤◌, zero, suc, inl, inr, List, [], ◌∷◌, Option, Some, None, Result, Ok, Err}
use Rattle.std.proofs.lemmas.Bool.{cases_Bool}
use Rattle.wtp_wire.specs.SettingId.{is_reserved}
use Rattle.std.proofs.Common.{◌++◌, length, take, drop, refl, sym, ap, ◌∙◌, arith}
use Rattle.std.proofs.Common.{slice_set}
use Rattle.std.proofs.lemmas.List.{take_more_set, length-set, drop-set-lt}
use Rattle.wtp_core.specs.declared.error.ErrorCode.{ErrorCode}
use Rattle.wtp_wire.specs.declared.settings.pairs.SettingPair.{SettingPair}
use Rattle.wtp_wire.specs.Settings.{pair_at, settings_in, settings_wire}
use Rattle.wtp_wire.specs.SettingPairs.{numbers_of, pair_items, items_at, items_within, setting_items}
use Rattle.wtp_wire.proofs.SettingPairsLemmas.{has_pairs-items, settings-has_pairs}
use Rattle.wt_c.specs.declared.settings.WtSetting.{WtSetting}
use Rattle.wt_c.specs.Settings.{pairs_of, HoldSettings, LackSettings, ArePairsOf, AreNumbers}
use Rattle.wt_c.proofs.FieldLemmas.{later}

-- ---- stored in an array

-- the pairs of items without an error
abbrev pub pairs_left : List (Result SettingPair ErrorCode) → List (ℕ × ℕ)
pairs_left [] = []
pairs_left (Ok p ∷ items) = (p.id, p.value) ∷ pairs_left items
pairs_left (Err code ∷ items) = pairs_left items

abbrev pub AreNoFaults : List (Result SettingPair ErrorCode) → Type 0
AreNoFaults [] = Unit {0}
AreNoFaults (Ok p ∷ items) = AreNoFaults items
AreNoFaults (Err code ∷ items) = ⊥

-- the first n settings of the array are the pairs before `left`, and the rest of the array is
-- unchanged
pub record IsPutting (old settings : List WtSetting) (n : ℕ) (left all : List (Result SettingPair ErrorCode)) (count : ℕ) : Type 0 where
  pub says : pairs_of (take n settings) ++ pairs_left left ≡ pairs_left all
  pub sum : n + length left ≡ count
  pub total : count ≡ length all
  pub room : count ≤ length settings
  pub after : drop n settings ≡ drop n old
  pub free : AreNoFaults left

append_none : (s : List (ℕ × ℕ)) → s ++ [] ≡ s
append_none [] = refl
append_none (x ∷ s) = ap (λ (l : List (ℕ × ℕ)). x ∷ l) (append_none s)

numbers_left : (ps : List SettingPair) → pairs_left (pair_items ps None) ≡ numbers_of ps
numbers_left [] = refl
numbers_left (p ∷ ps) = ap (λ (l : List (ℕ × ℕ)). (p.id, p.value) ∷ l) (numbers_left ps)

count_left : (ps : List SettingPair) → length (pair_items ps None) ≡ length (numbers_of ps)
count_left [] = refl
count_left (p ∷ ps) = ap (λ (n : ℕ). suc n) (count_left ps)

no_faults : (ps : List SettingPair) → AreNoFaults (pair_items ps None)
no_faults [] = tt
no_faults (p ∷ ps) = no_faults ps

items_of : (payload : List ℕ) (ps : List SettingPair) → ArePairsOf payload ps → setting_items payload ≡ pair_items ps None
items_of payload ps are = has_pairs-items ps None payload are.pairs

pub begins : (payload : List ℕ) (ps : List SettingPair) (settings : List WtSetting) (items all : List (Result SettingPair ErrorCode)) (count : ℕ) → ArePairsOf payload ps → items ≡ setting_items payload → all ≡ setting_items payload → count ≡ length all → count ≤ length settings
    → IsPutting settings settings 0 items all count
begins payload ps settings items all count are e f c room = record {
  says = rw (e, f) refl;
  sum = let l : length items ≡ length all = ap length (e ∙ sym f) in omega (arith, l, c);
  total = c;
  room = room;
  after = refl;
  free = rw (e ∙ items_of payload ps are) (no_faults ps);
}

pub put_all : (payload : List ℕ) (ps : List SettingPair) (old settings : List WtSetting) (n : ℕ) (left all : List (Result SettingPair ErrorCode)) (count : ℕ) → ArePairsOf payload ps → all ≡ setting_items payload → IsPutting old settings n left all count → left ≡ [] → HoldSettings old settings count (numbers_of ps)
put_all payload ps old settings n left all count are f p e =
    let len : length left ≡ 0 = ap length e in
    let s = p.sum in
    let same : n ≡ count = omega (arith, s, len) in
    let all_is : all ≡ pair_items ps None = f ∙ items_of payload ps are in
    record {
      count_is = p.total ∙ ap length all_is ∙ count_left ps;
      room = p.room;
      says = rw (← same) (sym (append_none (pairs_of (take n settings))) ∙ ap (λ (x : List (Result SettingPair ErrorCode)). pairs_of (take n settings) ++ pairs_left x) (sym e) ∙ p.says ∙ ap pairs_left all_is ∙ numbers_left ps);
      after = rw (← same) p.after;
    }

items_one : (n : ℕ) → ((rest : List ℕ) → length (items_within n rest) ≤ n) → (o : Option ((ℕ × ℕ) × List ℕ)) → length (items_at (λ rest. items_within n rest) o) ≤ suc n
items_one n h None = omega arith
items_one n h (Some p) = elim (cases_Bool (is_reserved p.0.0)) [ inl t ↦ rw t (omega arith) | inr t ↦ rw t (let few = h p.1 in omega (arith, few)) ]

items_few : (n : ℕ) (bytes : List ℕ) → length (items_within n bytes) ≤ n
unfolding items_within
items_few n [] = omega arith
items_few zero (b ∷ bs) = omega arith
items_few (suc n) (b ∷ bs) = items_one n (λ rest. items_few n rest) (pair_at (b ∷ bs))

few_items : (payload : List ℕ) → length (setting_items payload) ≤ length payload
unfolding setting_items
few_items payload = items_few (length payload) payload

-- n items of the payload were counted, and these are left
pub record IsCounting (n : ℕ) (left : List (Result SettingPair ErrorCode)) (payload : List ℕ) : Type 0 where
  pub sum : n + length left ≡ length (setting_items payload)
  pub few : length (setting_items payload) ≤ length payload

pub counting : (items : List (Result SettingPair ErrorCode)) (payload : List ℕ) → items ≡ setting_items payload → IsCounting 0 items payload
counting items payload e = record { sum = let l : length items ≡ length (setting_items payload) = ap length e in omega (arith, l); few = few_items payload }

pub lacks : (payload : List ℕ) (ps : List SettingPair) (settings : List WtSetting) (count : ℕ) → ArePairsOf payload ps → count ≡ length (setting_items payload) → length settings < count → LackSettings settings count (numbers_of ps)
lacks payload ps settings count are c short = record { count_is = c ∙ ap length (items_of payload ps are) ∙ count_left ps; short = short }

pairs_more : (ws : List WtSetting) (w : WtSetting) (more : List (ℕ × ℕ)) → pairs_of (ws ++ w ∷ []) ++ more ≡ pairs_of ws ++ ((w.id, w.value) ∷ more)
pairs_more [] w more = refl
pairs_more (v ∷ ws) w more = ap (λ (l : List (ℕ × ℕ)). (v.id, v.value) ∷ l) (pairs_more ws w more)

-- one more setting is stored
pub one_put : (old settings : List WtSetting) (n : ℕ) (p : SettingPair) (left more all : List (Result SettingPair ErrorCode)) (count : ℕ) → IsPutting old settings n left all count → left ≡ Ok p ∷ more
    → IsPutting old (slice_set settings n (record { id = p.id; value = p.value })) (n + 1) more all count
one_put old settings n p left more all count h e =
    let len : length left ≡ suc (length more) = ap length e in
    let sum = h.sum in
    let fits = h.room in
    let below : n < length settings = omega (arith, sum, fits, len) in
    let w : WtSetting = record { id = p.id; value = p.value } in
    let left_is : pairs_left left ≡ (p.id, p.value) ∷ pairs_left more = ap pairs_left e in
    record {
      says = rw (take_more_set settings n w below) (pairs_more (take n settings) w (pairs_left more) ∙ ap (λ (x : List (ℕ × ℕ)). pairs_of (take n settings) ++ x) (sym left_is) ∙ h.says);
      sum = omega (arith, sum, len);
      total = h.total;
      room = omega (arith, fits, length-set settings n w);
      after = drop-set-lt (n + 1) settings n w (omega arith) ∙ later n 1 settings old h.after;
      free = let f : AreNoFaults (Ok p ∷ more) = rw e at h.free in f;
    }

pub payload_pairs : (payload : List ℕ) (m : List (ℕ × ℕ)) → settings_in payload ≡ Ok m → (ps : List SettingPair) × ArePairsOf payload ps
payload_pairs payload m e = let (ps, has, faultless, kept) = settings-has_pairs m payload e in (ps, record { pairs = has; faultless = faultless })

-- ---- written

-- the payload followed by the settings in `left` is the payload of the settings in `all`
pub record IsWriting (payload : List ℕ) (left all : List WtSetting) : Type 0 where
  pub bytes : payload ++ settings_wire (pairs_of left) ≡ settings_wire (pairs_of all)
  pub numbers : AreNumbers left
  pub none : all ≡ [] → left ≡ []
