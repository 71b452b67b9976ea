-- Settings without a fault are read again once they are written.
use Rattle.std.proofs.Common.{◌≡◌, ℕ, ◌+◌, ◌<◌, suc, add-one, drop, drop-cons, get_or, length, inl, inr, true, false, List, [], ◌∷◌, ◌++◌, map, Some, None, Result, Ok, Err, refl, sym, ap, subst, ◌∙◌, append_assoc, append-nil}
use Rattle.std.specs.Prelude.{Contains}
use Rattle.std.specs.Map.{keys_of}
use Rattle.std.specs.List.{AllByRecursion}
use Rattle.std.proofs.lemmas.List.Elements.{All-from_recursion}
use Rattle.wtp_core.specs.Varint.{shortest}
use Rattle.wtp_core.specs.declared.error.ErrorCode.{ErrorCode}
use Rattle.wtp_core.proofs.ShortLemmas.{shortest-encodes}
use Rattle.wtp_wire.specs.declared.settings.pairs.SettingPair.{SettingPair}
use Rattle.wtp_wire.specs.declared.settings.SettingId.{SettingId}
use Rattle.wtp_wire.specs.SettingId.{IsReserved, IsSetting, is_reserved, is_setting, setting_id_of}
use Rattle.wtp_wire.proofs.SettingIdLemmas.{is_setting-true, setting-is_setting, is_reserved-true, reserved-is_reserved}
use Rattle.wtp_wire.specs.Settings.{ArePairs, AreFaultless, settings_in, settings_wire}
use Rattle.wtp_wire.specs.SettingPairs.{numbers_of, HasPairs, pair_items, setting_items}
use Rattle.wtp_wire.proofs.ValueLemmas.{contains_cases, contains_head, contains_tail, contains_none}
use Rattle.wtp_wire.proofs.PayloadLemmas.{payload_judged, settings_in-payload, settings_in-fault}
use Rattle.wtp_wire.proofs.SettingPairsLemmas.{has_pairs-items, fault-has_pairs}
use Rattle.wt_c.specs.declared.settings.WtSetting.{WtSetting}
use Rattle.wt_c.specs.Settings.{pairs_of, AreNumbers, IsFaultlessBefore}

-- ---- the pairs that are written

of_settings : List WtSetting → List SettingPair
of_settings [] = []
of_settings (s ∷ ss) = record { id = s.id; value = s.value } ∷ of_settings ss

numbers-settings : (ss : List WtSetting) → numbers_of (of_settings ss) ≡ pairs_of ss
unfolding of_settings
numbers-settings [] = refl
numbers-settings (s ∷ ss) = ap (λ (l : List (ℕ × ℕ)). (s.id, s.value) ∷ l) (numbers-settings ss)

written : (ss : List WtSetting) → AreNumbers ss → ArePairs (pairs_of ss) (settings_wire (pairs_of ss))
written [] h = refl
written (s ∷ ss) h = (
  shortest s.id ++ shortest s.value,
  settings_wire (pairs_of ss),
  record { first = shortest s.id; second = shortest s.value; parts = refl; type_number = shortest-encodes s.id h.0; number = shortest-encodes s.value h.1 },
  written ss h.2,
  sym (append_assoc (shortest s.id) (shortest s.value) (settings_wire (pairs_of ss))),
)

free : (ps : List (ℕ × ℕ)) → AreFaultless ps → AllByRecursion (λ (id : ℕ). IsReserved id → ⊥) (keys_of ps)
free [] h = tt
free (p ∷ ps) h = (h.0, free ps h.2)

has : (ss : List WtSetting) → AreNumbers ss → AreFaultless (pairs_of ss) → HasPairs (of_settings ss) None (settings_wire (pairs_of ss))
has ss numbers faultless = record {
  front = settings_wire (pairs_of ss);
  rest = [];
  pairs = rw (numbers-settings ss) (written ss numbers);
  free = rw (numbers-settings ss) (All-from_recursion (λ (id : ℕ). IsReserved id → ⊥) (keys_of (pairs_of ss)) (free (pairs_of ss) faultless));
  parts = sym (append-nil (settings_wire (pairs_of ss)));
  ending = refl;
}

-- ---- they have no fault

heads : (p q : SettingPair) (xs ys : List (Result SettingPair ErrorCode)) → Ok p ∷ xs ≡ Ok q ∷ ys → p ≡ q
heads p q xs ys e = cc

tails : (p q : SettingPair) (xs ys : List (Result SettingPair ErrorCode)) → Ok p ∷ xs ≡ Ok q ∷ ys → xs ≡ ys
tails p q xs ys e = cc

mixed : (p : SettingPair) (c : ErrorCode) (xs ys : List (Result SettingPair ErrorCode)) → Ok p ∷ xs ≡ Err c ∷ ys → ⊥
mixed p c xs ys e = let head : Ok p ≡ Err c = cc in cc

no_fault : (ps qs : List SettingPair) (code : ErrorCode) → pair_items ps None ≡ pair_items qs (Some code) → ⊥
no_fault [] [] code e = cc
no_fault [] (q ∷ qs) code e = cc
no_fault (p ∷ ps) [] code e = mixed p code (pair_items ps None) [] e
no_fault (p ∷ ps) (q ∷ qs) code e = no_fault ps qs code (tails p q (pair_items ps None) (pair_items qs (Some code)) e)

-- the pair after these is one of all pairs
contains : (ps qs : List SettingPair) (again : SettingPair) (others : List (Result SettingPair ErrorCode)) → pair_items ps None ≡ map (λ p. Ok p) qs ++ Ok again ∷ others → Contains (keys_of (numbers_of ps)) again.id
contains [] [] again others e = absurd cc
contains [] (q ∷ qs) again others e = absurd cc
contains (p ∷ ps) [] again others e = let same : p.id ≡ again.id = ap (λ (x : SettingPair). x.id) (heads p again (pair_items ps None) others e) in subst (λ (id : ℕ). Contains (p.id ∷ keys_of (numbers_of ps)) id) same (contains_head p.id (keys_of (numbers_of ps)))
contains (p ∷ ps) (q ∷ qs) again others e = contains_tail p.id (keys_of (numbers_of ps)) again.id (contains ps qs again others (tails p q (pair_items ps None) (map (λ x. Ok x) qs ++ Ok again ∷ others) e))

no_repeat : (ps qs : List SettingPair) (again : SettingPair) (others : List (Result SettingPair ErrorCode)) → AreFaultless (numbers_of ps) → pair_items ps None ≡ map (λ p. Ok p) qs ++ Ok again ∷ others → IsSetting again.id → Contains (keys_of (numbers_of qs)) again.id → ⊥
no_repeat ps [] again others f e known c = contains_none again.id c
no_repeat [] (q ∷ qs) again others f e known c = cc
no_repeat (p ∷ ps) (q ∷ qs) again others f e known c =
    let more = tails p q (pair_items ps None) (map (λ x. Ok x) qs ++ Ok again ∷ others) e in
    let head : p.id ≡ q.id = ap (λ (x : SettingPair). x.id) (heads p q (pair_items ps None) (map (λ x. Ok x) qs ++ Ok again ∷ others) e) in
    elim (contains_cases q.id (keys_of (numbers_of qs)) again.id c) [
      | inl same ↦ let id : p.id ≡ again.id = head ∙ same in f.1 (rw id known) (rw id (contains ps qs again others more))
      | inr c ↦ no_repeat ps qs again others f.2 more known c
    ]

pub faultless_read : (ss : List WtSetting) → AreNumbers ss → AreFaultless (pairs_of ss) → (m : List (ℕ × ℕ)) × (settings_in (settings_wire (pairs_of ss)) ≡ Ok m)
faultless_read ss numbers faultless = elim (payload_judged (settings_wire (pairs_of ss))) [
  | inl (m, is) ↦ (m, settings_in-payload m (settings_wire (pairs_of ss)) is)
  | inr (code, is) ↦ absurd (refuted code (settings_in-fault code (settings_wire (pairs_of ss)) is))
]
  where
    items : setting_items (settings_wire (pairs_of ss)) ≡ pair_items (of_settings ss) None
    items = has_pairs-items (of_settings ss) None (settings_wire (pairs_of ss)) (has ss numbers faultless)

    refuted : (code : ErrorCode) → settings_in (settings_wire (pairs_of ss)) ≡ Err code → ⊥
    refuted code e = let (qs, qs_faultless, fault) = fault-has_pairs code (settings_wire (pairs_of ss)) e in elim fault [
      | inl h ↦ no_fault (of_settings ss) qs code (sym items ∙ has_pairs-items qs (Some code) (settings_wire (pairs_of ss)) h)
      | inr (same, r) ↦ no_repeat (of_settings ss) qs r.again r.others (rw (numbers-settings ss) faultless) (sym items ∙ r.items) r.known r.repeated
    ]

-- ---- by a look at each setting

-- these are left of all, and none of the others has the identifier
pub record HasIdLeft (id : ℕ) (left all : List WtSetting) : Type 0 where
  pub good : Contains (keys_of (pairs_of left)) id → Contains (keys_of (pairs_of all)) id
  pub bad : Contains (keys_of (pairs_of all)) id → Contains (keys_of (pairs_of left)) id

pub id_init : (id : ℕ) (all : List WtSetting) → HasIdLeft id all all
id_init id all = record { good = λ c. c; bad = λ c. c }

pub id_none : (id : ℕ) (left all : List WtSetting) → HasIdLeft id left all → left ≡ [] → Contains (keys_of (pairs_of all)) id → ⊥
id_none id left all h e c = let none : Contains (keys_of (pairs_of [])) id = rw e at h.bad c in contains_none id none

pub id_found : (s : WtSetting) (ss left all : List WtSetting) → HasIdLeft s.id left all → left ≡ s ∷ ss → Contains (keys_of (pairs_of all)) s.id
id_found s ss left all h e = h.good (rw e (contains_head s.id (keys_of (pairs_of ss))))

pub id_more : (id : ℕ) (s : WtSetting) (ss left all : List WtSetting) → HasIdLeft id left all → left ≡ s ∷ ss → (s.id ≡ id → ⊥) → HasIdLeft id ss all
id_more id s ss left all h e other = record {
  good = λ c. h.good (rw e (contains_tail s.id (keys_of (pairs_of ss)) id c));
  bad = λ c. let b : Contains (s.id ∷ keys_of (pairs_of ss)) id = rw e at h.bad c in elim (contains_cases s.id (keys_of (pairs_of ss)) id b) [ inl same ↦ absurd (other same) | inr more ↦ more ];
}

-- the next setting has another identifier
pub id_next : (id : ℕ) (all : List WtSetting) (i : ℕ) (d : WtSetting) → HasIdLeft id (drop i all) all → i < length all → ((get_or all i d).id ≡ id → ⊥) → HasIdLeft id (drop (i + 1) all) all
id_next id all i d h below other = rw (add-one i) (id_more id (get_or all i d) (drop (suc i) all) (drop i all) all h (drop-cons all i d below) other)

-- these are left of all, and the others have no fault
pub record AreFaultlessLeft (left all : List WtSetting) : Type 0 where
  pub numbers : AreNumbers left
  pub good : AreFaultless (pairs_of left) → AreFaultless (pairs_of all)
  pub bad : AreFaultless (pairs_of all) → AreFaultless (pairs_of left)

pub faultless_more : (s : WtSetting) (ss left all : List WtSetting) → AreFaultlessLeft left all → left ≡ s ∷ ss → IsFaultlessBefore s.id ss → AreFaultlessLeft ss all
faultless_more s ss left all h e is = record {
  numbers = let n : AreNumbers (s ∷ ss) = rw e at h.numbers in n.2;
  good = λ f. h.good (rw e (is.free, is.once, f));
  bad = λ f. let g : AreFaultless (pairs_of (s ∷ ss)) = rw e at h.bad f in g.2;
}

pub faultless_not : (s : WtSetting) (ss left all : List WtSetting) → AreFaultlessLeft left all → left ≡ s ∷ ss → (IsFaultlessBefore s.id ss → ⊥) → AreFaultless (pairs_of all) → ⊥
faultless_not s ss left all h e not f = let g : AreFaultless (pairs_of (s ∷ ss)) = rw e at h.bad f in not (record { free = g.0; once = g.1 })

pub ruleset id_steps = (id_init, id_none, id_found, id_more)

pub ruleset faultless_steps = (faultless_more, faultless_not)

-- ---- one setting

pub before_reserved : (id : ℕ) (others : List WtSetting) → is_reserved id ≡ true → IsFaultlessBefore id others → ⊥
before_reserved id others t is = is.free (reserved-is_reserved id t)

pub before_unknown : (id : ℕ) (others : List WtSetting) → is_reserved id ≡ false → setting_id_of id ≡ None → IsFaultlessBefore id others
before_unknown id others f e = record {
  free = λ r. let t : is_reserved id ≡ true = is_reserved-true id r in absurd (cc);
  once = λ (known : IsSetting id). let t : is_setting id ≡ true = is_setting-true id known in let n : is_setting id ≡ false = rw e refl in absurd (cc);
}

pub before_once : (id : ℕ) (others : List WtSetting) → is_reserved id ≡ false → (Contains (keys_of (pairs_of others)) id → ⊥) → IsFaultlessBefore id others
before_once id others f n = record { free = λ r. let t : is_reserved id ≡ true = is_reserved-true id r in absurd (cc); once = λ known. n }

pub before_again : (id : ℕ) (others : List WtSetting) (setting : SettingId) → setting_id_of id ≡ Some setting → Contains (keys_of (pairs_of others)) id → IsFaultlessBefore id others → ⊥
before_again id others setting e c is = is.once (setting-is_setting id (rw e refl)) c

pub ruleset before_steps = (before_reserved, before_unknown, before_once, before_again)
