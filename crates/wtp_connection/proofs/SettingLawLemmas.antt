-- Settings in any order and with any encodings.
use Rattle.std.proofs.Common.{◌≡◌, ℕ, ◌&&◌, ◌||◌, nat_lt, Bool, true, false, cond, eqb, List, [], ◌∷◌, ◌++◌, Option, Some, None, is_some, Result, Ok, Err, refl, sym, ap, ◌∙◌, append_assoc, append-nil, inl, inr}
use Rattle.std.proofs.lemmas.Bool.{cases_Bool, eqb-true, eq-eqb}
use Rattle.std.proofs.lemmas.List.Elements.{All-from_recursion}
use Rattle.wtp_core.specs.declared.error.ErrorCode.{ErrorCode}
use Rattle.wtp_core.specs.declared.error.ErrorCode.TheVariants as code
use Rattle.wtp_frames.specs.declared.fault.Fault.TheVariants as stream
use Rattle.wtp_wire.specs.declared.settings.pairs.SettingPair.{SettingPair}
use Rattle.wtp_wire.specs.Front.{EncodesPair}
use Rattle.wtp_wire.specs.SettingId.{IsReserved, is_reserved}
use Rattle.wtp_wire.specs.Settings.{ArePairs, IsCutSetting}
use Rattle.wtp_wire.specs.SettingPairs.{setting_items}
use Rattle.wtp_wire.proofs.PairLemmas.{pair_at-encoded}
use Rattle.wtp_wire.proofs.SettingPairsLemmas.{items-nil, items-pair, items-reserved, has_pairs-items}
use Rattle.wtp_wire.proofs.SettingIdLemmas.{is_reserved-true}
use Rattle.wtp_connection.specs.declared.fault.Fault.TheVariants as fault
use Rattle.wtp_connection.specs.declared.settings.Values.{Values}
use Rattle.wtp_connection.specs.Settings.{AreValid, value_of, values_of, is_understood, is_flag, is_refused, with_defaults, settings_after, settings_in}

-- ---- the pairs of a payload

abbrev oks : List (ℕ × ℕ) → List (Result SettingPair ErrorCode)
oks [] = []
oks (p ∷ ps) = Ok (record { id = p.0; value = p.1 }) ∷ oks ps

items_pairs : (ps : List (ℕ × ℕ)) (s rest : List ℕ) → ArePairs ps s → AreValid ps → setting_items (s ++ rest) ≡ oks ps ++ setting_items rest
items_pairs [] s rest h v = ap (λ (x : List ℕ). setting_items (x ++ rest)) h
items_pairs (p ∷ ps) s rest (first, more, encoded, pairs, parts) v =
    ap (λ (x : List ℕ). setting_items (x ++ rest)) parts
    ∙ ap setting_items (append_assoc first more rest)
    ∙ items-pair (first ++ (more ++ rest)) (more ++ rest) (record { id = p.0; value = p.1 }) (pair_at-encoded p.0 p.1 first (more ++ rest) encoded) v.0
    ∙ ap (λ (l : List (Result SettingPair ErrorCode)). Ok (record { id = p.0; value = p.1 }) ∷ l) (items_pairs ps more rest pairs v.2)

-- ---- the pairs that came are the last one first

abbrev onto : List (ℕ × ℕ) → List (ℕ × ℕ) → List (ℕ × ℕ)
onto [] qs = qs
onto (p ∷ ps) qs = onto ps (p ∷ qs)

abbrev first_of : Option ℕ → Option ℕ → Option ℕ
first_of None y = y
first_of (Some x) y = Some x

first_none : (o : Option ℕ) → first_of o None ≡ o
first_none None = refl
first_none (Some x) = refl

-- a pair that may stand beside others has no value there
none_of : (b u : Bool) (o : Option ℕ) → (b || (u && is_some o)) ≡ false → u ≡ true → o ≡ None
none_of true u o e is = absurd (cc)
none_of false true None e is = refl
none_of false true (Some x) e is = absurd (cc)
none_of false false o e is = absurd (cc)

value_case : (b : Bool) (x : ℕ) (o q : Option ℕ) → (b ≡ true → o ≡ None) → first_of o (cond b (Some x) q) ≡ first_of (cond b (Some x) o) q
value_case true x o q h = ap (λ (y : Option ℕ). first_of y (Some x)) (h refl)
value_case false x o q h = refl

-- no other pair has the identifier of the first one
alone : (k : ℕ) (p : ℕ × ℕ) (ps : List (ℕ × ℕ)) → is_refused ps p.0 p.1 ≡ false → is_understood k ≡ true → eqb p.0 k ≡ true → value_of k ps ≡ None
alone k p ps v u e =
    let same : p.0 ≡ k = eqb-true p.0 k e in
    ap (λ (i : ℕ). value_of i ps) (sym same) ∙ none_of (is_flag p.0 && nat_lt 1 p.1) (is_understood p.0) (value_of p.0 ps) v (ap (λ (i : ℕ). is_understood i) same ∙ u)

value_onto : (ps qs : List (ℕ × ℕ)) (k : ℕ) → is_understood k ≡ true → AreValid ps → value_of k (onto ps qs) ≡ first_of (value_of k ps) (value_of k qs)
value_onto [] qs k u v = refl
value_onto (p ∷ ps) qs k u v =
    value_onto ps (p ∷ qs) k u v.2
    ∙ value_case (eqb p.0 k) p.1 (value_of k ps) (value_of k qs) (alone k p ps v.1 u)

value_all : (ps : List (ℕ × ℕ)) (k : ℕ) → is_understood k ≡ true → AreValid ps → value_of k (onto ps []) ≡ value_of k ps
value_all ps k u v = value_onto ps [] k u v ∙ first_none (value_of k ps)

abbrev values_by : (a b c d e f g h : Option ℕ) → Values
values_by a b c d e f g h = record {
  qpack_max_table_capacity = a;
  max_field_section_size = b;
  qpack_blocked_streams = c;
  enable_connect_protocol = d;
  h3_datagram = e;
  enable_webtransport = f;
  webtransport_max_sessions = g;
  wt_max_sessions = h;
}

values_same : (a b c d e f g h i j k l m n o p : Option ℕ) → a ≡ i → b ≡ j → c ≡ k → d ≡ l → e ≡ m → f ≡ n → g ≡ o → h ≡ p → values_by a b c d e f g h ≡ values_by i j k l m n o p
values_same a b c d e f g h i j k l m n o p x1 x2 x3 x4 x5 x6 x7 x8 =
    ap (λ (y : Option ℕ). values_by y b c d e f g h) x1
    ∙ ap (λ (y : Option ℕ). values_by i y c d e f g h) x2
    ∙ ap (λ (y : Option ℕ). values_by i j y d e f g h) x3
    ∙ ap (λ (y : Option ℕ). values_by i j k y e f g h) x4
    ∙ ap (λ (y : Option ℕ). values_by i j k l y f g h) x5
    ∙ ap (λ (y : Option ℕ). values_by i j k l m y g h) x6
    ∙ ap (λ (y : Option ℕ). values_by i j k l m n y h) x7
    ∙ ap (λ (y : Option ℕ). values_by i j k l m n o y) x8

values_all : (ps : List (ℕ × ℕ)) → AreValid ps → values_of (onto ps []) ≡ values_of ps
values_all ps v = values_same _ _ _ _ _ _ _ _ _ _ _ _ _ _ _ _ (value_all ps 0x01 refl v) (value_all ps 0x06 refl v) (value_all ps 0x07 refl v) (value_all ps 0x08 refl v) (value_all ps 0x33 refl v) (value_all ps 0x2b603742 refl v) (value_all ps 0xc671706a refl v) (value_all ps 0x14e9cd29 refl v)

-- ---- valid pairs are taken one by one

-- no identifier that is understood has a value in both
abbrev Apart : List (ℕ × ℕ) → List (ℕ × ℕ) → Type 0
Apart qs ps = (k : ℕ) → is_understood k ≡ true → is_some (value_of k ps) ≡ true → value_of k qs ≡ None

apart_case : (b : Bool) (x : ℕ) (o q : Option ℕ) → (b ≡ true → o ≡ None) → is_some o ≡ true → (is_some (cond b (Some x) o) ≡ true → q ≡ None) → cond b (Some x) q ≡ None
apart_case true x o q none is h = let e : is_some o ≡ false = ap is_some (none refl) in absurd (cc)
apart_case false x o q none is h = h is

apart_next : (p : ℕ × ℕ) (ps qs : List (ℕ × ℕ)) → is_refused ps p.0 p.1 ≡ false → Apart qs (p ∷ ps) → Apart (p ∷ qs) ps
apart_next p ps qs v apart k u is = apart_case (eqb p.0 k) p.1 (value_of k ps) (value_of k qs) (alone k p ps v u) is (apart k u)

allowed : (b u : Bool) (o q : Option ℕ) → (b || (u && is_some o)) ≡ false → (u ≡ true → q ≡ None) → (b || (u && is_some q)) ≡ false
allowed true u o q e h = absurd (cc)
allowed false true o q e h = ap is_some (h refl)
allowed false false o q e h = refl

has_own : (p : ℕ × ℕ) (ps : List (ℕ × ℕ)) → is_some (value_of p.0 (p ∷ ps)) ≡ true
has_own p ps = ap (λ (b : Bool). is_some (cond b (Some p.1) (value_of p.0 ps))) (eq-eqb p.0 p.0 refl)

take_pairs : (ps qs : List (ℕ × ℕ)) (items : List (Result SettingPair ErrorCode)) → AreValid ps → Apart qs ps → settings_after qs (oks ps ++ items) ≡ settings_after (onto ps qs) items
take_pairs [] qs items v apart = refl
take_pairs (p ∷ ps) qs items v apart =
    ap (λ (b : Bool). cond b (Err fault.Settings) (settings_after (p ∷ qs) (oks ps ++ items))) (allowed (is_flag p.0 && nat_lt 1 p.1) (is_understood p.0) (value_of p.0 ps) (value_of p.0 qs) v.1 (λ u. apart p.0 u (has_own p ps)))
    ∙ take_pairs ps (p ∷ qs) items v.2 (apart_next p ps qs v.1 apart)

-- what follows valid pairs
after_front : (ps : List (ℕ × ℕ)) (front rest : List ℕ) → ArePairs ps front → AreValid ps → settings_in (front ++ rest) ≡ settings_after (onto ps []) (setting_items rest)
unfolding settings_in
after_front ps front rest h v =
    ap (λ (l : List (Result SettingPair ErrorCode)). settings_after [] l) (items_pairs ps front rest h v)
    ∙ take_pairs ps [] (setting_items rest) v (λ k u is. refl)

pub valid_read : (ps : List (ℕ × ℕ)) (payload : List ℕ) → ArePairs ps payload → AreValid ps → settings_in payload ≡ Ok (with_defaults (values_of ps))
valid_read ps payload h v =
    ap (λ (l : List ℕ). settings_in l) (sym (append-nil payload))
    ∙ after_front ps payload [] h v
    ∙ ap (λ (l : List (Result SettingPair ErrorCode)). settings_after (onto ps []) l) items-nil
    ∙ ap (λ (x : Values). Ok (with_defaults x)) (values_all ps v)

-- ---- the first that is not valid

pub truncated : (ps : List (ℕ × ℕ)) (front rest : List ℕ) → ArePairs ps front → AreValid ps → IsCutSetting rest → settings_in (front ++ rest) ≡ Err (fault.Stream stream.Frame)
truncated ps front rest h v cut =
    after_front ps front rest h v
    ∙ ap (λ (l : List (Result SettingPair ErrorCode)). settings_after (onto ps []) l) (has_pairs-items [] (Some code.Frame) rest (record {
      front = [];
      rest = rest;
      pairs = refl;
      free = All-from_recursion (λ (id : ℕ). IsReserved id → ⊥) [] tt;
      parts = refl;
      ending = inl (refl, cut);
    }))

reserved_first : (qs : List (ℕ × ℕ)) (s more : List ℕ) (id value : ℕ) → EncodesPair id value s → is_reserved id ≡ true → settings_after qs (setting_items (s ++ more)) ≡ Err fault.Settings
reserved_first qs s more id value e is = ap (λ (l : List (Result SettingPair ErrorCode)). settings_after qs l) (items-reserved (s ++ more) more id value (pair_at-encoded id value s more e) is)

pub of_http2 : (ps : List (ℕ × ℕ)) (front s more : List ℕ) (id value : ℕ) → ArePairs ps front → AreValid ps → EncodesPair id value s → IsReserved id → settings_in (front ++ (s ++ more)) ≡ Err fault.Settings
of_http2 ps front s more id value h v e is = after_front ps front (s ++ more) h v ∙ reserved_first (onto ps []) s more id value e (is_reserved-true id is)

same_refused : (b u : Bool) (o q : Option ℕ) → (u ≡ true → q ≡ o) → (b || (u && is_some q)) ≡ (b || (u && is_some o))
same_refused true u o q h = refl
same_refused false true o q h = ap is_some (h refl)
same_refused false false o q h = refl

pub refused : (ps : List (ℕ × ℕ)) (front s more : List ℕ) (id value : ℕ) → ArePairs ps front → AreValid ps → EncodesPair id value s → is_refused ps id value ≡ true → settings_in (front ++ (s ++ more)) ≡ Err fault.Settings
refused ps front s more id value h v e is = elim (cases_Bool (is_reserved id)) [
  | inl reserved ↦ after_front ps front (s ++ more) h v ∙ reserved_first (onto ps []) s more id value e reserved
  | inr free ↦
      after_front ps front (s ++ more) h v
      ∙ ap (λ (l : List (Result SettingPair ErrorCode)). settings_after (onto ps []) l) (items-pair (s ++ more) more (record { id = id; value = value }) (pair_at-encoded id value s more e) free)
      ∙ ap (λ (b : Bool). cond b (Err fault.Settings) (settings_after ((id, value) ∷ onto ps []) (setting_items more))) (same_refused (is_flag id && nat_lt 1 value) (is_understood id) (value_of id ps) (value_of id (onto ps [])) (λ u. value_all ps id u v) ∙ is)
]
