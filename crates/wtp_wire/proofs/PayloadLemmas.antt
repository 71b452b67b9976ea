-- The computed settings of a payload, or its error, are those of the grammar.
use Rattle.std.proofs.Common.{◌≡◌, ℕ, suc, zero, true, ◌^◌, ◌<◌, ◌≤◌, List, [], ◌∷◌, ◌++◌, length, Option, Some, None, Result, Ok, Err, refl, sym, ap, ◌∙◌, append_assoc, append-nil, arith, inl, inr, ◌⊎◌}
use Rattle.std.specs.Ordering.{nat_cmp}
use Rattle.std.specs.Map.{keys_of, values_of}
use Rattle.std.specs.List.{AllByRecursion, Contains}
use Rattle.std.specs.List.Sorted.{IsStrictlySortedBy}
use Rattle.std.specs.declared.cmp.Ordering.TheVariants.{Less}
use Rattle.std.proofs.lemmas.List.Elements.{recursion_from_All}
use Rattle.std.proofs.lemmas.Map.Keys.{sorted_head, sorted_tail}
use Rattle.wtp_core.specs.declared.error.ErrorCode.{ErrorCode}
use Rattle.wtp_core.specs.declared.error.ErrorCode.TheVariants.{Frame, Settings}
use Rattle.wtp_core.specs.Varint.{shortest}
use Rattle.wtp_core.proofs.ShortLemmas.{shortest-encodes}
use Rattle.wtp_wire.specs.SettingId.{IsSetting, IsReserved, is_setting}
use Rattle.wtp_wire.specs.Front.{EncodesPair}
use Rattle.wtp_wire.specs.Settings.{IsSettings, value_at, ArePairs, AreFaultless, IsPayload, IsCutSetting, IsSettingsFault, pair_at, kept_with, settings_in, or_fault, with_setting, settings_wire}
use Rattle.wtp_wire.proofs.SettingIdLemmas.{setting-is_setting, setting_not_reserved}
use Rattle.wtp_wire.proofs.SettingsLemmas.{nat_cmp-less}
use Rattle.wtp_wire.proofs.ValueLemmas.{all_contains, contains_key, contains_number, value_contained, contained_value}
use Rattle.wtp_wire.proofs.FrontLemmas.{found}
use Rattle.wtp_wire.proofs.PairLemmas.{pair_at-encoded, pair_at-begins, pair_at-shorter, read_from, read_from-nil, read_from-pair, read_from-cut, settings_in-from}
use Rattle.wtp_wire.proofs.KeptLemmas.{Refuses, kept, kept_with-cases, kept-all, kept-faultless, kept-are_kept, kept-is, or_fault-same, or_fault-chain, kept-append}

-- ---- from the grammar to the computation

-- the pairs at the start are stored in order
read_from-pairs : (ps m : List (ℕ × ℕ)) (s rest : List ℕ) → ArePairs ps s → read_from m (s ++ rest) ≡ or_fault (kept m ps) (λ k. read_from k rest)
read_from-pairs [] m s rest h = ap (λ (x : List ℕ). read_from m (x ++ rest)) h
read_from-pairs (p ∷ ps) m s rest (first, more, encoded, pairs, parts) =
    ap (λ (x : List ℕ). read_from m (x ++ rest)) parts
    ∙ ap (λ (x : List ℕ). read_from m x) (append_assoc first more rest)
    ∙ read_from-pair m (first ++ (more ++ rest)) (more ++ rest) p.0 p.1 (pair_at-encoded p.0 p.1 first (more ++ rest) encoded)
    ∙ or_fault-same (kept_with m p) (λ k. read_from k (more ++ rest)) (λ k. or_fault (kept k ps) (λ j. read_from j rest)) (λ k. read_from-pairs ps k more rest pairs)
    ∙ sym (or_fault-chain m p ps (λ j. read_from j rest))

settings_in-pairs : (ps m : List (ℕ × ℕ)) (s rest : List ℕ) → ArePairs ps s → kept [] ps ≡ Ok m → settings_in (s ++ rest) ≡ read_from m rest
settings_in-pairs ps m s rest h e = settings_in-from (s ++ rest) ∙ read_from-pairs ps [] s rest h ∙ ap (λ (r : Result (List (ℕ × ℕ)) ErrorCode). or_fault r (λ k. read_from k rest)) e

pub settings_in-payload : (m : List (ℕ × ℕ)) (s : List ℕ) → IsPayload m s → settings_in s ≡ Ok m
settings_in-payload m s (ps, pairs, faultless, are) = ap settings_in (sym (append-nil s)) ∙ settings_in-pairs ps m s [] pairs (kept-is ps m faultless are) ∙ read_from-nil m

not_none : (x : (ℕ × ℕ) × List ℕ) (o : Option ((ℕ × ℕ) × List ℕ)) → o ≡ None → o ≡ Some x → ⊥
not_none x o d e = cc

cut-none : (rest : List ℕ) → IsCutSetting rest → pair_at rest ≡ None
cut-none rest (some, none) = elim (found (pair_at rest)) [
  | inl e ↦ e
  | inr ((p, more), e) ↦ let h = pair_at-begins rest more p.0 p.1 e in absurd (none p.0 p.1 h.s more h.encoded h.parts)
]

-- a pair that is not permitted after the settings m
refused-fault : (m : List (ℕ × ℕ)) (p : ℕ × ℕ) (rest more : List ℕ) → pair_at rest ≡ Some (p, more) → Refuses m p → read_from m rest ≡ Err Settings
refused-fault m p rest more e r = read_from-pair m rest more p.0 p.1 e ∙ ap (λ (x : Result (List (ℕ × ℕ)) ErrorCode). or_fault x (λ k. read_from k more)) r.is

none_some : (v : ℕ) (o : Option ℕ) → o ≡ Some v → o ≡ None → ⊥
none_some v o d e = cc

-- a reserved or repeated identifier after the pairs ps, whose settings are m
refused_after : (ps m : List (ℕ × ℕ)) (id value : ℕ) → kept [] ps ≡ Ok m → IsReserved id ⊎ (IsSetting id × Contains (keys_of ps) id) → Refuses m (id, value)
refused_after ps m id value e cause = elim (kept_with-cases m (id, value)) [
  | inl r ↦ r
  | inr o ↦ elim o [
    | inl i ↦ absurd (elim cause [ inl reserved ↦ i.free reserved | inr again ↦ i.unknown again.0 ])
    | inr k ↦ elim cause [
      | inl reserved ↦ absurd (k.free reserved)
      | inr again ↦ let (v, c) = contains_number ps id again.1 in absurd (none_some v (value_at m id) (((kept-are_kept ps m e).same id v).1 (again.0, c)) k.new)
    ]
  ]
]

pub settings_in-fault : (code : ErrorCode) (s : List ℕ) → IsSettingsFault code s → settings_in s ≡ Err code
settings_in-fault code s (ps, front, rest, pairs, faultless, parts, fault) =
    let (m, e) = kept-faultless ps [] faultless (λ id value c known. refl) in
    ap settings_in parts ∙ settings_in-pairs ps m front rest pairs e ∙ elim fault [
      | inl cut ↦ read_from-cut m rest cut.1.0 (cut-none rest cut.1) ∙ ap (λ (c : ErrorCode). Err c) (sym cut.0)
      | inr bad ↦
          let (id, value, t, more, encoded, behind, cause) = bad.1 in
          let at : pair_at rest ≡ Some ((id, value), more) = rw behind (pair_at-encoded id value t more encoded) in
          refused-fault m (id, value) rest more at (refused_after ps m id value e cause) ∙ ap (λ (c : ErrorCode). Err c) (sym bad.0)
    ]

-- ---- from the computation to the grammar

pairs-push : (ps : List (ℕ × ℕ)) (id value : ℕ) (front s : List ℕ) → ArePairs ps front → EncodesPair id value s → ArePairs (ps ++ (id, value) ∷ []) (front ++ s)
pairs-push [] id value front s h encoded = (s, [], encoded, refl, ap (λ (x : List ℕ). x ++ s) h ∙ sym (append-nil s))
pairs-push (p ∷ ps) id value front s (first, more, one, pairs, parts) encoded = (first, more ++ s, one, pairs-push ps id value more s pairs encoded, ap (λ (x : List ℕ). x ++ s) parts ∙ append_assoc first more s)

-- the payload contains valid settings, or has an error
abbrev Judged : List ℕ → Type 0
Judged s = ((m : List (ℕ × ℕ)) × IsPayload m s) ⊎ ((code : ErrorCode) × IsSettingsFault code s)

refused_cause : (ps m : List (ℕ × ℕ)) (p : ℕ × ℕ) → kept [] ps ≡ Ok m → Refuses m p → IsReserved p.0 ⊎ (IsSetting p.0 × Contains (keys_of ps) p.0)
refused_cause ps m p e r = elim r.cause [
  | inl reserved ↦ inl reserved
  | inr again ↦ inr (again.0, contains_key ps p.0 again.1.0 (((kept-are_kept ps m e).same p.0 again.1.0).0 again.1.1).1)
]

one_more : (ps m k : List (ℕ × ℕ)) (p : ℕ × ℕ) → kept [] ps ≡ Ok m → kept_with m p ≡ Ok k → kept [] (ps ++ p ∷ []) ≡ Ok k
one_more ps m k p e step = kept-append ps (p ∷ []) [] ∙ ap (λ (r : Result (List (ℕ × ℕ)) ErrorCode). or_fault r (λ j. kept j (p ∷ []))) e ∙ ap (λ (r : Result (List (ℕ × ℕ)) ErrorCode). or_fault r (λ j. kept j [])) step

-- the pair after the pairs ps is an error, or the rest after it decides
pair_judged : (ps m : List (ℕ × ℕ)) (p : ℕ × ℕ) (front rest more : List ℕ) → ArePairs ps front → kept [] ps ≡ Ok m → pair_at rest ≡ Some (p, more) → ((k : List (ℕ × ℕ)) (s : List ℕ) → ArePairs (ps ++ p ∷ []) (front ++ s) → kept [] (ps ++ p ∷ []) ≡ Ok k → Judged ((front ++ s) ++ more)) → Judged (front ++ rest)
pair_judged ps m p front rest more pairs e at next =
    let h = pair_at-begins rest more p.0 p.1 at in
    let whole : front ++ rest ≡ (front ++ h.s) ++ more = ap (λ (x : List ℕ). front ++ x) h.parts ∙ sym (append_assoc front h.s more) in
    let longer = pairs-push ps p.0 p.1 front h.s pairs h.encoded in
    elim (kept_with-cases m p) [
      | inl r ↦ inr (Settings, (ps, front, rest, pairs, (kept-all ps [] m e).faultless, refl, inr (refl, (p.0, p.1, h.s, more, h.encoded, h.parts, refused_cause ps m p e r))))
      | inr o ↦ elim o [
        | inl i ↦ rw whole (next m h.s longer (one_more ps m m p e i.is))
        | inr k ↦ rw whole (next (with_setting m p.0 p.1) h.s longer (one_more ps m (with_setting m p.0 p.1) p e k.is))
      ]
    ]

judged : (n : ℕ) (ps m : List (ℕ × ℕ)) (front rest : List ℕ) → length rest ≤ n → ArePairs ps front → kept [] ps ≡ Ok m → Judged (front ++ rest)
judged n ps m front [] h pairs e = inl (m, (ps, rw (append-nil front) pairs, (kept-all ps [] m e).faultless, kept-are_kept ps m e))
judged zero ps m front (b ∷ bs) h pairs e = absurd (omega arith)
judged (suc n) ps m front (b ∷ bs) h pairs e = elim (found (pair_at (b ∷ bs))) [
  | inl none ↦ inr (Frame, (ps, front, b ∷ bs, pairs, (kept-all ps [] m e).faultless, refl, inl (refl, (λ nil. absurd (cc), λ id value s more encoded parts. not_none ((id, value), more) (pair_at (b ∷ bs)) none (rw parts (pair_at-encoded id value s more encoded))))))
  | inr ((p, more), at) ↦
      let short : length more < length (b ∷ bs) = pair_at-shorter (b ∷ bs) more p.0 p.1 at in
      pair_judged ps m p front (b ∷ bs) more pairs e at (λ k s longer kept. judged n (ps ++ p ∷ []) k (front ++ s) more (omega arith) longer kept)
]

pub payload_judged : (s : List ℕ) → Judged s
payload_judged s = judged (length s) [] [] [] s (omega arith) refl refl

-- ---- written settings are read back

pairs-wire : (m : List (ℕ × ℕ)) → AllByRecursion (λ (id : ℕ). id < 2 ^ 62) (keys_of m) → AllByRecursion (λ (v : ℕ). v < 2 ^ 62) (values_of m) → ArePairs m (settings_wire m)
pairs-wire [] h k = refl
pairs-wire (p ∷ m) h k = (
  shortest p.0 ++ shortest p.1,
  settings_wire m,
  record { first = shortest p.0; second = shortest p.1; parts = refl; type_number = shortest-encodes p.0 h.0; number = shortest-encodes p.1 k.0 },
  pairs-wire m h.1 k.1,
  sym (append_assoc (shortest p.0) (shortest p.1) (settings_wire m)),
)

faultless-settings : (m : List (ℕ × ℕ)) → IsStrictlySortedBy nat_cmp (keys_of m) → AllByRecursion (λ (id : ℕ). is_setting id ≡ true) (keys_of m) → AreFaultless m
faultless-settings [] h k = tt
faultless-settings (p ∷ m) h k = (
  setting_not_reserved p.0 (setting-is_setting p.0 k.0),
  λ known again. let below : p.0 < p.0 = nat_cmp-less p.0 p.0 (all_contains (λ (id : ℕ). nat_cmp p.0 id ≡ Less) (keys_of m) p.0 (sorted_head nat_cmp p.0 (keys_of m) h) again) in omega arith,
  faultless-settings m (sorted_tail nat_cmp p.0 (keys_of m) h) k.1,
)

pub settings_in-wire : (m : List (ℕ × ℕ)) (h : IsSettings m) → settings_in (settings_wire m) ≡ Ok m
settings_in-wire m h =
    let known = recursion_from_All (λ (id : ℕ). is_setting id ≡ true) (keys_of m) h.known in
    let ids = recursion_from_All (λ (id : ℕ). id < 2 ^ 62) (keys_of m) h.ids in
    let values = recursion_from_All (λ (v : ℕ). v < 2 ^ 62) (values_of m) h.values in
    settings_in-payload m (settings_wire m) (
      m,
      pairs-wire m ids values,
      faultless-settings m h.rising known,
      record {
        rising = h.rising;
        same = λ id value. (
          λ v. let c = value_contained m id value v in (setting-is_setting id (all_contains (λ (i : ℕ). is_setting i ≡ true) (keys_of m) id known (contains_key m id value c)), c),
          λ c. contained_value m id value h.rising c.1,
        );
      },
    )
