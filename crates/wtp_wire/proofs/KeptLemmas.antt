-- The settings stored from the pairs of a payload.
use Rattle.std.proofs.Common.{◌≡◌, ◌≢◌, ℕ, List, [], ◌∷◌, ◌++◌, true, false, Option, Some, None, Result, Ok, Err, refl, sym, ap, ◌∙◌, inl, inr, ◌⊎◌, ◌↔◌}
use Rattle.std.proofs.lemmas.Bool.{cases_Bool, cases_eq, both_ways}
use Rattle.std.specs.Ordering.{nat_cmp}
use Rattle.std.specs.Map.{keys_of}
use Rattle.std.specs.List.{Contains}
use Rattle.std.specs.List.Sorted.{IsStrictlySortedBy}
use Rattle.wtp_core.specs.declared.error.ErrorCode.{ErrorCode}
use Rattle.wtp_core.specs.declared.error.ErrorCode.TheVariants.{Settings}
use Rattle.wtp_wire.specs.SettingId.{IsSetting, IsReserved, is_setting, is_reserved}
use Rattle.wtp_wire.specs.Settings.{value_at, with_setting, AreFaultless, AreKept, kept_with, or_fault}
use Rattle.wtp_wire.proofs.SettingIdLemmas.{is_setting-true, setting-is_setting, is_reserved-true, reserved-is_reserved}
use Rattle.wtp_wire.proofs.ValueLemmas.{contains_cases, contains_head, contains_tail, contains_none, contains_number, contains_key, value_at-set, value_at-kept, rising_none, rising-with, same_values}

-- ---- one pair

-- the pair is an error after the settings m
pub record Refuses (m : List (ℕ × ℕ)) (p : ℕ × ℕ) : Type 0 where
  pub is : kept_with m p ≡ Err Settings
  pub cause : IsReserved p.0 ⊎ (IsSetting p.0 × ((value : ℕ) × (value_at m p.0 ≡ Some value)))

-- the pair is ignored
pub record Ignores (m : List (ℕ × ℕ)) (p : ℕ × ℕ) : Type 0 where
  pub is : kept_with m p ≡ Ok m
  pub free : IsReserved p.0 → ⊥
  pub unknown : IsSetting p.0 → ⊥

-- the pair is stored
pub record Keeps (m : List (ℕ × ℕ)) (p : ℕ × ℕ) : Type 0 where
  pub is : kept_with m p ≡ Ok (with_setting m p.0 p.1)
  pub free : IsReserved p.0 → ⊥
  pub known : IsSetting p.0
  pub new : value_at m p.0 ≡ None

kept_with-reserved : (m : List (ℕ × ℕ)) (p : ℕ × ℕ) → is_reserved p.0 ≡ true → kept_with m p ≡ Err Settings
unfolding kept_with
kept_with-reserved m p r = rw r refl

kept_with-unknown : (m : List (ℕ × ℕ)) (p : ℕ × ℕ) → is_reserved p.0 ≡ false → is_setting p.0 ≡ false → kept_with m p ≡ Ok m
unfolding kept_with
kept_with-unknown m p r s = rw (r, s) refl

kept_with-again : (m : List (ℕ × ℕ)) (p : ℕ × ℕ) (v : ℕ) → is_reserved p.0 ≡ false → is_setting p.0 ≡ true → value_at m p.0 ≡ Some v → kept_with m p ≡ Err Settings
unfolding kept_with
kept_with-again m p v r s had = rw (r, s, had) refl

kept_with-new : (m : List (ℕ × ℕ)) (p : ℕ × ℕ) → is_reserved p.0 ≡ false → is_setting p.0 ≡ true → value_at m p.0 ≡ None → kept_with m p ≡ Ok (with_setting m p.0 p.1)
unfolding kept_with
kept_with-new m p r s had = rw (r, s, had) refl

not_reserved : (id : ℕ) → is_reserved id ≡ false → IsReserved id → ⊥
not_reserved id f r = both_ways (is_reserved id) f (is_reserved-true id r)

pub kept_with-cases : (m : List (ℕ × ℕ)) (p : ℕ × ℕ) → Refuses m p ⊎ (Ignores m p ⊎ Keeps m p)
kept_with-cases m p = elim (cases_Bool (is_reserved p.0)) [
  | inl r ↦ inl (record { is = kept_with-reserved m p r; cause = inl (reserved-is_reserved p.0 r) })
  | inr r ↦ elim (cases_Bool (is_setting p.0)) [
    | inl s ↦ known r s (value_at m p.0) refl
    | inr s ↦ inr (inl (record { is = kept_with-unknown m p r s; free = not_reserved p.0 r; unknown = λ h. both_ways (is_setting p.0) s (is_setting-true p.0 h) }))
  ]
]
  where
    known : is_reserved p.0 ≡ false → is_setting p.0 ≡ true → (o : Option ℕ) → value_at m p.0 ≡ o → Refuses m p ⊎ (Ignores m p ⊎ Keeps m p)
    known r s (Some v) had = inl (record { is = kept_with-again m p v r s had; cause = inr (setting-is_setting p.0 s, (v, had)) })
    known r s None had = inr (inr (record { is = kept_with-new m p r s had; free = not_reserved p.0 r; known = setting-is_setting p.0 s; new = had }))

-- ---- all pairs

-- the settings m after these pairs
abbrev pub kept : List (ℕ × ℕ) → List (ℕ × ℕ) → Result (List (ℕ × ℕ)) ErrorCode
kept m [] = Ok m
kept m (p ∷ ps) = or_fault (kept_with m p) (λ k. kept k ps)

-- no setting among the pairs is one of m
abbrev pub AreNew : List (ℕ × ℕ) → List (ℕ × ℕ) → Type 0
AreNew m ps = (id value : ℕ) → Contains ps (id, value) → IsSetting id → value_at m id ≡ None

-- n are the settings of m and those among the pairs
abbrev pub Joins : List (ℕ × ℕ) → List (ℕ × ℕ) → List (ℕ × ℕ) → Type 0
Joins m ps n = (id value : ℕ) → (value_at n id ≡ Some value) ↔ ((value_at m id ≡ Some value) ⊎ (IsSetting id × Contains ps (id, value)))

pub record KeepsAll (m ps n : List (ℕ × ℕ)) : Type 0 where
  pub faultless : AreFaultless ps
  pub new : AreNew m ps
  pub joins : Joins m ps n
  pub rising : IsStrictlySortedBy nat_cmp (keys_of m) → IsStrictlySortedBy nat_cmp (keys_of n)

ok_is : (x y : List (ℕ × ℕ)) (r : Result (List (ℕ × ℕ)) ErrorCode) → r ≡ Ok x → r ≡ Ok y → x ≡ y
ok_is x y r d e = cc

not_ok : (x : List (ℕ × ℕ)) (code : ErrorCode) (r : Result (List (ℕ × ℕ)) ErrorCode) → r ≡ Err code → r ≡ Ok x → ⊥
not_ok x code r d e = cc

some_none : (v : ℕ) (o : Option ℕ) → o ≡ Some v → o ≡ None → ⊥
some_none v o d e = cc

keeps_none : (m n : List (ℕ × ℕ)) → m ≡ n → KeepsAll m [] n
keeps_none m n e = record {
  faultless = tt;
  new = λ id value c. absurd (contains_none (id, value) c);
  joins = λ id value. (λ h. inl (rw e h), elim [ inl h ↦ rw (← e) h | inr h ↦ absurd (contains_none (id, value) h.1) ]);
  rising = λ h. rw (← e) h;
}

keeps_ignored : (m n ps : List (ℕ × ℕ)) (p : ℕ × ℕ) (i : Ignores m p) (h : KeepsAll m ps n) → KeepsAll m (p ∷ ps) n
keeps_ignored m n ps p i h = record {
  faultless = (i.free, λ known. absurd (i.unknown known), h.faultless);
  new = λ id value c known. elim (contains_cases p ps (id, value) c) [
    | inl e ↦ absurd (i.unknown (rw (ap (λ (q : ℕ × ℕ). q.0) e) known))
    | inr rest ↦ h.new id value rest known
  ];
  joins = λ id value. (
    λ v. elim ((h.joins id value).0 v) [ inl old ↦ inl old | inr more ↦ inr (more.0, contains_tail p ps (id, value) more.1) ],
    elim [
      | inl old ↦ (h.joins id value).1 (inl old)
      | inr more ↦ elim (contains_cases p ps (id, value) more.1) [
        | inl e ↦ absurd (i.unknown (rw (ap (λ (q : ℕ × ℕ). q.0) e) more.0))
        | inr rest ↦ (h.joins id value).1 (inr (more.0, rest))
      ]
    ],
  );
  rising = h.rising;
}

-- a value after one more setting
value_with : (m : List (ℕ × ℕ)) (p : ℕ × ℕ) (id value : ℕ) → value_at (with_setting m p.0 p.1) id ≡ Some value → (p ≡ (id, value)) ⊎ ((id ≢ p.0) × (value_at m id ≡ Some value))
value_with m p id value v = elim (cases_eq id p.0) [
  | inl e ↦ let same : p.1 ≡ value = some_is p.1 value (sym (value_at-set m p.0 p.1) ∙ ap (λ (i : ℕ). value_at (with_setting m p.0 p.1) i) (sym e) ∙ v) in inl (λ i. (sym e i, same i))
  | inr apart ↦ inr (apart, sym (value_at-kept m p.0 p.1 id apart) ∙ v)
]
  where
    some_is : (x y : ℕ) → Some x ≡ Some y → x ≡ y
    some_is x y h = cc

keeps_kept : (m n ps : List (ℕ × ℕ)) (p : ℕ × ℕ) (k : Keeps m p) (h : KeepsAll (with_setting m p.0 p.1) ps n) → KeepsAll m (p ∷ ps) n
keeps_kept m n ps p k h = record {
  faultless = (k.free, λ known again. let (value, c) = contains_number ps p.0 again in some_none p.1 (value_at (with_setting m p.0 p.1) p.0) (value_at-set m p.0 p.1) (h.new p.0 value c known), h.faultless);
  new = λ id value c known. elim (contains_cases p ps (id, value) c) [
    | inl e ↦ rw (← ap (λ (q : ℕ × ℕ). q.0) e) k.new
    | inr rest ↦ others id (h.new id value rest known)
  ];
  joins = λ id value. (
    λ v. elim ((h.joins id value).0 v) [
      | inl one ↦ elim (value_with m p id value one) [
        | inl e ↦ inr (rw (← ap (λ (q : ℕ × ℕ). q.0) e) k.known, rw (← e) (contains_head p ps))
        | inr old ↦ inl old.1
      ]
      | inr more ↦ inr (more.0, contains_tail p ps (id, value) more.1)
    ],
    elim [
      | inl old ↦ (h.joins id value).1 (inl (value_at-kept m p.0 p.1 id (apart id value old) ∙ old))
      | inr more ↦ elim (contains_cases p ps (id, value) more.1) [
        | inl e ↦ (h.joins id value).1 (inl (rw (← ap (λ (q : ℕ × ℕ). q.0) e, ← ap (λ (q : ℕ × ℕ). q.1) e) (value_at-set m p.0 p.1)))
        | inr rest ↦ (h.joins id value).1 (inr (more.0, rest))
      ]
    ],
  );
  rising = λ r. h.rising (rising-with m p.0 p.1 r);
}
  where
    apart : (id value : ℕ) → value_at m id ≡ Some value → id ≢ p.0
    apart id value old e = some_none value (value_at m p.0) (ap (λ (i : ℕ). value_at m i) (sym e) ∙ old) k.new

    others : (id : ℕ) → value_at (with_setting m p.0 p.1) id ≡ None → value_at m id ≡ None
    others id none = elim (cases_eq id p.0) [
      | inl e ↦ ap (λ (i : ℕ). value_at m i) e ∙ k.new
      | inr ne ↦ sym (value_at-kept m p.0 p.1 id ne) ∙ none
    ]

-- the result of storing all pairs
pub kept-all : (ps m n : List (ℕ × ℕ)) → kept m ps ≡ Ok n → KeepsAll m ps n
kept-all [] m n e = keeps_none m n (ok_is m n (Ok m) refl e)
kept-all (p ∷ ps) m n e = elim (kept_with-cases m p) [
  | inl r ↦ absurd (not_ok n Settings (kept m (p ∷ ps)) (ap (λ (x : Result (List (ℕ × ℕ)) ErrorCode). or_fault x (λ k. kept k ps)) r.is) e)
  | inr o ↦ elim o [
    | inl i ↦ keeps_ignored m n ps p i (kept-all ps m n (sym (ap (λ (x : Result (List (ℕ × ℕ)) ErrorCode). or_fault x (λ k. kept k ps)) i.is) ∙ e))
    | inr k ↦ keeps_kept m n ps p k (kept-all ps (with_setting m p.0 p.1) n (sym (ap (λ (x : Result (List (ℕ × ℕ)) ErrorCode). or_fault x (λ k. kept k ps)) k.is) ∙ e))
  ]
]

-- pairs without an error are stored
pub kept-faultless : (ps m : List (ℕ × ℕ)) → AreFaultless ps → AreNew m ps → (n : List (ℕ × ℕ)) × (kept m ps ≡ Ok n)
kept-faultless [] m h new = (m, refl)
kept-faultless (p ∷ ps) m (free, once, rest) new = elim (kept_with-cases m p) [
  | inl r ↦ elim r.cause [
    | inl reserved ↦ absurd (free reserved)
    | inr again ↦ absurd (some_none again.1.0 (value_at m p.0) again.1.1 (new p.0 p.1 (contains_head p ps) again.0))
  ]
  | inr o ↦ elim o [
    | inl i ↦
        let (n, e) = kept-faultless ps m rest (λ id value c known. new id value (contains_tail p ps (id, value) c) known) in
        (n, ap (λ (x : Result (List (ℕ × ℕ)) ErrorCode). or_fault x (λ k. kept k ps)) i.is ∙ e)
    | inr k ↦
        let (n, e) = kept-faultless ps (with_setting m p.0 p.1) rest (λ id value c known. value_at-kept m p.0 p.1 id (λ same. once (rw same at known) (rw same at (contains_key ps id value c))) ∙ new id value (contains_tail p ps (id, value) c) known) in
        (n, ap (λ (x : Result (List (ℕ × ℕ)) ErrorCode). or_fault x (λ k. kept k ps)) k.is ∙ e)
  ]
]

no_value : (id value : ℕ) → value_at [] id ≡ Some value → ⊥
no_value id value e = cc

-- ---- starting with none

-- the stored settings are those among the pairs
pub kept-are_kept : (ps m : List (ℕ × ℕ)) → kept [] ps ≡ Ok m → AreKept m ps
kept-are_kept ps m e =
    let h = kept-all ps [] m e in
    record {
      rising = h.rising rising_none;
      same = λ id value. (λ v. elim ((h.joins id value).0 v) [ inl none ↦ absurd (no_value id value none) | inr more ↦ more ], λ more. (h.joins id value).1 (inr more));
    }

same_options : (o q : Option ℕ) → ((v : ℕ) → (o ≡ Some v) ↔ (q ≡ Some v)) → o ≡ q
same_options None None h = refl
same_options None (Some v) h = (h v).1 refl
same_options (Some v) q h = sym ((h v).0 refl)

-- they are unique
pub are_kept-same : (ps m n : List (ℕ × ℕ)) (h : AreKept m ps) (k : AreKept n ps) → m ≡ n
are_kept-same ps m n h k = same_values m n h.rising k.rising (λ id. same_options (value_at m id) (value_at n id) (λ v. (λ e. (k.same id v).1 ((h.same id v).0 e), λ e. (h.same id v).1 ((k.same id v).0 e))))

pub kept-is : (ps m : List (ℕ × ℕ)) → AreFaultless ps → AreKept m ps → kept [] ps ≡ Ok m
kept-is ps m faultless h =
    let (n, e) = kept-faultless ps [] faultless (λ id value c known. refl) in
    e ∙ ap (λ (x : List (ℕ × ℕ)). Ok x) (are_kept-same ps n m (kept-are_kept ps n e) h)

or_fault-assoc : (r : Result (List (ℕ × ℕ)) ErrorCode) (f g : List (ℕ × ℕ) → Result (List (ℕ × ℕ)) ErrorCode) → or_fault (or_fault r f) g ≡ or_fault r (λ k. or_fault (f k) g)
or_fault-assoc (Ok m) f g = refl
or_fault-assoc (Err code) f g = refl

pub or_fault-same : (r : Result (List (ℕ × ℕ)) ErrorCode) (f g : List (ℕ × ℕ) → Result (List (ℕ × ℕ)) ErrorCode) → ((m : List (ℕ × ℕ)) → f m ≡ g m) → or_fault r f ≡ or_fault r g
or_fault-same (Ok m) f g h = h m
or_fault-same (Err code) f g h = refl

pub or_fault-chain : (m : List (ℕ × ℕ)) (p : ℕ × ℕ) (ps : List (ℕ × ℕ)) (g : List (ℕ × ℕ) → Result (List (ℕ × ℕ)) ErrorCode) → or_fault (kept m (p ∷ ps)) g ≡ or_fault (kept_with m p) (λ k. or_fault (kept k ps) g)
or_fault-chain m p ps g = or_fault-assoc (kept_with m p) (λ k. kept k ps) g

pub kept-append : (ps qs m : List (ℕ × ℕ)) → kept m (ps ++ qs) ≡ or_fault (kept m ps) (λ k. kept k qs)
kept-append [] qs m = refl
kept-append (p ∷ ps) qs m = or_fault-same (kept_with m p) (λ k. kept k (ps ++ qs)) (λ k. or_fault (kept k ps) (λ j. kept j qs)) (λ k. kept-append ps qs k) ∙ sym (or_fault-chain m p ps (λ j. kept j qs))
