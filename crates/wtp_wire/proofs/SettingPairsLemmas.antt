-- The computed pairs of a settings payload are those of the grammar.
use Rattle.std.proofs.Common.{◌≡◌, ◌≢◌, ℕ, suc, zero, true, false, ◌<◌, ◌≤◌, List, [], ◌∷◌, ◌++◌, length, Option, Some, None, Result, Ok, Err, refl, sym, ap, subst, ◌∙◌, append_assoc, append-nil, arith, inl, inr, ◌⊎◌}
use Rattle.std.specs.Prelude.{map, Contains}
use Rattle.std.specs.Map.{keys_of}
use Rattle.std.specs.List.{AllByRecursion}
use Rattle.std.proofs.lemmas.Bool.{cases_Bool}
use Rattle.std.proofs.lemmas.List.Elements.{recursion_from_All, All-from_recursion}
use Rattle.wtp_core.specs.declared.error.ErrorCode.{ErrorCode}
use Rattle.wtp_core.specs.declared.error.ErrorCode.TheVariants.{Frame, Settings}
use Rattle.wtp_wire.specs.declared.settings.pairs.SettingPair.{SettingPair}
use Rattle.wtp_wire.specs.Front.{EncodesPair}
use Rattle.wtp_wire.specs.SettingId.{IsReserved, IsSetting, is_reserved}
use Rattle.wtp_wire.specs.Settings.{ArePairs, AreFaultless, AreKept, IsPayload, IsCutSetting, IsSettingsFault, pair_at, settings_in}
use Rattle.wtp_wire.specs.SettingPairs.{numbers_of, EndsPairs, HasPairs, fault_items, pair_items, items_at, items_within, setting_items, Repeats}
use Rattle.wtp_wire.proofs.FrontLemmas.{found}
use Rattle.wtp_wire.proofs.PairLemmas.{pair_at-encoded, pair_at-begins, pair_at-shorter}
use Rattle.wtp_wire.proofs.SettingIdLemmas.{is_reserved-true, reserved-is_reserved, setting_not_reserved}
use Rattle.wtp_wire.proofs.PayloadLemmas.{settings_in-payload, settings_in-fault, payload_judged}

-- ---- one step

within-some : (n : ℕ) (b : ℕ) (bs : List ℕ) → items_within (suc n) (b ∷ bs) ≡ items_at (λ rest. items_within n rest) (pair_at (b ∷ bs))
unfolding items_within
within-some n b bs = refl

within-nil : (n : ℕ) → items_within n [] ≡ []
unfolding items_within
within-nil n = refl

at-same : (o : Option ((ℕ × ℕ) × List ℕ)) (f g : List ℕ → List (Result SettingPair ErrorCode)) → ((p : (ℕ × ℕ) × List ℕ) → o ≡ Some p → f p.1 ≡ g p.1) → items_at f o ≡ items_at g o
at-same None f g h = refl
at-same (Some p) f g h = elim (cases_Bool (is_reserved p.0.0)) [
  | inl t ↦ rw t refl
  | inr t ↦ rw t (ap (λ (l : List (Result SettingPair ErrorCode)). Ok (record { id = p.0.0; value = p.0.1 }) ∷ l) (h p refl))
]

-- more steps than bytes do not change the result
within-enough : (n k : ℕ) (bytes : List ℕ) → length bytes ≤ n → length bytes ≤ k → items_within n bytes ≡ items_within k bytes
within-enough n k [] h i = within-nil n ∙ sym (within-nil k)
within-enough zero k (b ∷ bs) h i = absurd (omega arith)
within-enough (suc n) zero (b ∷ bs) h i = absurd (omega arith)
within-enough (suc n) (suc k) (b ∷ bs) h i =
    within-some n b bs
    ∙ at-same (pair_at (b ∷ bs)) (λ rest. items_within n rest) (λ rest. items_within k rest) (λ p e. let short : length p.1 < length (b ∷ bs) = pair_at-shorter (b ∷ bs) p.1 p.0.0 p.0.1 e in within-enough n k p.1 (omega arith) (omega arith))
    ∙ sym (within-some k b bs)

pub items-nil : setting_items [] ≡ []
unfolding setting_items
items-nil = within-nil 0

pub items-empty : (bytes : List ℕ) → length bytes ≡ 0 → setting_items bytes ≡ []
items-empty [] l = items-nil
items-empty (b ∷ bs) l = absurd (omega arith)

items-some : (bytes : List ℕ) → 0 < length bytes → setting_items bytes ≡ items_at (λ rest. setting_items rest) (pair_at bytes)
unfolding setting_items
items-some [] l = absurd (omega arith)
items-some (b ∷ bs) l =
    within-some (length bs) b bs
    ∙ at-same (pair_at (b ∷ bs)) (λ rest. items_within (length bs) rest) (λ rest. items_within (length rest) rest) (λ p e. let short : length p.1 < length (b ∷ bs) = pair_at-shorter (b ∷ bs) p.1 p.0.0 p.0.1 e in within-enough (length bs) (length p.1) p.1 (omega arith) (omega arith))

pub items-cut : (bytes : List ℕ) → 0 < length bytes → pair_at bytes ≡ None → setting_items bytes ≡ Err Frame ∷ []
items-cut bytes l e = items-some bytes l ∙ rw e refl

pub items-reserved : (bytes more : List ℕ) (id value : ℕ) → pair_at bytes ≡ Some ((id, value), more) → is_reserved id ≡ true → setting_items bytes ≡ Err Settings ∷ []
items-reserved bytes more id value e t = items-some bytes (let short : length more < length bytes = pair_at-shorter bytes more id value e in omega arith) ∙ rw (e, t) refl

pub items-pair : (bytes more : List ℕ) (p : SettingPair) → pair_at bytes ≡ Some ((p.id, p.value), more) → is_reserved p.id ≡ false → setting_items bytes ≡ Ok p ∷ setting_items more
items-pair bytes more p e t = items-some bytes (let short : length more < length bytes = pair_at-shorter bytes more p.id p.value e in omega arith) ∙ rw (e, t) refl

pub ruleset item_steps = (items-empty, items-nil, items-cut, items-reserved, items-pair)

-- ---- from the grammar to the computation

not_reserved : (id : ℕ) → (IsReserved id → ⊥) → is_reserved id ≡ false
not_reserved id h = elim (cases_Bool (is_reserved id)) [ inl t ↦ absurd (h (reserved-is_reserved id t)) | inr t ↦ t ]

reserved_not : (id : ℕ) → is_reserved id ≡ false → IsReserved id → ⊥
reserved_not id t r = let u : is_reserved id ≡ true = is_reserved-true id r in absurd (cc)

-- the pairs at the start are returned in order
items-pairs : (ps : List SettingPair) (s rest : List ℕ) → ArePairs (numbers_of ps) s → AllByRecursion (λ (id : ℕ). IsReserved id → ⊥) (keys_of (numbers_of ps)) → setting_items (s ++ rest) ≡ map (λ p. Ok p) ps ++ setting_items rest
items-pairs [] s rest h free = ap (λ (x : List ℕ). setting_items (x ++ rest)) h
items-pairs (p ∷ ps) s rest (first, more, encoded, pairs, parts) free =
    ap (λ (x : List ℕ). setting_items (x ++ rest)) parts
    ∙ ap setting_items (append_assoc first more rest)
    ∙ items-pair (first ++ (more ++ rest)) (more ++ rest) p (pair_at-encoded p.id p.value first (more ++ rest) encoded) (not_reserved p.id free.0)
    ∙ ap (λ (l : List (Result SettingPair ErrorCode)). Ok p ∷ l) (items-pairs ps more rest pairs free.1)

not_none : (x : (ℕ × ℕ) × List ℕ) (o : Option ((ℕ × ℕ) × List ℕ)) → o ≡ None → o ≡ Some x → ⊥
not_none x o d e = cc

some_length : (rest : List ℕ) → rest ≢ [] → 0 < length rest
some_length [] h = absurd (h refl)
some_length (b ∷ bs) h = omega arith

cut-none : (rest : List ℕ) → IsCutSetting rest → pair_at rest ≡ None
cut-none rest (some, none) = elim (found (pair_at rest)) [
  | inl e ↦ e
  | inr ((p, more), e) ↦ let h = pair_at-begins rest more p.0 p.1 e in absurd (none p.0 p.1 h.s more h.encoded h.parts)
]

items-ending : (fault : Option ErrorCode) (rest : List ℕ) → EndsPairs fault rest → setting_items rest ≡ fault_items fault
items-ending None rest e = ap setting_items e ∙ items-nil
items-ending (Some code) rest (inl (e, cut)) = items-cut rest (some_length rest cut.0) (cut-none rest cut) ∙ ap (λ (c : ErrorCode). Err c ∷ []) (sym e)
items-ending (Some code) rest (inr (e, (id, value, s, more, encoded, parts, reserved))) =
    let at : pair_at rest ≡ Some ((id, value), more) = rw parts (pair_at-encoded id value s more encoded) in
    items-reserved rest more id value at (is_reserved-true id reserved) ∙ ap (λ (c : ErrorCode). Err c ∷ []) (sym e)

pub has_pairs-items : (ps : List SettingPair) (fault : Option ErrorCode) (payload : List ℕ) → HasPairs ps fault payload → setting_items payload ≡ pair_items ps fault
has_pairs-items ps fault payload h =
    ap setting_items h.parts
    ∙ items-pairs ps h.front h.rest h.pairs (recursion_from_All (λ (id : ℕ). IsReserved id → ⊥) (keys_of (numbers_of ps)) h.free)
    ∙ ap (λ (l : List (Result SettingPair ErrorCode)). map (λ p. Ok p) ps ++ l) (items-ending fault h.rest h.ending)

-- ---- each payload has pairs, followed by its end or an error

abbrev Judged : List ℕ → Type 0
Judged payload = (ps : List SettingPair) × (fault : Option ErrorCode) × HasPairs ps fault payload

one_more : (bytes more s : List ℕ) (p : SettingPair) → bytes ≡ s ++ more → EncodesPair p.id p.value s → (IsReserved p.id → ⊥) → Judged more → Judged bytes
one_more bytes more s p parts encoded free (ps, fault, h) = (
  p ∷ ps,
  fault,
  record {
    front = s ++ h.front;
    rest = h.rest;
    pairs = (s, h.front, encoded, h.pairs, refl);
    free = All-from_recursion (λ (id : ℕ). IsReserved id → ⊥) (p.id ∷ keys_of (numbers_of ps)) (free, recursion_from_All (λ (id : ℕ). IsReserved id → ⊥) (keys_of (numbers_of ps)) h.free);
    parts = parts ∙ ap (λ (x : List ℕ). s ++ x) h.parts ∙ sym (append_assoc s h.front h.rest);
    ending = h.ending;
  },
)

no_pairs : (fault : Option ErrorCode) (payload : List ℕ) → EndsPairs fault payload → Judged payload
no_pairs fault payload e = ([], fault, record { front = []; rest = payload; pairs = refl; free = All-from_recursion (λ (id : ℕ). IsReserved id → ⊥) [] tt; parts = refl; ending = e })

judged : (n : ℕ) (payload : List ℕ) → length payload ≤ n → Judged payload
judged n [] l = no_pairs None [] refl
judged zero (b ∷ bs) l = absurd (omega arith)
judged (suc n) (b ∷ bs) l = elim (found (pair_at (b ∷ bs))) [
  | inl none ↦ no_pairs (Some Frame) (b ∷ bs) (inl (refl, (λ nil. absurd (cc), λ id value s more encoded parts. not_none ((id, value), more) (pair_at (b ∷ bs)) none (rw parts (pair_at-encoded id value s more encoded)))))
  | inr ((p, more), at) ↦
      let h = pair_at-begins (b ∷ bs) more p.0 p.1 at in
      let short : length more < length (b ∷ bs) = pair_at-shorter (b ∷ bs) more p.0 p.1 at in
      elim (cases_Bool (is_reserved p.0)) [
        | inl t ↦ no_pairs (Some Settings) (b ∷ bs) (inr (refl, (p.0, p.1, h.s, more, h.encoded, h.parts, reserved-is_reserved p.0 t)))
        | inr t ↦ one_more (b ∷ bs) more h.s (record { id = p.0; value = p.1 }) h.parts h.encoded (reserved_not p.0 t) (judged n more (omega arith))
      ]
]

pub pairs_judged : (payload : List ℕ) → (ps : List SettingPair) × (fault : Option ErrorCode) × HasPairs ps fault payload
pairs_judged payload = judged (length payload) payload (omega arith)

-- ---- from the computation to the grammar

same_fault : (f g : Option ErrorCode) → fault_items f ≡ fault_items g → f ≡ g
same_fault None None e = refl
same_fault None (Some d) e = absurd cc
same_fault (Some c) None e = absurd cc
same_fault (Some c) (Some d) e = cc

fault_pair : (f : Option ErrorCode) (q : SettingPair) (others : List (Result SettingPair ErrorCode)) → fault_items f ≡ Ok q ∷ others → ⊥
fault_pair None q others e = cc
fault_pair (Some c) q others e = let head : Err c ≡ Ok q = cc in cc

heads : (p q : SettingPair) (xs ys : List (Result SettingPair ErrorCode)) → Ok p ∷ xs ≡ Ok q ∷ ys → p ≡ q
heads p q xs ys e = cc

tails : (p q : SettingPair) (xs ys : List (Result SettingPair ErrorCode)) → Ok p ∷ xs ≡ Ok q ∷ ys → xs ≡ ys
tails p q xs ys e = cc

same_items : (ps qs : List SettingPair) (f g : Option ErrorCode) → pair_items ps f ≡ pair_items qs g → (ps ≡ qs) × (f ≡ g)
same_items [] [] f g e = (refl, same_fault f g e)
same_items [] (q ∷ qs) f g e = absurd (fault_pair f q (pair_items qs g) e)
same_items (p ∷ ps) [] f g e = absurd (fault_pair g p (pair_items ps f) (sym e))
same_items (p ∷ ps) (q ∷ qs) f g e =
    let head : p ≡ q = heads p q (pair_items ps f) (pair_items qs g) e in
    let rest = same_items ps qs f g (tails p q (pair_items ps f) (pair_items qs g) e) in
    let tail : ps ≡ qs = rest.0 in (cc, rest.1)

pub items-has_pairs : (ps : List SettingPair) (fault : Option ErrorCode) (payload : List ℕ) → setting_items payload ≡ pair_items ps fault → HasPairs ps fault payload
items-has_pairs ps fault payload e =
    let (qs, g, h) = pairs_judged payload in
    let same = same_items qs ps g fault (sym (has_pairs-items qs g payload h) ∙ e) in
    subst (λ (f : Option ErrorCode). HasPairs ps f payload) same.1 (subst (λ (l : List SettingPair). HasPairs l g payload) same.0 h)

-- ---- comparison with the settings that are stored

-- the pairs with these numbers
pairs_of : List (ℕ × ℕ) → List SettingPair
pairs_of [] = []
pairs_of (p ∷ ps) = record { id = p.0; value = p.1 } ∷ pairs_of ps

numbers-pairs : (ps : List (ℕ × ℕ)) → numbers_of (pairs_of ps) ≡ ps
unfolding pairs_of
numbers-pairs [] = refl
numbers-pairs (p ∷ ps) = ap (λ (l : List (ℕ × ℕ)). p ∷ l) (numbers-pairs ps)

faultless_free : (ps : List (ℕ × ℕ)) → AreFaultless ps → AllByRecursion (λ (id : ℕ). IsReserved id → ⊥) (keys_of ps)
faultless_free [] h = tt
faultless_free (p ∷ ps) h = (h.0, faultless_free ps h.2)

has : (ps : List (ℕ × ℕ)) (fault : Option ErrorCode) (payload front rest : List ℕ) → ArePairs ps front → AreFaultless ps → payload ≡ front ++ rest → EndsPairs fault rest → HasPairs (pairs_of ps) fault payload
has ps fault payload front rest pairs faultless parts ending = record {
  front = front;
  rest = rest;
  pairs = rw (numbers-pairs ps) pairs;
  free = rw (numbers-pairs ps) (All-from_recursion (λ (id : ℕ). IsReserved id → ⊥) (keys_of ps) (faultless_free ps faultless));
  parts = parts;
  ending = ending;
}

ok_is : (x y : List (ℕ × ℕ)) (r : Result (List (ℕ × ℕ)) ErrorCode) → r ≡ Ok x → r ≡ Ok y → x ≡ y
ok_is x y r d e = cc

err_is : (x y : ErrorCode) (r : Result (List (ℕ × ℕ)) ErrorCode) → r ≡ Err x → r ≡ Err y → x ≡ y
err_is x y r d e = cc

ok_err : (m : List (ℕ × ℕ)) (code : ErrorCode) (r : Result (List (ℕ × ℕ)) ErrorCode) → r ≡ Ok m → r ≡ Err code → ⊥
ok_err m code r d e = cc

pub settings-has_pairs : (m : List (ℕ × ℕ)) (payload : List ℕ) → settings_in payload ≡ Ok m → (ps : List SettingPair) × HasPairs ps None payload × AreFaultless (numbers_of ps) × AreKept m (numbers_of ps)
settings-has_pairs m payload e = elim (payload_judged payload) [
  | inl (k, is) ↦ subst (λ (l : List (ℕ × ℕ)). (ps : List SettingPair) × HasPairs ps None payload × AreFaultless (numbers_of ps) × AreKept l (numbers_of ps)) (ok_is k m (settings_in payload) (settings_in-payload k payload is) e) (of_payload k is)
  | inr (code, is) ↦ absurd (ok_err m code (settings_in payload) e (settings_in-fault code payload is))
]
  where
    of_payload : (k : List (ℕ × ℕ)) → IsPayload k payload → (ps : List SettingPair) × HasPairs ps None payload × AreFaultless (numbers_of ps) × AreKept k (numbers_of ps)
    of_payload k (ps, pairs, faultless, kept) = (pairs_of ps, has ps None payload payload [] pairs faultless (sym (append-nil payload)) refl, rw (numbers-pairs ps) faultless, rw (numbers-pairs ps) kept)

repeated : (ps : List (ℕ × ℕ)) (payload front rest s more : List ℕ) (id value : ℕ) → ArePairs ps front → AreFaultless ps → payload ≡ front ++ rest → EncodesPair id value s → rest ≡ s ++ more → IsSetting id → Contains (keys_of ps) id → Repeats (pairs_of ps) payload
repeated ps payload front rest s more id value pairs faultless parts encoded behind known again = record {
  again = record { id = id; value = value };
  others = setting_items more;
  known = known;
  repeated = rw (numbers-pairs ps) again;
  items =
      ap setting_items parts
      ∙ items-pairs (pairs_of ps) front rest (rw (numbers-pairs ps) pairs) (rw (numbers-pairs ps) (faultless_free ps faultless))
      ∙ ap (λ (l : List (Result SettingPair ErrorCode)). map (λ p. Ok p) (pairs_of ps) ++ l) (items-pair rest more (record { id = id; value = value }) (rw behind (pair_at-encoded id value s more encoded)) (not_reserved id (setting_not_reserved id known)));
}

of_fault : (code : ErrorCode) (payload : List ℕ) → IsSettingsFault code payload → (ps : List SettingPair) × AreFaultless (numbers_of ps) × (HasPairs ps (Some code) payload ⊎ ((code ≡ Settings) × Repeats ps payload))
of_fault code payload (ps, front, rest, pairs, faultless, parts, inl (e, cut)) = (pairs_of ps, rw (numbers-pairs ps) faultless, inl (has ps (Some code) payload front rest pairs faultless parts (inl (e, cut))))
of_fault code payload (ps, front, rest, pairs, faultless, parts, inr (e, (id, value, s, more, encoded, behind, inl reserved))) = (pairs_of ps, rw (numbers-pairs ps) faultless, inl (has ps (Some code) payload front rest pairs faultless parts (inr (e, (id, value, s, more, encoded, behind, reserved)))))
of_fault code payload (ps, front, rest, pairs, faultless, parts, inr (e, (id, value, s, more, encoded, behind, inr (known, again)))) = (pairs_of ps, rw (numbers-pairs ps) faultless, inr (e, repeated ps payload front rest s more id value pairs faultless parts encoded behind known again))

pub fault-has_pairs : (code : ErrorCode) (payload : List ℕ) → settings_in payload ≡ Err code → (ps : List SettingPair) × AreFaultless (numbers_of ps) × (HasPairs ps (Some code) payload ⊎ ((code ≡ Settings) × Repeats ps payload))
fault-has_pairs code payload e = elim (payload_judged payload) [
  | inl (m, is) ↦ absurd (ok_err m code (settings_in payload) (settings_in-payload m payload is) e)
  | inr (other, is) ↦
      let (ps, faultless, fault) = of_fault other payload is in
      let same : other ≡ code = err_is other code (settings_in payload) (settings_in-fault other payload is) e in
      subst (λ (c : ErrorCode). (ps : List SettingPair) × AreFaultless (numbers_of ps) × (HasPairs ps (Some c) payload ⊎ ((c ≡ Settings) × Repeats ps payload))) same (ps, faultless, fault)
]

pub has_pairs-settings : (ps : List SettingPair) (m : List (ℕ × ℕ)) (payload : List ℕ) → HasPairs ps None payload → AreFaultless (numbers_of ps) → AreKept m (numbers_of ps) → settings_in payload ≡ Ok m
has_pairs-settings ps m payload h faultless kept =
    let e : payload ≡ h.front = h.parts ∙ ap (λ (x : List ℕ). h.front ++ x) h.ending ∙ append-nil h.front in
    settings_in-payload m payload (numbers_of ps, rw e h.pairs, faultless, kept)

pub has_pairs-fault : (ps : List SettingPair) (code : ErrorCode) (payload : List ℕ) → HasPairs ps (Some code) payload → AreFaultless (numbers_of ps) → settings_in payload ≡ Err code
has_pairs-fault ps code payload h faultless = settings_in-fault code payload (
  numbers_of ps,
  h.front,
  h.rest,
  h.pairs,
  faultless,
  h.parts,
  elim h.ending [
    | inl cut ↦ inl cut
    | inr (e, (id, value, s, more, encoded, parts, reserved)) ↦ inr (e, (id, value, s, more, encoded, parts, inl reserved))
  ],
)
