-- The result of reading an integer, and the relations.
use Rattle.std.proofs.Common.{◌≡◌, ℕ, zero, suc, ◌+◌, ◌-◌, ◌*◌, ◌/◌, ◌%◌, ◌^◌, ◌<◌, ◌≤◌, ◌⊎◌, inl, inr, List, [], ◌∷◌, ◌++◌, length, refl, sym, ◌∙◌, ap, arith, Ok, Err, eq-eqb, pow_mono, subst}
use Rattle.std.proofs.lemmas.Bool.{cases_lt, cases_eq, lt-leb, le-leb, lt-ltb, le-ltb, ne_eqb}
use Rattle.std.proofs.lemmas.Nat.{pow-add, pow_pos, mod_low}
use Rattle.wtp_qpack.specs.declared.qpack.DecodingError.{DecodingError}
use Rattle.wtp_qpack.specs.declared.qpack.DecodingError.TheVariants.{UnexpectedFin, IntegerOverflow}
use Rattle.wtp_qpack.specs.Integer.{AreOpen, AreClosed, groups_value, IsInt, IsOverflow, IsCutInteger, groups_at, integer_at, shortest_groups, shortest_int}
use Rattle.wtp_qpack.proofs.IntegerWriting.{power}

-- one group and those after it
split : (sum k g v : ℕ) → sum + (g % 128 + 128 * v) * 2 ^ (7 * k) ≡ sum + g % 128 * 2 ^ (7 * k) + v * 2 ^ (7 * suc k)
split sum k g v =
    let up : 2 ^ (7 * suc k) ≡ 2 ^ (7 * k) * 128 = ap (λ n. 2 ^ n) (omega arith) ∙ pow-add 2 (7 * k) 7 in
    rw up (omega arith)

-- a group after which more follow
on_from : (g : ℕ) (bytes : List ℕ) (sum k v : ℕ) → 128 ≤ g → sum + (g % 128 + 128 * v) * 2 ^ (7 * k) < 2 ^ 64
    → groups_at sum k (g ∷ bytes) ≡ groups_at (sum + g % 128 * 2 ^ (7 * k)) (suc k) bytes
unfolding groups_at
on_from g bytes sum k v on fits =
    let here : sum + g % 128 * 2 ^ (7 * k) < 2 ^ 64 = omega (arith, split sum k g v) in
    rw (lt-leb (2 ^ 64) (sum + g % 128 * 2 ^ (7 * k)) here, le-ltb g 128 on) refl

pub groups_read : (gs rest : List ℕ) (sum k : ℕ) → AreClosed gs → sum + groups_value gs * 2 ^ (7 * k) < 2 ^ 64 → groups_at sum k (gs ++ rest) ≡ Ok (sum + groups_value gs * 2 ^ (7 * k), rest)
unfolding groups_at
groups_read [] rest sum k h fits = absurd h
groups_read (g ∷ []) rest sum k last fits =
    let low : g % 128 + 128 * 0 ≡ g % 128 = omega arith in
    let here : sum + g % 128 * 2 ^ (7 * k) < 2 ^ 64 = rw low at fits in
    rw (low, lt-leb (2 ^ 64) (sum + g % 128 * 2 ^ (7 * k)) here, lt-ltb g 128 last) refl
groups_read (g ∷ h ∷ gs) rest sum k (on, closed) fits =
    let same = split sum k g (groups_value (h ∷ gs)) in
    on_from g ((h ∷ gs) ++ rest) sum k (groups_value (h ∷ gs)) on fits
    ∙ groups_read (h ∷ gs) rest (sum + g % 128 * 2 ^ (7 * k)) (suc k) closed (rw (← same) fits)
    ∙ ap (λ z. Ok (z, rest)) (sym same)

pub groups_over : (gs : List ℕ) (last : ℕ) (rest : List ℕ) (sum k : ℕ) → AreOpen gs → sum + groups_value gs * 2 ^ (7 * k) < 2 ^ 64
    → 2 ^ 64 ≤ sum + groups_value (gs ++ last ∷ []) * 2 ^ (7 * k) → groups_at sum k ((gs ++ last ∷ []) ++ rest) ≡ Err IntegerOverflow
unfolding groups_at
groups_over [] last rest sum k h within past =
    let low : last % 128 + 128 * 0 ≡ last % 128 = omega arith in
    let here : 2 ^ 64 ≤ sum + last % 128 * 2 ^ (7 * k) = rw low at past in
    rw (le-leb (2 ^ 64) (sum + last % 128 * 2 ^ (7 * k)) here) refl
groups_over (g ∷ gs) last rest sum k (on, more) within past =
    on_from g ((gs ++ last ∷ []) ++ rest) sum k (groups_value gs) on within
    ∙ groups_over gs last rest (sum + g % 128 * 2 ^ (7 * k)) (suc k) more (rw (← split sum k g (groups_value gs)) within) (rw (← split sum k g (groups_value (gs ++ last ∷ []))) past)

pub groups_cut : (gs : List ℕ) (sum k : ℕ) → AreOpen gs → sum + groups_value gs * 2 ^ (7 * k) < 2 ^ 64 → groups_at sum k gs ≡ Err UnexpectedFin
unfolding groups_at
groups_cut [] sum k h within = refl
groups_cut (g ∷ gs) sum k (on, more) within =
    on_from g gs sum k (groups_value gs) on within ∙ groups_cut gs (sum + g % 128 * 2 ^ (7 * k)) (suc k) more (rw (← split sum k g (groups_value gs)) within)

-- ---- there are three results

pub record Whole (bytes : List ℕ) (sum k : ℕ) : Type 0 where
  pub groups : List ℕ
  pub rest : List ℕ
  pub closed : AreClosed groups
  pub parts : bytes ≡ groups ++ rest
  pub fits : sum + groups_value groups * 2 ^ (7 * k) < 2 ^ 64

pub record Over (bytes : List ℕ) (sum k : ℕ) : Type 0 where
  pub groups : List ℕ
  pub last : ℕ
  pub rest : List ℕ
  pub open_groups : AreOpen groups
  pub parts : bytes ≡ (groups ++ last ∷ []) ++ rest
  pub within : sum + groups_value groups * 2 ^ (7 * k) < 2 ^ 64
  pub past : 2 ^ 64 ≤ sum + groups_value (groups ++ last ∷ []) * 2 ^ (7 * k)

pub record Ends (bytes : List ℕ) (sum k : ℕ) : Type 0 where
  pub open_groups : AreOpen bytes
  pub within : sum + groups_value bytes * 2 ^ (7 * k) < 2 ^ 64

closed_more : (g : ℕ) (gs : List ℕ) → 128 ≤ g → AreClosed gs → AreClosed (g ∷ gs)
closed_more g [] on h = absurd h
closed_more g (x ∷ gs) on h = (on, h)

pub one_of : (bytes : List ℕ) (sum k : ℕ) → sum < 2 ^ 64 → Whole bytes sum k ⊎ (Over bytes sum k ⊎ Ends bytes sum k)
one_of [] sum k small = inr (inr (record { open_groups = tt; within = omega arith }))
one_of (g ∷ gs) sum k small = elim (cases_lt (sum + g % 128 * 2 ^ (7 * k)) (2 ^ 64)) [
  | inr past ↦
      let low : g % 128 + 128 * 0 ≡ g % 128 = omega arith in
      inr (inl (record { groups = []; last = g; rest = gs; open_groups = tt; parts = refl; within = omega arith; past = rw low past }))
  | inl fits ↦ elim (cases_lt g 128) [
    | inl last ↦
        let low : g % 128 + 128 * 0 ≡ g % 128 = omega arith in
        inl (record { groups = g ∷ []; rest = gs; closed = last; parts = refl; fits = rw low fits })
    | inr on ↦ elim (one_of gs (sum + g % 128 * 2 ^ (7 * k)) (suc k) fits) [
      | inl whole ↦ inl (record {
        groups = g ∷ whole.groups;
        rest = whole.rest;
        closed = closed_more g whole.groups on whole.closed;
        parts = ap (λ z. g ∷ z) whole.parts;
        fits = rw (split sum k g (groups_value whole.groups)) whole.fits;
      })
      | inr other ↦ elim other [
        | inl over ↦ inr (inl (record {
          groups = g ∷ over.groups;
          last = over.last;
          rest = over.rest;
          open_groups = (on, over.open_groups);
          parts = ap (λ z. g ∷ z) over.parts;
          within = rw (split sum k g (groups_value over.groups)) over.within;
          past = rw (split sum k g (groups_value (over.groups ++ over.last ∷ []))) over.past;
        }))
        | inr ends ↦ inr (inr (record {
          open_groups = (on, ends.open_groups);
          within = rw (split sum k g (groups_value gs)) ends.within;
        }))
      ]
    ]
  ]
]

-- ---- integers

once : (n v : ℕ) → n + v * 2 ^ (7 * 0) ≡ n + v
once n v = omega arith

ones_first : (n b : ℕ) (bytes : List ℕ) → b % 2 ^ n ≡ 2 ^ n - 1 → integer_at n (b ∷ bytes) ≡ groups_at (2 ^ n - 1) 0 bytes
unfolding integer_at
ones_first n b bytes ones = rw (eq-eqb (b % 2 ^ n) (2 ^ n - 1) ones) refl

-- an encoded integer is read, whatever follows
pub int_read : (n v : ℕ) (s rest : List ℕ) → IsInt n v s → integer_at n (s ++ rest) ≡ Ok (v, rest)
unfolding integer_at
int_read n v [] rest h = absurd h
int_read n v (b ∷ []) rest (e, below) = rw (← e, ne_eqb v (2 ^ n - 1) (omega arith)) refl
int_read n v (b ∷ g ∷ gs) rest (ones, closed, value, small) =
    let same : 2 ^ n - 1 + groups_value (g ∷ gs) * 2 ^ (7 * 0) ≡ v = once (2 ^ n - 1) (groups_value (g ∷ gs)) ∙ sym value in
    ones_first n b ((g ∷ gs) ++ rest) ones ∙ groups_read (g ∷ gs) rest (2 ^ n - 1) 0 closed (rw same small) ∙ ap (λ z. Ok (z, rest)) same

pub overflow_read : (n : ℕ) (s rest : List ℕ) → IsOverflow n s → integer_at n (s ++ rest) ≡ Err IntegerOverflow
overflow_read n s rest h =
    ap (λ z. integer_at n (z ++ rest)) h.parts
    ∙ ones_first n h.first ((h.groups ++ h.last ∷ []) ++ rest) h.ones
    ∙ groups_over h.groups h.last rest (2 ^ n - 1) 0 h.open_groups (rw (once (2 ^ n - 1) (groups_value h.groups)) h.within) (rw (once (2 ^ n - 1) (groups_value (h.groups ++ h.last ∷ []))) h.past)

pub cut_read : (n : ℕ) (s : List ℕ) → IsCutInteger n s → integer_at n s ≡ Err UnexpectedFin
unfolding integer_at
cut_read n [] h = refl
cut_read n (b ∷ gs) (ones, open_groups, within) = ones_first n b gs ones ∙ groups_cut gs (2 ^ n - 1) 0 open_groups (rw (once (2 ^ n - 1) (groups_value gs)) within)

-- what a prefix of the bytes is
pub record Front (n : ℕ) (bytes : List ℕ) : Type 0 where
  pub value : ℕ
  pub encoding : List ℕ
  pub rest : List ℕ
  pub is_int : IsInt n value encoding
  pub parts : bytes ≡ encoding ++ rest

pub record Passed (n : ℕ) (bytes : List ℕ) : Type 0 where
  pub encoding : List ℕ
  pub rest : List ℕ
  pub is_overflow : IsOverflow n encoding
  pub parts : bytes ≡ encoding ++ rest

long_int : (n b : ℕ) (gs : List ℕ) → b % 2 ^ n ≡ 2 ^ n - 1 → AreClosed gs → 2 ^ n - 1 + groups_value gs < 2 ^ 64 → IsInt n (2 ^ n - 1 + groups_value gs) (b ∷ gs)
long_int n b [] ones h small = absurd h
long_int n b (g ∷ gs) ones h small = (ones, h, refl, small)

pub int_cases : (n : ℕ) (bytes : List ℕ) → n ≤ 8 → Front n bytes ⊎ (Passed n bytes ⊎ IsCutInteger n bytes)
int_cases n [] few = inr (inr tt)
int_cases n (b ∷ bs) few = elim (cases_eq (b % 2 ^ n) (2 ^ n - 1)) [
  | inr other ↦
      let below : b % 2 ^ n < 2 ^ n - 1 = omega (arith, pow_pos n, other) in
      inl (record { value = b % 2 ^ n; encoding = b ∷ []; rest = bs; is_int = (refl, below); parts = refl })
  | inl ones ↦ elim (one_of bs (2 ^ n - 1) 0 (small n few)) [
    | inl whole ↦ inl (record {
      value = 2 ^ n - 1 + groups_value whole.groups;
      encoding = b ∷ whole.groups;
      rest = whole.rest;
      is_int = long_int n b whole.groups ones whole.closed (rw (once (2 ^ n - 1) (groups_value whole.groups)) at whole.fits);
      parts = ap (λ z. b ∷ z) whole.parts;
    })
    | inr other ↦ elim other [
      | inl over ↦ inr (inl (record {
        encoding = b ∷ (over.groups ++ over.last ∷ []);
        rest = over.rest;
        is_overflow = record {
          first = b;
          groups = over.groups;
          last = over.last;
          parts = refl;
          ones = ones;
          open_groups = over.open_groups;
          within = rw (once (2 ^ n - 1) (groups_value over.groups)) at over.within;
          past = rw (once (2 ^ n - 1) (groups_value (over.groups ++ over.last ∷ []))) at over.past;
        };
        parts = ap (λ z. b ∷ z) over.parts;
      }))
      | inr ends ↦ inr (inr (ones, ends.open_groups, rw (once (2 ^ n - 1) (groups_value bs)) at ends.within))
    ]
  ]
]
  where
    small : (n : ℕ) → n ≤ 8 → 2 ^ n - 1 < 2 ^ 64
    small n few =
        let p : 2 ^ n ≤ 2 ^ 8 = pow_mono {i = n} {j = 8} few in
        omega arith

-- ---- what is read is one of these

pub int_found : (n v : ℕ) (bytes rest : List ℕ) → n ≤ 8 → integer_at n bytes ≡ Ok (v, rest) → (s : List ℕ) × IsInt n v s × (bytes ≡ s ++ rest)
int_found n v bytes rest few e = elim (int_cases n bytes few) [
  | inl front ↦
      let read : integer_at n bytes ≡ Ok (front.value, front.rest) = ap (integer_at n) front.parts ∙ int_read n front.value front.encoding front.rest front.is_int in
      let pair : ◌≡◌ {A = ℕ × List ℕ} (front.value, front.rest) (v, rest) = cc (read, e) in
      let value : front.value ≡ v = ap (λ (p : ℕ × List ℕ). p.0) pair in
      let behind : front.rest ≡ rest = ap (λ (p : ℕ × List ℕ). p.1) pair in
      (front.encoding, subst (λ z. IsInt n z front.encoding) value front.is_int, front.parts ∙ ap (λ z. front.encoding ++ z) behind)
  | inr other ↦ elim other [
    | inl passed ↦ cc (ap (integer_at n) passed.parts ∙ overflow_read n passed.encoding passed.rest passed.is_overflow, e)
    | inr cut ↦ cc (cut_read n bytes cut, e)
  ]
]

pub overflow_found : (n : ℕ) (bytes : List ℕ) → n ≤ 8 → integer_at n bytes ≡ Err IntegerOverflow → (s : List ℕ) × (rest : List ℕ) × IsOverflow n s × (bytes ≡ s ++ rest)
overflow_found n bytes few e = elim (int_cases n bytes few) [
  | inl front ↦ cc (ap (integer_at n) front.parts ∙ int_read n front.value front.encoding front.rest front.is_int, e)
  | inr other ↦ elim other [
    | inl passed ↦ (passed.encoding, passed.rest, passed.is_overflow, passed.parts)
    | inr cut ↦ cc (cut_read n bytes cut, e)
  ]
]

pub cut_found : (n : ℕ) (bytes : List ℕ) → n ≤ 8 → integer_at n bytes ≡ Err UnexpectedFin → IsCutInteger n bytes
cut_found n bytes few e = elim (int_cases n bytes few) [
  | inl front ↦ cc (ap (integer_at n) front.parts ∙ int_read n front.value front.encoding front.rest front.is_int, e)
  | inr other ↦ elim other [
    | inl passed ↦ cc (ap (integer_at n) passed.parts ∙ overflow_read n passed.encoding passed.rest passed.is_overflow, e)
    | inr cut ↦ cut
  ]
]

pub int_faults : (n : ℕ) (bytes : List ℕ) (e : DecodingError) → n ≤ 8 → integer_at n bytes ≡ Err e → (e ≡ UnexpectedFin) ⊎ (e ≡ IntegerOverflow)
int_faults n bytes f few e = elim (int_cases n bytes few) [
  | inl front ↦ cc (ap (integer_at n) front.parts ∙ int_read n front.value front.encoding front.rest front.is_int, e)
  | inr other ↦ elim other [
    | inl passed ↦ inr (cc (ap (integer_at n) passed.parts ∙ overflow_read n passed.encoding passed.rest passed.is_overflow, e))
    | inr cut ↦ inl (cc (cut_read n bytes cut, e))
  ]
]

-- ---- what is written

groups_are : (k m : ℕ) → m < 2 ^ (7 * suc k) → AreClosed (shortest_groups k m) × (groups_value (shortest_groups k m) ≡ m)
unfolding shortest_groups
groups_are zero m small =
    let low : m % 128 + 128 * 0 ≡ m = omega arith in
    (omega arith, low)
groups_are (suc k) m small = elim (cases_lt m 128) [
  | inl few ↦
      let low : m % 128 + 128 * 0 ≡ m = omega arith in
      rw (lt-ltb m 128 few) (few, low)
  | inr many ↦
      let later = groups_are k (m / 128) (omega (arith, power k)) in
      let low : (m % 128 + 128) % 128 + 128 * (m / 128) ≡ m = omega arith in
      rw (le-ltb m 128 many) (closed_more (m % 128 + 128) (shortest_groups k (m / 128)) (omega arith) later.0, rw later.1 low)
]

pub short_int : (n flags v : ℕ) → v < 2 ^ 64 → IsInt n v (shortest_int n flags v)
unfolding shortest_int
short_int n flags v small = elim (cases_lt v (2 ^ n - 1)) [
  | inl below ↦ rw (lt-ltb v (2 ^ n - 1) below) (sym (mod_low flags n v (omega arith)), below)
  | inr above ↦
      let later = groups_are 9 (v - (2 ^ n - 1)) (omega arith) in
      let whole : 2 ^ n - 1 + groups_value (shortest_groups 9 (v - (2 ^ n - 1))) ≡ v = rw later.1 (omega arith) in
      let P : ℕ → Type 0 = λ z. IsInt n z ((flags * 2 ^ n + (2 ^ n - 1)) ∷ shortest_groups 9 (v - (2 ^ n - 1))) in
      rw (le-ltb v (2 ^ n - 1) above) (subst P whole (long_int n (flags * 2 ^ n + (2 ^ n - 1)) (shortest_groups 9 (v - (2 ^ n - 1))) (mod_low flags n (2 ^ n - 1) (omega (arith, pow_pos n))) later.0 (rw whole small)))
]

-- no groups of a number are fewer
groups_least : (k m : ℕ) (gs : List ℕ) → AreClosed gs → groups_value gs ≡ m → length (shortest_groups k m) ≤ length gs
unfolding shortest_groups
groups_least k m [] closed e = absurd closed
groups_least zero m (g ∷ gs) closed e = omega arith
groups_least (suc k) m (g ∷ []) closed e = rw (lt-ltb m 128 (omega arith)) (omega arith)
groups_least (suc k) m (g ∷ h ∷ gs) (on, closed) e = elim (cases_lt m 128) [
  | inl few ↦ rw (lt-ltb m 128 few) (omega arith)
  | inr many ↦
      let top : groups_value (h ∷ gs) ≡ m / 128 = omega arith in
      rw (le-ltb m 128 many) (omega (arith, groups_least k (m / 128) (h ∷ gs) closed top))
]

pub short_least : (n flags v : ℕ) (s : List ℕ) → IsInt n v s → length (shortest_int n flags v) ≤ length s
unfolding shortest_int
short_least n flags v [] h = absurd h
short_least n flags v (b ∷ []) (e, below) = rw (lt-ltb v (2 ^ n - 1) below) (omega arith)
short_least n flags v (b ∷ g ∷ gs) (ones, closed, value, small) =
    rw (le-ltb v (2 ^ n - 1) (omega arith)) (omega (arith, groups_least 9 (v - (2 ^ n - 1)) (g ∷ gs) closed (omega arith)))
