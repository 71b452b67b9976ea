-- What an encoder keeps: it owes nothing more, and few streams may be blocked.
use Rattle.std.proofs.Common.{◌≡◌, ◌⊎◌, ℕ, ◌+◌, ◌<◌, ◌≤◌, ◌==◌, nat_lt, max, not, inl, inr, Bool, true, false, cond, ◌&&◌, ◌||◌, List, [], ◌∷◌, ◌++◌, length, take, zero, suc, refl, sym, ◌∙◌, ap, subst, arith, eq-eqb, Option, Some, None, Ok, Err}
use Rattle.std.proofs.lemmas.Bool.{cases_lt, lt-ltb, ltb-true, eqb-true}
use Rattle.std.proofs.lemmas.List.{take_all}
use Rattle.std.proofs.Math.Seq.{take-append_seam}
use Rattle.wtp_huffman.proofs.Chosen.{chosen}
use Rattle.wtp_dynamic.specs.declared.acknowledgment.Acknowledgment.{Acknowledgment}
use Rattle.wtp_dynamic.specs.declared.acknowledgment.Acknowledgment.TheVariants.{Section, Cancellation, Increment}
use Rattle.wtp_dynamic.specs.declared.error.DecoderStreamError.TheVariants as fault
use Rattle.wtp_dynamic.specs.declared.ledger.Sent.{Sent}
use Rattle.wtp_dynamic.specs.Table.{Table, insert_count, empty_table}
use Rattle.wtp_dynamic.specs.EncoderState.{Owes, AreKept, taken, with_first, without, may_wait, waiting_streams, may_block, IsAmong, FewWait}
use Rattle.wtp_dynamic.proofs.Owed.{owes_section, owes_acknowledged, owes_cancelled, owes_incremented}
use Rattle.wtp_dynamic_encoder.specs.Acknowledging.{Ledger, without_section, step, Leads, Stands, Reaches}
use Rattle.wtp_dynamic_encoder.specs.Encoding.{encoder_of, opened, first_sections, is_unused}

-- ---- the start

pub owes_nothing : (limit : ℕ) → Owes (encoder_of (empty_table limit) (0, []))
owes_nothing limit = record { known = omega arith; received = omega arith; kept = tt }

pub few_nothing : (most : ℕ) → FewWait most 0 []
few_nothing most = ([], omega arith, λ stream waits. cc waits)

-- ---- tests

or_cases : (a b : Bool) → (a || b) ≡ true → (a ≡ true) ⊎ ((a ≡ false) × (b ≡ true))
or_cases true b e = inl refl
or_cases false b e = inr (refl, e)

pub or_second : (a b : Bool) → b ≡ true → (a || b) ≡ true
or_second true b e = refl
or_second false b e = e

pub both : (a b : Bool) → (a && b) ≡ true → (a ≡ true) × (b ≡ true)
both true b e = (refl, e)
both false b e = cc e

below_is : (m n : ℕ) → nat_lt m n ≡ true → m < n
below_is m n e = ltb-true m n e

-- ---- fewer may block

-- each stream that may be blocked now could be before
abbrev Less : ℕ → List Sent → ℕ → List Sent → Type 0
Less known xs after ys = (stream : ℕ) → may_wait after stream ys ≡ true → may_wait known stream xs ≡ true

few_less : (most known : ℕ) (xs : List Sent) (after : ℕ) (ys : List Sent) → Less known xs after ys → FewWait most known xs → FewWait most after ys
few_less most known xs after ys less (streams, few, all) = (streams, few, λ stream waits. all stream (less stream waits))

less_known : (known after : ℕ) (xs : List Sent) → known ≤ after → Less known xs after xs
less_known known after [] grows stream waits = waits
less_known known after (x ∷ xs) grows stream waits = elim (or_cases (nat_lt after x.required && x.stream == stream) (may_wait after stream xs) waits) [
  | inl here ↦
      let two = both (nat_lt after x.required) (x.stream == stream) here in
      let more : known < x.required = omega (arith, below_is after x.required two.0) in
      rw (lt-ltb known x.required more, two.1) refl
  | inr there ↦ or_second (nat_lt known x.required && x.stream == stream) (may_wait known stream xs) (less_known known after xs grows stream there.1)
]

-- one more section before others
less_cons : (known : ℕ) (x : Sent) (xs ys : List Sent) → Less known xs known ys → Less known (x ∷ xs) known (x ∷ ys)
less_cons known x xs ys less stream waits = elim (or_cases (nat_lt known x.required && x.stream == stream) (may_wait known stream ys) waits) [
  | inl here ↦ rw here refl
  | inr there ↦ or_second (nat_lt known x.required && x.stream == stream) (may_wait known stream xs) (less stream there.1)
]

less_more : (known : ℕ) (x : Sent) (xs ys : List Sent) → Less known xs known ys → Less known (x ∷ xs) known ys
less_more known x xs ys less stream waits = or_second (nat_lt known x.required && x.stream == stream) (may_wait known stream xs) (less stream waits)

less_taken : (known stream : ℕ) (xs : List Sent) (x : Sent × List Sent) → taken stream xs ≡ Some x → Less known xs known x.1
less_taken known stream [] x e = cc e
less_taken known stream (sent ∷ others) x e = elim (chosen (sent.stream == stream) (Some (sent, others)) (with_first sent (taken stream others)) (Some x) e) [
  | inl this ↦
      let same : (sent, others) ≡ x = cc this.1 in
      subst (λ (z : Sent × List Sent). Less known (sent ∷ others) known z.1) same (less_more known sent others others (λ s waits. waits))
  | inr other ↦ by_rest (taken stream others) refl other.1 (λ y found. less_taken known stream others y found)
]
  where
    by_rest : (o : Option (Sent × List Sent)) → taken stream others ≡ o → with_first sent (taken stream others) ≡ Some x → ((y : Sent × List Sent) → taken stream others ≡ Some y → Less known others known y.1) → Less known (sent ∷ others) known x.1
    by_rest None none made rest = cc (ap (with_first sent) none, made)
    by_rest (Some y) found made rest =
        let same : (y.0, sent ∷ y.1) ≡ x = cc (ap (with_first sent) found, made) in
        subst (λ (z : Sent × List Sent). Less known (sent ∷ others) known z.1) same (less_cons known sent others y.1 (rest y found))

less_without : (known stream : ℕ) (xs : List Sent) → Less known xs known (without stream xs)
less_without known stream [] = λ s waits. waits
less_without known stream (x ∷ xs) = by_stream (x.stream == stream) (less_without known stream xs)
  where
    by_stream : (b : Bool) → Less known xs known (without stream xs) → Less known (x ∷ xs) known (cond b (without stream xs) (x ∷ without stream xs))
    by_stream true less = less_more known x xs (without stream xs) less
    by_stream false less = less_cons known x xs (without stream xs) less

-- ---- the decoder stream

-- what an encoder with this table keeps, as its ledger changes
record Keeps (t : Table) (most : ℕ) (l : Ledger) : Type 0 where
  pub owes : Owes (encoder_of t l)
  pub few : FewWait most l.0 l.1

step_keeps : (t : Table) (most n : ℕ) (i : Acknowledgment) (l next : Ledger) → n ≡ insert_count t → Keeps t most l → step i n l ≡ Ok next → Keeps t most next
step_keeps t most n (Section stream) l next count keeps did = by_taken (taken stream l.1) refl did
  where
    by_taken : (o : Option (Sent × List Sent)) → taken stream l.1 ≡ o → without_section l.0 o ≡ Ok next → Keeps t most next
    by_taken None none made = cc made
    by_taken (Some x) found made =
        let same : (max l.0 x.0.required, x.1) ≡ next = cc made in
        let less : Less l.0 l.1 (max l.0 x.0.required) x.1 = λ s waits. less_taken l.0 stream l.1 x found s (less_known l.0 (max l.0 x.0.required) x.1 (omega arith) s waits) in
        subst (λ (z : Ledger). Keeps t most z) same (record {
          owes = owes_acknowledged stream x (encoder_of t l) keeps.owes found;
          few = few_less most l.0 l.1 (max l.0 x.0.required) x.1 less keeps.few;
        })
step_keeps t most n (Cancellation stream) l next count keeps did =
    let same : (l.0, without stream l.1) ≡ next = cc did in
    subst (λ (z : Ledger). Keeps t most z) same (record {
      owes = owes_cancelled stream (encoder_of t l) keeps.owes;
      few = few_less most l.0 l.1 l.0 (without stream l.1) (less_without l.0 stream l.1) keeps.few;
    })
step_keeps t most n (Increment size) l next count keeps did = elim (chosen (size == 0) (Err fault.ZeroIncrement) (cond (nat_lt n (l.0 + size)) (Err fault.IncrementTooLarge) (Ok (l.0 + size, l.1))) (Ok next) did) [
  | inl none ↦ cc none.1
  | inr some ↦ elim (chosen (nat_lt n (l.0 + size)) (Err fault.IncrementTooLarge) (Ok (l.0 + size, l.1)) (Ok next) some.1) [
    | inl large ↦ cc large.1
    | inr fits ↦ within fits.0 (cc fits.1)
  ]
]
  where
    within : nat_lt n (l.0 + size) ≡ false → (l.0 + size, l.1) ≡ next → Keeps t most next
    within fails same = elim (cases_lt n (l.0 + size)) [
      | inl over ↦ cc (rw (lt-ltb n (l.0 + size) over) at fails)
      | inr few ↦ subst (λ (z : Ledger). Keeps t most z) same (record {
        owes = owes_incremented size (encoder_of t l) keeps.owes (omega arith);
        few = few_less most l.0 l.1 (l.0 + size) l.1 (less_known l.0 (l.0 + size) l.1 (omega arith)) keeps.few;
      })
    ]

leads_keeps : (is : List Acknowledgment) (t : Table) (most n : ℕ) (l : Ledger) (bytes : List ℕ) (after : Ledger) (rest : List ℕ) → n ≡ insert_count t → Keeps t most l → Leads is n l bytes after rest → Keeps t most after
leads_keeps [] t most n l bytes after rest count keeps (same, e) = subst (λ (z : Ledger). Keeps t most z) (sym same) keeps
leads_keeps (i ∷ is) t most n l bytes after rest count keeps (next, behind, found, did, leads) = leads_keeps is t most n next behind after rest count (step_keeps t most n i l next count keeps did) leads

-- what is kept, as a pair
abbrev pub Both : Table → ℕ → Ledger → Type 0
Both t most l = Owes (encoder_of t l) × FewWait most l.0 l.1

pub stands_keep : (t : Table) (most n : ℕ) (l : Ledger) (bytes : List ℕ) (after : Ledger) (held : List ℕ) → n ≡ insert_count t → Both t most l → Stands n l bytes after held → Both t most after
stands_keep t most n l bytes after held count kept stands =
    let keeps = leads_keeps stands.instructions t most n l bytes after held count (record { owes = kept.0; few = kept.1 }) stands.leads in
    (keeps.owes, keeps.few)

pub reaches_keep : (t : Table) (most n : ℕ) (l : Ledger) (bytes : List ℕ) (after : Ledger) → n ≡ insert_count t → Both t most l → Reaches n l bytes after → Both t most after
reaches_keep t most n l bytes after count kept (is, rest, leads) =
    let keeps = leads_keeps is t most n l bytes after rest count (record { owes = kept.0; few = kept.1 }) leads in
    (keeps.owes, keeps.few)

-- ---- a section that is sent

wait_push : (known stream : ℕ) (xs : List Sent) (y : Sent) → may_wait known stream (xs ++ y ∷ []) ≡ true → (may_wait known stream xs ≡ true) ⊎ ((known < y.required) × (y.stream ≡ stream))
wait_push known stream [] y waits = elim (or_cases (nat_lt known y.required && y.stream == stream) false waits) [
  | inl here ↦
      let two = both (nat_lt known y.required) (y.stream == stream) here in
      inr (below_is known y.required two.0, eqb-true y.stream stream two.1)
  | inr there ↦ cc there.1
]
wait_push known stream (x ∷ xs) y waits = elim (or_cases (nat_lt known x.required && x.stream == stream) (may_wait known stream (xs ++ y ∷ [])) waits) [
  | inl here ↦ inl (rw here refl)
  | inr there ↦ elim (wait_push known stream xs y there.1) [
    | inl before ↦ inl (or_second (nat_lt known x.required && x.stream == stream) (may_wait known stream xs) before)
    | inr this ↦ inr this
  ]
]

-- a stream that may be blocked is listed
pub waiting_has : (known stream : ℕ) (xs : List Sent) → may_wait known stream xs ≡ true → IsAmong stream (waiting_streams known xs)
waiting_has known stream [] waits = cc waits
waiting_has known stream (x ∷ xs) waits = by_later (may_wait known stream xs) refl (λ later. waiting_has known stream xs later)
  where
    among : (b : Bool) → IsAmong stream (waiting_streams known xs) → IsAmong stream (cond b (x.stream ∷ waiting_streams known xs) (waiting_streams known xs))
    among true is = inr is
    among false is = is

    by_later : (b : Bool) → may_wait known stream xs ≡ b → (may_wait known stream xs ≡ true → IsAmong stream (waiting_streams known xs)) → IsAmong stream (waiting_streams known (x ∷ xs))
    by_later true later has = among (nat_lt known x.required && not (may_wait known x.stream xs)) (has later)
    by_later false later has = elim (or_cases (nat_lt known x.required && x.stream == stream) (may_wait known stream xs) waits) [
      | inl here ↦
          let two = both (nat_lt known x.required) (x.stream == stream) here in
          let same : x.stream ≡ stream = eqb-true x.stream stream two.1 in
          let last : may_wait known x.stream xs ≡ false = ap (λ (s : ℕ). may_wait known s xs) same ∙ later in
          rw (two.0, last) (inl (sym same))
      | inr there ↦ cc (there.1, later)
    ]

few_push : (most known : ℕ) (xs : List Sent) (y : Sent) → (y.required ≤ known) ⊎ (may_block most y.stream (known, xs) ≡ true) → FewWait most known xs → FewWait most known (xs ++ y ∷ [])
few_push most known xs y (inl few) (streams, size, all) = (
  streams,
  size,
  λ stream waits. elim (wait_push known stream xs y waits) [
    | inl before ↦ all stream before
    | inr this ↦ absurd (omega (arith, this.0))
  ],
)
few_push most known xs y (inr block) (streams, size, all) = elim (or_cases (may_wait known y.stream xs) (nat_lt (length (waiting_streams known xs)) most) block) [
  | inl already ↦ (
    streams,
    size,
    λ stream waits. elim (wait_push known stream xs y waits) [
      | inl before ↦ all stream before
      | inr this ↦ all stream (subst (λ (s : ℕ). may_wait known s xs ≡ true) this.1 already)
    ],
  )
  | inr room ↦
      let fits : length (waiting_streams known xs) < most = below_is (length (waiting_streams known xs)) most room.1 in (
        y.stream ∷ waiting_streams known xs,
        omega arith,
        λ stream waits. elim (wait_push known stream xs y waits) [
          | inl before ↦ inr (waiting_has known stream xs before)
          | inr this ↦ inl (sym this.1)
        ],
      )
]

pub opened_keeps : (t : Table) (most : ℕ) (l after : Ledger) (sent : Sent) → after ≡ opened sent l → Both t most l → t.dropped ≤ sent.lowest → (sent.required ≡ 0) ⊎ (sent.lowest < sent.required) → sent.required ≤ insert_count t
    → (sent.required ≤ l.0) ⊎ (may_block most sent.stream l ≡ true) → Both t most after
opened_keeps t most l after sent is kept live some few allowed = subst (λ (z : Ledger). Both t most z) (sym is) (by_none (sent.required == 0) refl)
  where
    some_then : (sent.required == 0) ≡ false → sent.lowest < sent.required
    some_then fails = elim some [
      | inl none ↦ cc (eq-eqb sent.required 0 none, fails)
      | inr more ↦ more
    ]

    by_none : (b : Bool) → (sent.required == 0) ≡ b → Both t most (cond b l (l.0, l.1 ++ sent ∷ []))
    by_none true none = kept
    by_none false fails = (owes_section sent (encoder_of t l) kept.0 live (some_then fails) few, few_push most l.0 l.1 sent allowed kept.1)

-- ---- other limits, before anything was inserted

nothing : (l : List Sent) → (length l == 0) ≡ true → l ≡ []
nothing [] e = refl
nothing (x ∷ l) e = absurd (omega (arith, eqb-true (length (x ∷ l)) 0 e))

pub unused_ledger : (t : Table) (l : Ledger) → is_unused t l ≡ true → l ≡ (0, [])
unused_ledger t (known, sections) e =
    let a = both (insert_count t == 0 && t.capacity == 0 && known == 0) (length sections == 0) e in
    let b = both (insert_count t == 0 && t.capacity == 0) (known == 0) a.0 in
    rw (eqb-true known 0 b.1, nothing sections a.1) refl

pub owes_unused : (t u : Table) (l : Ledger) (limit : ℕ) → is_unused t l ≡ true → u ≡ empty_table limit → Owes (encoder_of u l)
owes_unused t u l limit e new = rw (unused_ledger t l e, new) (owes_nothing limit)

pub few_unused : (t : Table) (l : Ledger) (most : ℕ) → is_unused t l ≡ true → FewWait most l.0 l.1
few_unused t l most e = rw (unused_ledger t l e) (few_nothing most)

-- ---- sections that are taken back

kept_take : (place count n : ℕ) (xs : List Sent) → AreKept place count xs → AreKept place count (take n xs)
kept_take place count zero [] kept = tt
kept_take place count zero (x ∷ xs) kept = tt
kept_take place count (suc n) [] kept = tt
kept_take place count (suc n) (x ∷ xs) (low, some, few, kept) = (low, some, few, kept_take place count n xs kept)

less_take : (known n : ℕ) (xs : List Sent) → Less known xs known (take n xs)
less_take known zero [] = λ stream waits. waits
less_take known zero (x ∷ xs) = λ stream waits. cc waits
less_take known (suc n) [] = λ stream waits. waits
less_take known (suc n) (x ∷ xs) = less_cons known x xs (take n xs) (less_take known n xs)

pub first_keep : (t : Table) (most n : ℕ) (l : Ledger) → Both t most l → Both t most (first_sections n l)
first_keep t most n l (owes, few) = (
  record { known = owes.known; received = owes.received; kept = kept_take t.dropped (insert_count t) n l.1 owes.kept },
  few_less most l.0 l.1 l.0 (take n l.1) (less_take l.0 n l.1) few,
)

pub opened_first : (sent : Sent) (l after : Ledger) → after ≡ opened sent l → first_sections (length l.1) after ≡ l
opened_first sent l after is = subst (λ (z : Ledger). first_sections (length l.1) z ≡ l) (sym is) (by_none (sent.required == 0))
  where
    by_none : (b : Bool) → first_sections (length l.1) (cond b l (l.0, l.1 ++ sent ∷ [])) ≡ l
    by_none true = ap (λ (xs : List Sent). (l.0, xs)) (take_all (length l.1) l.1 (omega arith))
    by_none false = ap (λ (xs : List Sent). (l.0, xs)) (take-append_seam l.1 (sent ∷ []))

pub ruleset start = (owes_nothing, few_nothing)
