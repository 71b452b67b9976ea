-- The room that an encoder needs: its capacity stays, and its sections are few.
use Rattle.std.proofs.Common.{◌≡◌, ◌⊎◌, ℕ, ◌+◌, ◌<◌, ◌≤◌, ◌==◌, nat_lt, max, inl, inr, Bool, true, false, cond, List, [], ◌∷◌, ◌++◌, length, refl, ◌∙◌, ap, arith, eq-eqb, length-append, Option, Some, None, Ok, Err}
use Rattle.wtp_huffman.proofs.Chosen.{chosen}
use Rattle.wtp_dynamic.specs.declared.acknowledgment.Acknowledgment.{Acknowledgment}
use Rattle.wtp_dynamic.specs.declared.acknowledgment.Acknowledgment.TheVariants.{Section, Cancellation, Increment}
use Rattle.wtp_dynamic.specs.declared.error.DecoderStreamError.TheVariants as fault
use Rattle.wtp_dynamic.specs.declared.ledger.Sent.{Sent}
use Rattle.wtp_dynamic.specs.Table.{Table}
use Rattle.wtp_dynamic.specs.EncoderState.{taken, with_first, without}
use Rattle.wtp_dynamic_encoder.specs.declared.proposal.Policy.{Policy}
use Rattle.wtp_dynamic_encoder.specs.declared.proposal.Proposal.{Proposal}
use Rattle.wtp_dynamic_encoder.specs.Acknowledging.{Ledger, without_section, step, Leads, Stands, Reaches}
use Rattle.wtp_dynamic_encoder.specs.Choosing.{field_of}
use Rattle.wtp_dynamic_encoder.specs.Encoding.{Inserted, Offered, AreOffered, IsSent, opened, sent_of, needed}

-- ---- the capacity

inserted_capacity : (policy : Policy) (p : Proposal) (l : Ledger) (t u : Table) (a b : List ℕ) (did : Bool) → Inserted (field_of p) l t u a b did → u.capacity ≡ t.capacity
inserted_capacity policy p l t u a b true done = ap (λ (z : Table). z.capacity) done.1
inserted_capacity policy p l t u a b false done = ap (λ (z : Table). z.capacity) done.1

offered_capacity : (policy : Policy) (p : Proposal) (l : Ledger) (t u : Table) (a b : List ℕ) → Offered policy p l t u a b → u.capacity ≡ t.capacity
offered_capacity policy p l t u a b (inl (wanted, did, done)) = inserted_capacity policy p l t u a b did done
offered_capacity policy p l t u a b (inr (unwanted, same, none)) = ap (λ (z : Table). z.capacity) same

pub capacity_stays : (policy : Policy) (ps : List Proposal) (l : Ledger) (t u : Table) (a b : List ℕ) → AreOffered policy ps l t u a b → u.capacity ≡ t.capacity
capacity_stays policy [] l t u a b (same, none) = ap (λ (z : Table). z.capacity) same
capacity_stays policy (p ∷ ps) l t u a b (next, bytes, first, others) = capacity_stays policy ps l next u bytes b others ∙ offered_capacity policy p l t next a bytes first

-- ---- a section that is sent

pub sent_few : (stream most : ℕ) (policy : Policy) (ps : List Proposal) (t : Table) (old new : Ledger) (a b : List ℕ) → IsSent stream most policy ps t old new a b → length new.1 ≤ max (length old.1) policy.unacknowledged
sent_few stream most policy ps t old new a b sent =
    let s : Sent = sent_of stream sent.plans sent.lowest in
    let now : length new.1 ≡ length (opened s old).1 = ap (λ (z : Ledger). length z.1) sent.ledger in
    omega (arith, now, by (s.required == 0) refl sent.counted)
  where
    by : (none : Bool) → (needed sent.plans == 0) ≡ none → (needed sent.plans ≡ 0) ⊎ (length old.1 < policy.unacknowledged)
        → length (cond none old (old.0, old.1 ++ sent_of stream sent.plans sent.lowest ∷ [])).1 ≤ max (length old.1) policy.unacknowledged
    by true is counted = omega arith
    by false is (inl zero) = cc (is, eq-eqb (needed sent.plans) 0 zero)
    by false is (inr few) = omega (arith, few, length-append old.1 (sent_of stream sent.plans sent.lowest ∷ []))

-- ---- the decoder stream

taken_fewer : (stream : ℕ) (xs : List Sent) (x : Sent × List Sent) → taken stream xs ≡ Some x → length x.1 ≤ length xs
taken_fewer stream [] x e = cc e
taken_fewer stream (s ∷ xs) x e = elim (chosen (s.stream == stream) (Some (s, xs)) (with_first s (taken stream xs)) (Some x) e) [
  | inl this ↦
      let same : (s, xs) ≡ x = cc this.1 in
      omega (arith, ap (λ (z : Sent × List Sent). length z.1) same)
  | inr other ↦ by_rest (taken stream xs) refl other.1 (λ y found. taken_fewer stream xs y found)
]
  where
    by_rest : (o : Option (Sent × List Sent)) → taken stream xs ≡ o → with_first s (taken stream xs) ≡ Some x → ((y : Sent × List Sent) → taken stream xs ≡ Some y → length y.1 ≤ length xs) → length x.1 ≤ length (s ∷ xs)
    by_rest None none made rest = cc (ap (with_first s) none, made)
    by_rest (Some y) found made rest =
        let same : (y.0, s ∷ y.1) ≡ x = cc (ap (with_first s) found, made) in
        omega (arith, ap (λ (z : Sent × List Sent). length z.1) same, rest y found)

without_fewer : (stream : ℕ) (xs : List Sent) → length (without stream xs) ≤ length xs
without_fewer stream [] = omega arith
without_fewer stream (x ∷ xs) = by (x.stream == stream) (without_fewer stream xs)
  where
    by : (b : Bool) → length (without stream xs) ≤ length xs → length (cond b (without stream xs) (x ∷ without stream xs)) ≤ length (x ∷ xs)
    by true few = omega (arith, few)
    by false few = omega (arith, few)

step_fewer : (n : ℕ) (i : Acknowledgment) (l next : Ledger) → step i n l ≡ Ok next → length next.1 ≤ length l.1
step_fewer n (Section stream) l next did = by_taken (taken stream l.1) refl did
  where
    by_taken : (o : Option (Sent × List Sent)) → taken stream l.1 ≡ o → without_section l.0 o ≡ Ok next → length next.1 ≤ length l.1
    by_taken None none made = cc made
    by_taken (Some x) found made =
        let same : (max l.0 x.0.required, x.1) ≡ next = cc made in
        omega (arith, ap (λ (z : Ledger). length z.1) same, taken_fewer stream l.1 x found)
step_fewer n (Cancellation stream) l next did =
    let same : (l.0, without stream l.1) ≡ next = cc did in
    omega (arith, ap (λ (z : Ledger). length z.1) same, without_fewer stream l.1)
step_fewer n (Increment size) l next did = elim (chosen (size == 0) (Err fault.ZeroIncrement) (cond (nat_lt n (l.0 + size)) (Err fault.IncrementTooLarge) (Ok (l.0 + size, l.1))) (Ok next) did) [
  | inl none ↦ cc none.1
  | inr some ↦ elim (chosen (nat_lt n (l.0 + size)) (Err fault.IncrementTooLarge) (Ok (l.0 + size, l.1)) (Ok next) some.1) [
    | inl large ↦ cc large.1
    | inr fits ↦
        let same : (l.0 + size, l.1) ≡ next = cc fits.1 in
        omega (arith, ap (λ (z : Ledger). length z.1) same)
  ]
]

leads_fewer : (is : List Acknowledgment) (n : ℕ) (l : Ledger) (bytes : List ℕ) (after : Ledger) (rest : List ℕ) → Leads is n l bytes after rest → length after.1 ≤ length l.1
leads_fewer [] n l bytes after rest (same, e) = omega (arith, ap (λ (z : Ledger). length z.1) same)
leads_fewer (i ∷ is) n l bytes after rest (next, behind, found, did, leads) = omega (arith, step_fewer n i l next did, leads_fewer is n next behind after rest leads)

pub stands_fewer : (n : ℕ) (l : Ledger) (bytes : List ℕ) (after : Ledger) (held : List ℕ) → Stands n l bytes after held → length after.1 ≤ length l.1
stands_fewer n l bytes after held stands = leads_fewer stands.instructions n l bytes after held stands.leads

pub reaches_fewer : (n : ℕ) (l : Ledger) (bytes : List ℕ) (after : Ledger) → Reaches n l bytes after → length after.1 ≤ length l.1
reaches_fewer n l bytes after (is, rest, leads) = leads_fewer is n l bytes after rest leads
