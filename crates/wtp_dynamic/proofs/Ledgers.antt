-- A section among those that are open.
use Rattle.std.proofs.Common.{◌≡◌, ℕ, zero, suc, ◌+◌, ◌<◌, ◌≤◌, ◌==◌, nat_lt, nat_le, inl, inr, Bool, true, false, cond, not, ◌&&◌, ◌||◌, List, [], ◌∷◌, length, take, drop, filter, get_or, refl, sym, ◌∙◌, ap, arith, Option, Some, None, eq-eqb, ne_eqb}
use Rattle.std.specs.List.{remove}
use Rattle.std.proofs.lemmas.Bool.{cases_lt, le-leb, lt-leb, lt-ltb, le-ltb}
use Rattle.std.proofs.Math.Numerals.{add-one}
use Rattle.std.proofs.Math.Seq.{drop-cons}
use Rattle.std.proofs.lemmas.List.{take_all, get_or_default}
use Rattle.wtp_huffman.proofs.Chosen.{chosen}
use Rattle.wtp_dynamic.specs.declared.ledger.Sent.{Sent}
use Rattle.wtp_dynamic.specs.EncoderState.{taken, with_first, without, unsent, all_above, may_wait, waiting_streams}

none_of : (sent : Sent) (o : Option (Sent × List Sent)) → with_first sent o ≡ None → o ≡ None
none_of sent None e = refl
none_of sent (Some x) e = cc e

-- the first of some sections is of another stream
not_first : (stream : ℕ) (sent : Sent) (others : List Sent) → taken stream (sent ∷ others) ≡ None → ((sent.stream == stream) ≡ false) × (taken stream others ≡ None)
not_first stream sent others e = elim (chosen (sent.stream == stream) (Some (sent, others)) (with_first sent (taken stream others)) None e) [
  | inl this ↦ cc this.1
  | inr other ↦ (other.0, none_of sent (taken stream others) other.1)
]

pub taken_here : (stream : ℕ) (xs : List Sent) (i : ℕ) (d : Sent) → taken stream (take i xs) ≡ None → i < length xs → (get_or xs i d).stream ≡ stream → taken stream xs ≡ Some (get_or xs i d, remove xs i)
taken_here stream [] i d none lt same = absurd (omega arith)
taken_here stream (x ∷ xs) zero d none lt same = rw (eq-eqb x.stream stream same) refl
taken_here stream (x ∷ xs) (suc i) d none lt same =
    let first = not_first stream x (take i xs) none in
    rw (first.0, taken_here stream xs i d first.1 (omega arith) same) refl

pub taken_more : (stream : ℕ) (xs : List Sent) (i : ℕ) (d : Sent) → taken stream (take i xs) ≡ None → i < length xs → ((get_or xs i d).stream ≡ stream → ⊥) → taken stream (take (suc i) xs) ≡ None
taken_more stream [] i d none lt other = absurd (omega arith)
taken_more stream (x ∷ xs) zero d none lt other = rw (ne_eqb x.stream stream other) refl
taken_more stream (x ∷ xs) (suc i) d none lt other =
    let first = not_first stream x (take i xs) none in
    rw (first.0, taken_more stream xs i d first.1 (omega arith) other) refl

pub taken_none : (stream : ℕ) (xs : List Sent) (i : ℕ) → taken stream (take i xs) ≡ None → length xs ≤ i → taken stream xs ≡ None
taken_none stream xs i none end = ap (taken stream) (sym (take_all i xs end)) ∙ none

-- ---- sections above a place

pub above_not : (place : ℕ) (xs : List Sent) (i : ℕ) (d : Sent) → i < length xs → (get_or xs i d).lowest < place → all_above place xs ≡ false
above_not place [] i d lt below = absurd (omega arith)
above_not place (x ∷ xs) zero d lt below = rw (lt-leb place x.lowest below) refl
above_not place (x ∷ xs) (suc i) d lt below = rw (above_not place xs i d (omega arith) below) (and_false (nat_le place x.lowest))
  where
    and_false : (b : Bool) → (b && false) ≡ false
    and_false true = refl
    and_false false = refl

pub above_more : (place : ℕ) (xs : List Sent) (i : ℕ) (d : Sent) → all_above place (take i xs) ≡ true → i < length xs → place ≤ (get_or xs i d).lowest → all_above place (take (suc i) xs) ≡ true
above_more place [] i d are lt above = absurd (omega arith)
above_more place (x ∷ xs) zero d are lt above = rw (le-leb place x.lowest above) refl
above_more place (x ∷ xs) (suc i) d are lt above =
    let both = two (nat_le place x.lowest) (all_above place (take i xs)) are in
    rw (both.0) (above_more place xs i d both.1 (omega arith) above)
  where
    two : (a b : Bool) → (a && b) ≡ true → (a ≡ true) × (b ≡ true)
    two true b e = (refl, e)
    two false b e = cc e

pub above_all : (place : ℕ) (xs : List Sent) (i : ℕ) → all_above place (take i xs) ≡ true → length xs ≤ i → all_above place xs ≡ true
above_all place xs i are end = ap (all_above place) (sym (take_all i xs end)) ∙ are

-- ---- as the loops read them

pub above_step : (place : ℕ) (xs : List Sent) (i : ℕ) (x : Sent) → all_above place (take i xs) ≡ true → i < length xs → x ≡ get_or xs i x → place ≤ x.lowest → all_above place (take (i + 1) xs) ≡ true
above_step place xs i x are lt here above = rw (add-one i) (above_more place xs i x are lt (rw (← here) above))

pub above_stop : (place : ℕ) (xs : List Sent) (i : ℕ) (x : Sent) → i < length xs → x ≡ get_or xs i x → x.lowest < place → false ≡ all_above place xs
above_stop place xs i x lt here below = sym (above_not place xs i x lt (rw (← here) below))

pub taken_step : (stream : ℕ) (xs : List Sent) (i : ℕ) (x : Sent) → taken stream (take i xs) ≡ None → i < length xs → x ≡ get_or xs i x → (x.stream ≡ stream → ⊥) → taken stream (take (i + 1) xs) ≡ None
taken_step stream xs i x none lt here other = rw (add-one i) (taken_more stream xs i x none lt (rw (← here) other))

pub taken_stop : (stream : ℕ) (xs : List Sent) (i : ℕ) (x : Sent) → taken stream (take i xs) ≡ None → i < length xs → x ≡ get_or xs i x → x.stream ≡ stream → taken stream xs ≡ Some (get_or xs i (unsent stream), remove xs i)
taken_stop stream xs i x none lt here same =
    let this : get_or xs i x ≡ get_or xs i (unsent stream) = get_or_default xs i x (unsent stream) lt in
    rw (← this) (taken_here stream xs i x none lt (rw (← here) same))

-- ---- sections of other streams

pub filter_without : (stream : ℕ) (xs : List Sent) → filter (λ (s : Sent). not (s.stream == stream)) xs ≡ without stream xs
filter_without stream [] = refl
filter_without stream (x ∷ xs) = by_stream (x.stream == stream) (filter_without stream xs)
  where
    by_stream : (b : Bool) → filter (λ (s : Sent). not (s.stream == stream)) xs ≡ without stream xs
        → cond (not b) (x ∷ filter (λ (s : Sent). not (s.stream == stream)) xs) (filter (λ (s : Sent). not (s.stream == stream)) xs) ≡ cond b (without stream xs) (x ∷ without stream xs)
    by_stream true e = e
    by_stream false e = ap (λ (z : List Sent). x ∷ z) e

-- ---- sections that may block their streams

drop_place : (xs : List Sent) (i : ℕ) (x : Sent) → i < length xs → x ≡ get_or xs i x → drop i xs ≡ x ∷ drop (i + 1) xs
drop_place xs i x lt here = rw (add-one i) (drop-cons xs i x lt) ∙ ap (λ (s : Sent). s ∷ drop (i + 1) xs) (sym here)

pub waits_here : (known stream : ℕ) (xs : List Sent) (i : ℕ) (x : Sent) → i < length xs → x ≡ get_or xs i x → known < x.required → x.stream ≡ stream → may_wait known stream (drop i xs) ≡ true
waits_here known stream xs i x lt here more same =
    ap (may_wait known stream) (drop_place xs i x lt here) ∙ rw (lt-ltb known x.required more, eq-eqb x.stream stream same) refl

pub waits_on : (known stream : ℕ) (xs : List Sent) (i : ℕ) (x : Sent) → i < length xs → x ≡ get_or xs i x → (known < x.required → x.stream ≡ stream → ⊥) → may_wait known stream (drop (i + 1) xs) ≡ may_wait known stream (drop i xs)
waits_on known stream xs i x lt here none =
    sym (ap (may_wait known stream) (drop_place xs i x lt here) ∙ ap (λ (b : Bool). b || may_wait known stream (drop (i + 1) xs)) not_this)
  where
    not_this : (nat_lt known x.required && x.stream == stream) ≡ false
    not_this = elim (cases_lt known x.required) [
      | inl more ↦ rw (lt-ltb known x.required more, ne_eqb x.stream stream (none more)) refl
      | inr few ↦ rw (le-ltb known x.required few) refl
    ]

pub counts_here : (known : ℕ) (xs : List Sent) (i : ℕ) (x : Sent) → i < length xs → x ≡ get_or xs i x → known < x.required → may_wait known x.stream (drop (i + 1) xs) ≡ false → length (waiting_streams known (drop i xs)) ≡ length (waiting_streams known (drop (i + 1) xs)) + 1
counts_here known xs i x lt here more last =
    ap (λ (ys : List Sent). length (waiting_streams known ys)) (drop_place xs i x lt here) ∙ rw (lt-ltb known x.required more, last) (omega arith)

pub counts_few : (known : ℕ) (xs : List Sent) (i : ℕ) (x : Sent) → i < length xs → x ≡ get_or xs i x → x.required ≤ known → length (waiting_streams known (drop i xs)) ≡ length (waiting_streams known (drop (i + 1) xs))
counts_few known xs i x lt here few =
    ap (λ (ys : List Sent). length (waiting_streams known ys)) (drop_place xs i x lt here) ∙ rw (le-ltb known x.required few) refl

pub counts_again : (known : ℕ) (xs : List Sent) (i : ℕ) (x : Sent) → i < length xs → x ≡ get_or xs i x → may_wait known x.stream (drop (i + 1) xs) ≡ true → length (waiting_streams known (drop i xs)) ≡ length (waiting_streams known (drop (i + 1) xs))
counts_again known xs i x lt here again =
    ap (λ (ys : List Sent). length (waiting_streams known ys)) (drop_place xs i x lt here) ∙ rw again (neither (nat_lt known x.required))
  where
    neither : (b : Bool) → length (cond (b && false) (x.stream ∷ waiting_streams known (drop (i + 1) xs)) (waiting_streams known (drop (i + 1) xs))) ≡ length (waiting_streams known (drop (i + 1) xs))
    neither true = refl
    neither false = refl
