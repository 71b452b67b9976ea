-- Pieces of a stream, and of many streams.
use Rattle.std.proofs.Common.{◌≡◌, ℕ, true, false, cond, eqb, List, [], ◌∷◌, ◌++◌, map, refl, sym, ap, subst, ◌∙◌, append_assoc, inl, inr}
use Rattle.std.proofs.lemmas.Bool.{eqb-true, cases_Bool}
use Rattle.std.proofs.lemmas.List.{append-nil}
use Rattle.wtp_frames.specs.declared.reader.Reader.{Reader}
use Rattle.wtp_frames.specs.Item.{Item}
use Rattle.wtp_frames.specs.Run.{Run, stays, preceded, run}
use Rattle.wtp_frames.specs.Reading.{items_of, left_after}
use Rattle.wtp_frames.specs.Pieces.{Event, Came, Returned, Leads, bytes_in, given_in, Held, IsStill, Table, taken, held_after, with_piece, Arrivals, items_due, bytes_of, items_on}
use Rattle.wtp_frames.proofs.CutLemmas.{cut, left_waits}

-- ---- one stream

twice : (xs ys : List Item) (x : Run) → preceded xs (preceded ys x) ≡ preceded (xs ++ ys) x
twice xs ys x = ap (λ (items : List Item). record { items = items; reader = x.reader; left = x.left }) (sym (append_assoc xs ys x.items))

pub led : (events : List Event) (old new : Reader) (bytes rest more : List ℕ) → Leads events old bytes new rest → run old (bytes ++ (bytes_in events ++ more)) ≡ preceded (given_in events bytes) (run new (rest ++ more))
led [] old new bytes rest more (same, left) = rw (same, left) refl
led (Came piece ∷ events) old new bytes rest more l =
    ap (λ (x : List ℕ). run old x) (ap (λ (x : List ℕ). bytes ++ x) (append_assoc piece (bytes_in events) more) ∙ sym (append_assoc bytes piece (bytes_in events ++ more)))
    ∙ led events old new (bytes ++ piece) rest more l
led (Returned step ∷ events) old new bytes rest more (mid, is, l) =
    is.gives (bytes_in events ++ more)
    ∙ ap (λ (x : Run). preceded (items_of step bytes) x) (led events mid new (left_after step bytes) rest more l)
    ∙ twice (items_of step bytes) (given_in events (left_after step bytes)) (run new (rest ++ more))

pub led_waiting : (events : List Event) (old new : Reader) (rest : List ℕ) → Leads events old [] new rest → run new rest ≡ stays new rest → run old (bytes_in events) ≡ record { items = given_in events []; reader = new; left = rest }
led_waiting events old new rest l w =
    ap (λ (x : List ℕ). run old x) (sym (append-nil (bytes_in events)))
    ∙ led events old new [] rest [] l
    ∙ ap (λ (x : List ℕ). preceded (given_in events []) (run new x)) (append-nil rest)
    ∙ ap (λ (x : Run). preceded (given_in events []) x) w
    ∙ ap (λ (i : List Item). record { items = i; reader = new; left = rest }) (append-nil (given_in events []))

-- ---- many streams

on_append : (n : ℕ) (xs ys : List (ℕ × Item)) → items_on n (xs ++ ys) ≡ items_on n xs ++ items_on n ys
on_append n [] ys = refl
on_append n (x ∷ xs) ys = elim (eqb x.0 n) as (λ b. cond b (x.1 ∷ items_on n (xs ++ ys)) (items_on n (xs ++ ys)) ≡ cond b (x.1 ∷ items_on n xs) (items_on n xs) ++ items_on n ys) [
  | true ↦ ap (λ (l : List Item). x.1 ∷ l) (on_append n xs ys)
  | false ↦ on_append n xs ys
]

on_same : (n m : ℕ) (items : List Item) → eqb m n ≡ true → items_on n (map (λ i. (m, i)) items) ≡ items
on_same n m [] e = refl
on_same n m (i ∷ items) e = rw e (ap (λ (l : List Item). i ∷ l) (on_same n m items e))

on_other : (n m : ℕ) (items : List Item) → eqb m n ≡ false → items_on n (map (λ i. (m, i)) items) ≡ []
on_other n m [] e = refl
on_other n m (i ∷ items) e = rw e (on_other n m items e)

-- what stream n holds after a piece of stream m
held_same : (n m : ℕ) (piece : List ℕ) (t : Table) → eqb m n ≡ true → with_piece m piece t n ≡ held_after (taken (t n) piece)
held_same n m piece t e = rw e (ap (λ (k : ℕ). held_after (taken (t k) piece)) (eqb-true m n e))

held_other : (n m : ℕ) (piece : List ℕ) (t : Table) → eqb m n ≡ false → with_piece m piece t n ≡ t n
held_other n m piece t e = rw e refl

still_after : (h : Held) (piece : List ℕ) → IsStill (held_after (taken h piece))
still_after h piece = left_waits h.reader (h.left ++ piece)

pub interleaved : (n : ℕ) (arrivals : Arrivals) (t : Table) → IsStill (t n) → items_on n (items_due t arrivals) ≡ (taken (t n) (bytes_of n arrivals)).items
interleaved n [] t still = ap (λ (x : Run). x.items) (sym still) ∙ ap (λ (l : List ℕ). (run (t n).reader l).items) (sym (append-nil (t n).left))
interleaved n (a ∷ arrivals) t still = elim (cases_Bool (eqb a.0 n)) [
  | inl same ↦
      let h : with_piece a.0 a.1 t n ≡ held_after (taken (t n) a.1) = held_same n a.0 a.1 t same in
      let after : IsStill (with_piece a.0 a.1 t n) = subst (λ (x : Held). IsStill x) (sym h) (still_after (t n) a.1) in
      on_append n (map (λ i. (a.0, i)) (taken (t a.0) a.1).items) (items_due (with_piece a.0 a.1 t) arrivals)
      ∙ ap (λ (l : List Item). l ++ items_on n (items_due (with_piece a.0 a.1 t) arrivals)) (on_same n a.0 (taken (t a.0) a.1).items same ∙ ap (λ (k : ℕ). (taken (t k) a.1).items) (eqb-true a.0 n same))
      ∙ ap (λ (l : List Item). (taken (t n) a.1).items ++ l) (interleaved n arrivals (with_piece a.0 a.1 t) after ∙ ap (λ (x : Held). (taken x (bytes_of n arrivals)).items) h)
      ∙ sym (ap (λ (x : Run). x.items) (cut (t n).reader ((t n).left ++ a.1) (bytes_of n arrivals)))
      ∙ ap (λ (l : List ℕ). (run (t n).reader l).items) (append_assoc (t n).left a.1 (bytes_of n arrivals))
      ∙ rw same refl
  | inr other ↦
      let h : with_piece a.0 a.1 t n ≡ t n = held_other n a.0 a.1 t other in
      let after : IsStill (with_piece a.0 a.1 t n) = subst (λ (x : Held). IsStill x) (sym h) still in
      on_append n (map (λ i. (a.0, i)) (taken (t a.0) a.1).items) (items_due (with_piece a.0 a.1 t) arrivals)
      ∙ ap (λ (l : List Item). l ++ items_on n (items_due (with_piece a.0 a.1 t) arrivals)) (on_other n a.0 (taken (t a.0) a.1).items other)
      ∙ interleaved n arrivals (with_piece a.0 a.1 t) after
      ∙ ap (λ (x : Held). (taken x (bytes_of n arrivals)).items) h
      ∙ rw other refl
]
