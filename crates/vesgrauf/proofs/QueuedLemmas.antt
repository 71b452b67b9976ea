-- What waits in a queue.
use Rattle.std.proofs.Common.{◌≡◌, ◌↔◌, ◌==◌, ◌++◌, ◌-◌, ◌||◌, not, ℕ, suc, take, List, [], ◌∷◌, length, Bool, true, false, cond, refl, arith, sym, ap, ◌∙◌}
use Rattle.std.specs.Prelude.{IsTrue, MatchBool, OnOk, OnErr, Result, Ok, Err}
use Rattle.vesgrauf_queue.specs.declared.ending.Reset.{Reset}
use Rattle.vesgrauf_queue.specs.declared.config.QueueConfig.{QueueConfig}
use Rattle.vesgrauf_queue.specs.declared.ending.Ending.{Ending}
use Rattle.vesgrauf_queue.specs.declared.ending.Ending.TheVariants as ending
use Rattle.vesgrauf_queue.specs.State.{State as QueueOf, IsIdle, waiting, is_finishing}
use Rattle.vesgrauf_queue.specs.Steps.{Does, Acknowledges, Tells, Puts, PutsReset, Resets, IsNew}
use Rattle.vesgrauf_stream.specs.declared.writing.Writing.{Writing}
use Rattle.vesgrauf.specs.Places.{has_more}

-- ---- what waits in a queue

more_as : (xs ys : List ℕ) (e f : Ending) → ys ≡ xs → f ≡ e
    → (not (length ys == 0) || is_finishing f) ≡ (not (length xs == 0) || is_finishing e)
more_as xs ys e f w k = rw (w, k) refl

-- bytes are acknowledged, or a `Writable` is told or owed
pub more_acked : (s t : QueueOf) (n : ℕ) → Does (Acknowledges n) s t → has_more t ≡ has_more s
more_acked s t n d = more_as (waiting s) (waiting t) s.ending t.ending d.waits d.ending

pub more_told : (s t : QueueOf) → Does Tells s t → has_more t ≡ has_more s
more_told s t d = more_as (waiting s) (waiting t) s.ending t.ending d.waits d.ending

quiet_by : (xs : List ℕ) (e : Ending) → xs ≡ [] → is_finishing e ≡ false
    → (not (length xs == 0) || is_finishing e) ≡ false
quiet_by xs e h k = rw (h, k) refl

-- QUIC takes the reset, before which nothing waits
pub more_reset_put : (s t : QueueOf) (code size : ℕ) → Does (PutsReset code size) s t → has_more t ≡ has_more s
more_reset_put s t code size d =
    quiet_by (waiting t) t.ending (d.waits ∙ d.none) (rw d.ending refl)
    ∙ sym (quiet_by (waiting s) s.ending d.none (rw d.from refl))

-- nothing waits on a stream that is reset, nor on a new one
pub more_reset : (s t : QueueOf) (code : ℕ) → Does (Resets code 0) s t → has_more t ≡ false
more_reset s t code d = quiet_by (waiting t) t.ending (d.waits ∙ nothing s.put (waiting s)) (rw d.ending refl)
  where
    nothing : (n : ℕ) (xs : List ℕ) → take (0 - n) xs ≡ []
    nothing n xs = let none : 0 - n ≡ 0 = omega arith in rw none refl

pub more_new : (s : QueueOf) (config : QueueConfig) → IsNew config s → has_more s ≡ false
more_new s config n = quiet_by (waiting s) s.ending n.waits (rw n.ending refl)

put_by : (xs ys zs : List ℕ) (e f : Ending) (fin : Bool) → xs ≡ ys ++ zs → f ≡ cond fin ending.Finished e
    → (not (length zs == 0) || is_finishing f) ≡ true → (not (length xs == 0) || is_finishing e) ≡ true
put_by xs ys [] e f true w k h = absurd (let bad : false ≡ true = sym (ap (λ x. is_finishing x) k) ∙ h in cc)
put_by xs ys [] e f false w k h = or_right (not (length xs == 0)) (is_finishing e) (sym (ap (λ x. is_finishing x) k) ∙ h)
  where
    or_right : (a b : Bool) → b ≡ true → (a || b) ≡ true
    or_right true b h = refl
    or_right false b h = h
put_by xs ys (z ∷ zs) e f fin w k h = rw w (longer ys)
  where
    some : (n : ℕ) → (not (suc n == 0) || is_finishing e) ≡ true
    some n = let not_zero : (suc n == 0) ≡ false = grind arith in rw not_zero refl

    longer : (front : List ℕ) → (not (length (front ++ (z ∷ zs)) == 0) || is_finishing e) ≡ true
    longer [] = some (length zs)
    longer (a ∷ front) = some (length (front ++ (z ∷ zs)))

-- the same of calls
pub reset_quiet : (b : Bool) (A B : Type 0) (s t : QueueOf) (code : ℕ) → MatchBool b (A × Does (Resets code 0) s t) B
    → b ≡ true → has_more t ≡ false
reset_quiet true A B s t code m h = more_reset s t code m.1
reset_quiet false A B s t code m h = absurd (let bad : false ≡ true = h in cc)

pub more_unset : (b : Bool) (A B : Type 0) (v w : Writing) → MatchBool b A ((w ≡ v) × B) → b ≡ false
    → has_more w.queue ≡ has_more v.queue
more_unset true A B v w m h = absurd (let bad : true ≡ false = h in cc)
more_unset false A B v w m h = ap (λ x. has_more x.queue) m.0

pub told_more : (b : Bool) (B : Type 0) (v w : Writing) → MatchBool b (Does Tells v.queue w.queue) ((w ≡ v) × B)
    → has_more w.queue ≡ has_more v.queue
told_more true B v w m = more_told v.queue w.queue m
told_more false B v w m = ap (λ x. has_more x.queue) m.0

pub reset_put_more : {A E : Type 0} (answer : Result A E) (v w : Writing)
    → OnOk answer ((r : Reset) × Does (PutsReset r.code r.size) v.queue w.queue) → OnErr answer (w ≡ v)
    → has_more w.queue ≡ has_more v.queue
reset_put_more (Ok x) v w m n = more_reset_put v.queue w.queue m.0.code m.0.size m.1
reset_put_more (Err x) v w m n = ap (λ x. has_more x.queue) n

-- what waits after QUIC took some did before
pub more_put : (s t : QueueOf) (bytes : List ℕ) (fin : Bool) → Does (Puts bytes fin) s t
    → has_more t ≡ true → has_more s ≡ true
more_put s t bytes fin d h = put_by (waiting s) bytes (waiting t) s.ending t.ending fin d.waits d.ending h

-- ---- nothing waits

empty_by : (xs : List ℕ) → not (length xs == 0) ≡ false → xs ≡ []
empty_by [] h = refl
empty_by (x ∷ xs) h = absurd (some (length xs) h)
  where
    some : (n : ℕ) → not (suc n == 0) ≡ false → ⊥
    some n e = grind (arith, e)

or_none : (a b : Bool) → (a || b) ≡ false → (a ≡ false) × (b ≡ false)
or_none true b h = absurd (let bad : true ≡ false = h in cc)
or_none false b h = (refl, h)

idle_of : (q : QueueOf) → has_more q ≡ false → IsIdle q
idle_of q h = record {
  none = empty_by (waiting q) (or_none (not (length (waiting q) == 0)) (is_finishing q.ending) h).0;
  ended = (or_none (not (length (waiting q) == 0)) (is_finishing q.ending) h).1;
}

pub more_none : (q : QueueOf) → IsIdle q → has_more q ≡ false
more_none q h = quiet_by (waiting q) q.ending h.none h.ended

pub more_is : (b : Bool) (q : QueueOf) → (IsTrue b ↔ ¬ (IsIdle q)) → b ≡ has_more q
more_is b q h = by b (has_more q) (λ m. idle_of q m) (λ i. more_none q i) h
  where
    by : (b m : Bool) → (m ≡ false → IsIdle q) → (IsIdle q → m ≡ false) → (IsTrue b ↔ ¬ (IsIdle q)) → b ≡ m
    by true true i j h = refl
    by false false i j h = refl
    by true false i j h = absurd (h.0 refl (i refl))
    by false true i j h = absurd (let bad : false ≡ true = h.1 (λ k. absurd (let no : true ≡ false = j k in cc)) in cc)
