-- The end comes once and last, and after it at most a reset.
use Rattle.std.proofs.Common.{◌≡◌, ◌||◌, ◌&&◌, ◌==◌, Bool, true, false, if◌then◌else◌, ℕ, ◌-◌, List, [], ◌∷◌, ◌++◌, length, take, refl, sym, ap, ◌∙◌, arith, length-take, append_assoc}
use Rattle.std.proofs.lemmas.List.{append-nil}
use Rattle.std.proofs.lemmas.Bool.{false≢true}
use borrow.Author.Tests.{eqb-true}
use Rattle.vesgrauf_queue.specs.declared.config.QueueConfig.{QueueConfig}
use Rattle.vesgrauf_queue.specs.declared.ending.Reset.{Reset}
use Rattle.vesgrauf_queue.specs.declared.ending.Ending.{Ending}
use Rattle.vesgrauf_queue.specs.declared.ending.Ending.TheVariants.{Open, Finishing, Finished, Resetting, WasReset}
use Rattle.vesgrauf_queue.specs.State.{State, waiting, is_finishing, is_reset, IsIdle}
use Rattle.vesgrauf_queue.specs.Steps.{Step, Queues, Refuses, Finishes, Resets, Puts, PutsReset, Acknowledges, Tells, Leads, Run, IsPut, ends_with}
use Rattle.vesgrauf_queue.specs.Runs.{queued, put, finished, fin_put, PutsInOrder, was_reset}
use Rattle.vesgrauf_queue.proofs.PieceLemmas.{no-bytes}
use Rattle.vesgrauf_queue.proofs.RunLemmas.{tracks, is_open, is_reset_put, not_open, closed}

-- ---- the end, and after it

-- nothing is to be put but a reset
pub record IsQuiet (s : State) : Type 0 where
  pub none : waiting s ≡ []
  pub shut : is_open s.ending ≡ false
  pub done : is_finishing s.ending ≡ false

pub no-rest : (a b : List ℕ) → [] ≡ a ++ b → (a ≡ []) × (b ≡ [])
no-rest [] b e = (refl, sym e)
no-rest (x ∷ a) b e = absurd (omega (arith, ap length e))

pub ends-false : (s : State) (rest : List ℕ) → is_finishing s.ending ≡ false → ends_with s rest ≡ false
ends-false s rest done = ap (λ b. b && length rest == 0) done

-- QUIC takes nothing of a quiet stream
quiet-put : (s m : State) (bytes : List ℕ) (fin : Bool) → IsQuiet s → IsPut s bytes fin m → (bytes ≡ []) × (fin ≡ false) × IsQuiet m
quiet-put s m bytes fin q p =
    let e = no-rest bytes (waiting m) (sym q.none ∙ p.waits) in
    let f : fin ≡ false = p.ends ∙ ends-false s (waiting m) q.done in
    let same : m.ending ≡ s.ending = p.ending ∙ ap (λ b. if b then Finished else s.ending) f in
    (e.0, f, record { none = e.1; shut = ap is_open same ∙ q.shut; done = ap is_finishing same ∙ q.done })

-- it is quiet once QUIC took the end
ended-put : (s m : State) (bytes : List ℕ) → IsPut s bytes true m → IsQuiet m
ended-put s m bytes p = record {
  none = no-bytes (waiting m) (omega (arith, by (is_finishing s.ending) (length (waiting m) == 0) refl (sym p.ends)));
  shut = ap is_open p.ending;
  done = ap is_finishing p.ending;
}
  where
    by : (a b : Bool) → (length (waiting m) == 0) ≡ b → (a && b) ≡ true → length (waiting m) ≡ 0
    by true true e h = eqb-true (length (waiting m)) 0 e
    by true false e h = absurd (false≢true h)
    by false b e h = absurd (false≢true h)

quiet-reset : (s m : State) (n : ℕ) (r : Reset) → IsQuiet s → waiting m ≡ take n (waiting s) → m.ending ≡ Resetting r → IsQuiet m
quiet-reset s m n r q waits ending = record {
  none = waits ∙ ap (take n) q.none ∙ no-bytes (take n []) (omega (arith, length-take {A = ℕ} n []));
  shut = ap is_open ending;
  done = ap is_finishing ending;
}

quiet-stays : (s m : State) → IsQuiet s → waiting m ≡ waiting s → m.ending ≡ s.ending → IsQuiet m
quiet-stays s m q waits ending = record {
  none = waits ∙ q.none;
  shut = ap is_open ending ∙ q.shut;
  done = ap is_finishing ending ∙ q.done;
}

quiet-reset-put : (s m : State) (r : Reset) → waiting s ≡ [] → waiting m ≡ waiting s → m.ending ≡ WasReset r → IsQuiet m
quiet-reset-put s m r none waits ending = record {
  none = waits ∙ none;
  shut = ap is_open ending;
  done = ap is_finishing ending;
}

-- what is known of the ending
pub record Ordered (ended over : Bool) (s : State) : Type 0 where
  pub quiet : (ended || over) ≡ true → IsQuiet s
  pub reset : over ≡ true → is_reset_put s.ending ≡ true

or-left : (a b : Bool) → a ≡ true → (a || b) ≡ true
or-left true b e = refl
or-left false b e = absurd (false≢true e)

or-right : (a b : Bool) → b ≡ true → (a || b) ≡ true
or-right true b e = refl
or-right false b e = e

not-quiet : {A : Type 0} (ended over : Bool) (s : State) → Ordered ended over s → s.ending ≡ Open → ((ended || over) ≡ true → A)
not-quiet ended over s o e h = not_open (o.quiet h).shut e

-- a step of an open stream
ordered-open : (ended over : Bool) (s m : State) → Ordered ended over s → s.ending ≡ Open → Ordered ended over m
ordered-open ended over s m o e = record {
  quiet = λ h. not-quiet ended over s o e h;
  reset = λ h. not-quiet ended over s o e (or-right ended over h);
}

ordered-stays : (ended over : Bool) (s m : State) → Ordered ended over s → waiting m ≡ waiting s → m.ending ≡ s.ending → Ordered ended over m
ordered-stays ended over s m o waits ending = record {
  quiet = λ h. quiet-stays s m (o.quiet h) waits ending;
  reset = λ h. ap is_reset_put ending ∙ o.reset h;
}

ordered-reset : (ended over : Bool) (s m : State) (n : ℕ) (r : Reset) → Ordered ended over s → is_reset s.ending ≡ false
    → waiting m ≡ take n (waiting s) → m.ending ≡ Resetting r → Ordered ended over m
ordered-reset ended over s m n r o from waits ending = record {
  quiet = λ h. quiet-reset s m n r (o.quiet h) waits ending;
  reset = λ h. absurd (never s.ending (o.reset h) from);
}
  where
    never : (e : Ending) → is_reset_put e ≡ true → is_reset e ≡ false → ⊥
    never Open h f = false≢true h
    never Finishing h f = false≢true h
    never Finished h f = false≢true h
    never (Resetting x) h f = false≢true h
    never (WasReset x) h f = false≢true (sym f)

ordered-put : (ended over fin : Bool) (s m : State) (bytes : List ℕ) → Ordered ended over s → IsPut s bytes fin m
    → Ordered (ended || fin) over m
ordered-put ended over true s m bytes o p = record {
  quiet = λ h. ended-put s m bytes p;
  reset = λ h. absurd (false≢true (sym (quiet-put s m bytes true (o.quiet (or-right ended over h)) p).1));
}
ordered-put ended over false s m bytes o p = record {
  quiet = λ h. (quiet-put s m bytes false (o.quiet (ap (λ b. b || over) (sym (or-false ended)) ∙ h)) p).2;
  reset = λ h. ap is_reset_put p.ending ∙ o.reset h;
}
  where
    or-false : (a : Bool) → (a || false) ≡ a
    or-false true = refl
    or-false false = refl

ordered-reset-put : (ended over : Bool) (s m : State) (r : Reset) → waiting s ≡ [] → waiting m ≡ waiting s → m.ending ≡ WasReset r
    → Ordered ended true m
ordered-reset-put ended over s m r none waits ending = record {
  quiet = λ h. quiet-reset-put s m r none waits ending;
  reset = λ h. ap is_reset_put ending;
}

pub in-order : (xs : List Step) (s t : State) (ended over : Bool) → Leads xs s t → Ordered ended over s → PutsInOrder ended over xs
in-order [] s t ended over l o = tt
in-order (Queues bytes room ∷ xs) s t ended over l o = in-order xs l.0 t ended over l.2 (ordered-open ended over s l.0 o l.1.from)
in-order (Refuses ∷ xs) s t ended over l o = in-order xs l.0 t ended over l.2 (ordered-open ended over s l.0 o l.1.from)
in-order (Finishes ∷ xs) s t ended over l o = in-order xs l.0 t ended over l.2 (ordered-open ended over s l.0 o l.1.from)
in-order (Resets code size ∷ xs) s t ended over l o =
    in-order xs l.0 t ended over l.2 (ordered-reset ended over s l.0 (size - s.put) _ o l.1.from l.1.waits l.1.ending)
in-order (Puts bytes fin ∷ xs) s t ended over l o = (
  (λ h. let q = quiet-put s l.0 bytes fin (o.quiet h) l.1 in (q.0, q.1)),
  in-order xs l.0 t (ended || fin) over l.2 (ordered-put ended over fin s l.0 bytes o l.1),
)
in-order (PutsReset code size ∷ xs) s t ended over l o =
    (not-over over o.reset, in-order xs l.0 t ended true l.2 (ordered-reset-put ended over s l.0 _ l.1.none l.1.waits l.1.ending))
  where
    not-over : (b : Bool) → (b ≡ true → is_reset_put s.ending ≡ true) → b ≡ false
    not-over false h = refl
    not-over true h = absurd (false≢true (sym (ap is_reset_put l.1.from) ∙ h refl))
in-order (Acknowledges n ∷ xs) s t ended over l o =
    in-order xs l.0 t ended over l.2 (ordered-stays ended over s l.0 o l.1.waits l.1.ending)
in-order (Tells ∷ xs) s t ended over l o = in-order xs l.0 t ended over l.2 (ordered-open ended over s l.0 o l.1.from)

pub in-order-new : (config : QueueConfig) (xs : List Step) (t : State) → Run config xs t → PutsInOrder false false xs
in-order-new config xs t run =
    in-order xs run.0 t false false run.2 (record { quiet = λ h. absurd (false≢true h); reset = λ h. absurd (false≢true h) })

-- ---- the end comes with all that was queued

-- no end comes of a stream that is neither open nor to end
no-end : (xs : List Step) (s t : State) → Leads xs s t → is_open s.ending ≡ false → is_finishing s.ending ≡ false → fin_put xs ≡ false
no-end [] s t l shut done = refl
no-end (Queues bytes room ∷ xs) s t l shut done = not_open shut l.1.from
no-end (Refuses ∷ xs) s t l shut done = not_open shut l.1.from
no-end (Finishes ∷ xs) s t l shut done = not_open shut l.1.from
no-end (Resets code size ∷ xs) s t l shut done = no-end xs l.0 t l.2 (ap is_open l.1.ending) (ap is_finishing l.1.ending)
no-end (Puts bytes true ∷ xs) s t l shut done = absurd (false≢true (sym (ends-false s (waiting l.0) done) ∙ sym l.1.ends))
no-end (Puts bytes false ∷ xs) s t l shut done =
    no-end xs l.0 t l.2 (ap is_open l.1.ending ∙ shut) (ap is_finishing l.1.ending ∙ done)
no-end (PutsReset code size ∷ xs) s t l shut done = no-end xs l.0 t l.2 (ap is_open l.1.ending) (ap is_finishing l.1.ending)
no-end (Acknowledges n ∷ xs) s t l shut done = no-end xs l.0 t l.2 (ap is_open l.1.ending ∙ shut) (ap is_finishing l.1.ending ∙ done)
no-end (Tells ∷ xs) s t l shut done = not_open shut l.1.from

-- nothing is put of a quiet stream
quiet-puts : (xs : List Step) (s t : State) → Leads xs s t → IsQuiet s → put xs ≡ []
quiet-puts [] s t l q = refl
quiet-puts (Queues bytes room ∷ xs) s t l q = not_open q.shut l.1.from
quiet-puts (Refuses ∷ xs) s t l q = not_open q.shut l.1.from
quiet-puts (Finishes ∷ xs) s t l q = not_open q.shut l.1.from
quiet-puts (Resets code size ∷ xs) s t l q = quiet-puts xs l.0 t l.2 (quiet-reset s l.0 (size - s.put) _ q l.1.waits l.1.ending)
quiet-puts (Puts bytes fin ∷ xs) s t l q =
    let p = quiet-put s l.0 bytes fin q l.1 in
    ap (λ b. b ++ put xs) p.0 ∙ quiet-puts xs l.0 t l.2 p.2
quiet-puts (PutsReset code size ∷ xs) s t l q = quiet-puts xs l.0 t l.2 (quiet-reset-put s l.0 _ l.1.none l.1.waits l.1.ending)
quiet-puts (Acknowledges n ∷ xs) s t l q = quiet-puts xs l.0 t l.2 (quiet-stays s l.0 q l.1.waits l.1.ending)
quiet-puts (Tells ∷ xs) s t l q = not_open q.shut l.1.from

-- all that waits or is queued is put, and the stream is finished or was
pub record Whole (s : State) (xs : List Step) : Type 0 where
  pub bytes : put xs ≡ waiting s ++ queued xs
  pub ended : is_open s.ending ≡ true → finished xs ≡ true

whole-stays : (s m : State) (x : Step) (xs : List Step) → waiting m ≡ waiting s → m.ending ≡ s.ending
    → put (x ∷ xs) ≡ put xs → queued (x ∷ xs) ≡ queued xs → finished (x ∷ xs) ≡ finished xs → Whole m xs → Whole s (x ∷ xs)
whole-stays s m x xs waits ending p q f w = record {
  bytes = p ∙ w.bytes ∙ ap (λ b. b ++ queued xs) waits ∙ ap (λ b. waiting s ++ b) (sym q);
  ended = λ h. f ∙ w.ended (ap is_open ending ∙ h);
}

whole : (xs : List Step) (s t : State) → Leads xs s t → fin_put xs ≡ true → Whole s xs
whole [] s t l h = absurd (false≢true h)
whole (Queues bytes room ∷ xs) s t l h =
    let w = whole xs l.0 t l.2 h in
    record {
      bytes = w.bytes ∙ ap (λ b. b ++ queued xs) l.1.waits ∙ append_assoc (waiting s) bytes (queued xs);
      ended = λ e. w.ended (ap is_open l.1.ending ∙ e);
    }
whole (Refuses ∷ xs) s t l h = whole-stays s l.0 Refuses xs l.1.waits l.1.ending refl refl refl (whole xs l.0 t l.2 h)
whole (Finishes ∷ xs) s t l h =
    let w = whole xs l.0 t l.2 h in
    record { bytes = w.bytes ∙ ap (λ b. b ++ queued xs) l.1.waits; ended = λ e. refl }
whole (Resets code size ∷ xs) s t l h =
    absurd (false≢true (sym (no-end xs l.0 t l.2 (ap is_open l.1.ending) (ap is_finishing l.1.ending)) ∙ h))
whole (Puts bytes true ∷ xs) s t l h =
    let q = ended-put s l.0 bytes l.1 in
    record {
      bytes = ap (λ b. bytes ++ b) (quiet-puts xs l.0 t l.2 q ∙ sym q.none)
          ∙ sym l.1.waits
          ∙ sym (append-nil (waiting s))
          ∙ ap (λ b. waiting s ++ b) (sym (closed xs l.0 t l.2 q.shut));
      ended = λ e. absurd (false≢true (sym (ends-false s (waiting l.0) (open-goes-on s.ending e)) ∙ sym l.1.ends));
    }
  where
    open-goes-on : (e : Ending) → is_open e ≡ true → is_finishing e ≡ false
    open-goes-on Open h = refl
    open-goes-on Finishing h = absurd (false≢true h)
    open-goes-on Finished h = refl
    open-goes-on (Resetting r) h = refl
    open-goes-on (WasReset r) h = refl
whole (Puts bytes false ∷ xs) s t l h =
    let w = whole xs l.0 t l.2 h in
    record {
      bytes = ap (λ b. bytes ++ b) w.bytes
          ∙ sym (append_assoc bytes (waiting l.0) (queued xs))
          ∙ ap (λ b. b ++ queued xs) (sym l.1.waits);
      ended = λ e. w.ended (ap is_open l.1.ending ∙ e);
    }
whole (PutsReset code size ∷ xs) s t l h =
    absurd (false≢true (sym (no-end xs l.0 t l.2 (ap is_open l.1.ending) (ap is_finishing l.1.ending)) ∙ h))
whole (Acknowledges n ∷ xs) s t l h = whole-stays s l.0 (Acknowledges n) xs l.1.waits l.1.ending refl refl refl (whole xs l.0 t l.2 h)
whole (Tells ∷ xs) s t l h = whole-stays s l.0 Tells xs l.1.waits l.1.ending refl refl refl (whole xs l.0 t l.2 h)

pub whole-new : (config : QueueConfig) (xs : List Step) (t : State) → Run config xs t → fin_put xs ≡ true
    → (put xs ≡ queued xs) × (finished xs ≡ true)
whole-new config xs t run h =
    let w = whole xs run.0 t run.2 h in
    (w.bytes ∙ ap (λ b. b ++ queued xs) run.1.waits, w.ended (ap is_open run.1.ending))

-- ---- what is left where nothing is to be put

-- a stream that is to end goes on to until QUIC takes the end, if it is not reset
goes-on : (xs : List Step) (s t : State) → Leads xs s t → was_reset xs ≡ false → fin_put xs ≡ false
    → (is_finishing s.ending || finished xs) ≡ true → is_finishing t.ending ≡ true
goes-on [] s t l none out h = ap (λ (x : State). is_finishing x.ending) l ∙ by (is_finishing s.ending) h
  where
    by : (a : Bool) → (a || false) ≡ true → a ≡ true
    by true e = refl
    by false e = e
goes-on (Queues bytes room ∷ xs) s t l none out h =
    goes-on xs l.0 t l.2 none out (ap (λ a. a || finished xs) (ap is_finishing l.1.ending) ∙ h)
goes-on (Refuses ∷ xs) s t l none out h =
    goes-on xs l.0 t l.2 none out (ap (λ a. a || finished xs) (ap is_finishing l.1.ending) ∙ h)
goes-on (Finishes ∷ xs) s t l none out h = goes-on xs l.0 t l.2 none out (or-left (is_finishing l.0.ending) (finished xs) (ap is_finishing l.1.ending))
goes-on (Resets code size ∷ xs) s t l none out h = absurd (false≢true (sym none))
goes-on (Puts bytes true ∷ xs) s t l none out h = absurd (false≢true (sym out))
goes-on (Puts bytes false ∷ xs) s t l none out h =
    goes-on xs l.0 t l.2 none out (ap (λ a. a || finished xs) (ap is_finishing l.1.ending) ∙ h)
goes-on (PutsReset code size ∷ xs) s t l none out h =
    goes-on xs l.0 t l.2 none out (or-right (is_finishing l.0.ending) (finished xs) (by (ap is_finishing l.1.from) h))
  where
    by : {a b : Bool} → a ≡ false → (a || b) ≡ true → b ≡ true
    by {a} {b} e k = ap (λ x. x || b) (sym e) ∙ k
goes-on (Acknowledges n ∷ xs) s t l none out h =
    goes-on xs l.0 t l.2 none out (ap (λ a. a || finished xs) (ap is_finishing l.1.ending) ∙ h)
goes-on (Tells ∷ xs) s t l none out h =
    goes-on xs l.0 t l.2 none out (ap (λ a. a || finished xs) (ap is_finishing l.1.ending) ∙ h)

pub ended-idle : (config : QueueConfig) (xs : List Step) (t : State) → Run config xs t → IsIdle t → was_reset xs ≡ false
    → finished xs ≡ true → fin_put xs ≡ true
ended-idle config xs t run idle none done = by (fin_put xs) refl
  where
    by : (b : Bool) → fin_put xs ≡ b → b ≡ true
    by true e = refl
    by false e = absurd (false≢true (sym idle.ended ∙ goes-on xs run.0 t run.2 none e (or-right (is_finishing run.0.ending) (finished xs) done)))

pub put-idle : (config : QueueConfig) (xs : List Step) (t : State) → Run config xs t → IsIdle t → was_reset xs ≡ false
    → put xs ≡ queued xs
put-idle config xs t run idle none =
    sym (append-nil (put xs))
    ∙ ap (λ w. put xs ++ w) (sym idle.none)
    ∙ sym (tracks xs run.0 t run.2 none)
    ∙ ap (λ w. w ++ queued xs) run.1.waits
