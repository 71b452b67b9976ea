-- A reset keeps to its code and its size.
use Rattle.std.specs.Prelude.{min}
use Rattle.std.proofs.Common.{◌≡◌, ◌⊎◌, inl, inr, ◌&&◌, Bool, true, false, if◌then◌else◌, ℕ, zero, suc, ◌+◌, ◌-◌, ◌≤◌, List, [], ◌∷◌, length, take, refl, sym, ap, ◌∙◌, subst, arith, length-append, length-take, Option, Some, None}
use Rattle.std.proofs.lemmas.Bool.{false≢true}
use Rattle.vesgrauf_queue.specs.declared.config.QueueConfig.{QueueConfig}
use Rattle.vesgrauf_queue.specs.declared.ending.Reset.{Reset}
use Rattle.vesgrauf_queue.specs.declared.ending.Ending.{Ending}
use Rattle.vesgrauf_queue.specs.declared.ending.Ending.TheVariants.{Open, Finishing, Finished, Resetting, WasReset}
use Rattle.vesgrauf_queue.specs.State.{State, waiting, is_finishing, is_reset}
use Rattle.vesgrauf_queue.specs.Steps.{Step, Queues, Refuses, Finishes, Resets, Puts, PutsReset, Acknowledges, Tells, Leads, Run, IsPut}
use Rattle.vesgrauf_queue.specs.Runs.{put, ResetsFor, StaysWithin}
use Rattle.vesgrauf_queue.proofs.PieceLemmas.{no-bytes}
use Rattle.vesgrauf_queue.proofs.RunLemmas.{is_open, not_open}
use Rattle.vesgrauf_queue.proofs.EndLemmas.{ends-false, no-rest}

-- ---- why a reset is put

-- the codes that were asked for, where so many bytes were queued of the stream
abbrev pub AskedBy : List ℕ → Ending → ℕ → Type 0
AskedBy asked (Resetting r) all = (asked ≡ r.code ∷ []) × (r.size ≤ all)
AskedBy asked (WasReset r) all = Unit {0}
AskedBy asked other all = asked ≡ []

asked-none : (asked : List ℕ) (e : Ending) (all : ℕ) → AskedBy asked e all → is_reset e ≡ false → asked ≡ []
asked-none asked Open all a h = a
asked-none asked Finishing all a h = a
asked-none asked Finished all a h = a
asked-none asked (Resetting r) all a h = absurd (false≢true (sym h))
asked-none asked (WasReset r) all a h = absurd (false≢true (sym h))

asked-finishing : (asked : List ℕ) (e : Ending) (all : ℕ) → AskedBy asked e all → is_finishing e ≡ true → asked ≡ []
asked-finishing asked Open all a h = absurd (false≢true h)
asked-finishing asked Finishing all a h = a
asked-finishing asked Finished all a h = absurd (false≢true h)
asked-finishing asked (Resetting r) all a h = absurd (false≢true h)
asked-finishing asked (WasReset r) all a h = absurd (false≢true h)

asked-moves : (asked : List ℕ) (e f : Ending) (all more : ℕ) → AskedBy asked e all → f ≡ e → more ≡ all → AskedBy asked f more
asked-moves asked e f all more a ending same =
    subst (λ (g : Ending). AskedBy asked g more) (sym ending) (subst (λ (n : ℕ). AskedBy asked e n) (sym same) a)

asked-open : (asked : List ℕ) (e f : Ending) (all more : ℕ) → AskedBy asked e all → e ≡ Open → f ≡ Open → AskedBy asked f more
asked-open asked e f all more a ending same =
    subst (λ (g : Ending). AskedBy asked g more) (sym same) (subst (λ (g : Ending). AskedBy asked g all) ending a)

and-left : (a b : Bool) → (a && b) ≡ true → a ≡ true
and-left true b e = refl
and-left false b e = absurd (false≢true e)

all-put : (s m : State) (bytes : List ℕ) (fin : Bool) → IsPut s bytes fin m → m.put + length (waiting m) ≡ s.put + length (waiting s)
all-put s m bytes fin p = omega (arith, p.put, ap length p.waits, length-append bytes (waiting m))

asked-put : (asked : List ℕ) (s m : State) (bytes : List ℕ) (fin : Bool) → AskedBy asked s.ending (s.put + length (waiting s))
    → IsPut s bytes fin m → AskedBy asked m.ending (m.put + length (waiting m))
asked-put asked s m bytes true a p =
    subst (λ (g : Ending). AskedBy asked g (m.put + length (waiting m))) (sym p.ending)
    (asked-finishing asked s.ending (s.put + length (waiting s)) a (and-left (is_finishing s.ending) _ (sym p.ends)))
asked-put asked s m bytes false a p = asked-moves asked s.ending m.ending _ _ a p.ending (all-put s m bytes false p)

asked-reset : (asked : List ℕ) (s m : State) (code size : ℕ) → asked ≡ [] → m.put ≡ s.put → waiting m ≡ take (size - s.put) (waiting s)
    → m.ending ≡ Resetting (record { code = code; size = min size (s.put + length (waiting s)) })
    → AskedBy (code ∷ asked) m.ending (m.put + length (waiting m))
asked-reset asked s m code size none put waits ending =
    subst (λ (g : Ending). AskedBy (code ∷ asked) g (m.put + length (waiting m))) (sym ending)
    (ap (λ xs. code ∷ xs) none, omega (arith, put, ap length waits, length-take (size - s.put) (waiting s)))

pub resets-for : (xs : List Step) (s t : State) (asked : List ℕ) (sent : ℕ) → Leads xs s t → s.put ≡ sent
    → AskedBy asked s.ending (s.put + length (waiting s)) → ResetsFor asked sent xs
resets-for [] s t asked sent l n a = tt
resets-for (Queues bytes room ∷ xs) s t asked sent l n a =
    resets-for xs l.0 t asked sent l.2 (l.1.sent.put ∙ n) (asked-open asked s.ending l.0.ending _ _ a l.1.from (l.1.ending ∙ l.1.from))
resets-for (Refuses ∷ xs) s t asked sent l n a =
    resets-for xs l.0 t asked sent l.2 (l.1.sent.put ∙ n) (asked-open asked s.ending l.0.ending _ _ a l.1.from (l.1.ending ∙ l.1.from))
resets-for (Finishes ∷ xs) s t asked sent l n a =
    resets-for xs l.0 t asked sent l.2 (l.1.sent.put ∙ n)
    (subst (λ (g : Ending). AskedBy asked g (l.0.put + length (waiting l.0))) (sym l.1.ending)
    (subst (λ (g : Ending). AskedBy asked g (s.put + length (waiting s))) l.1.from a))
resets-for (Resets code size ∷ xs) s t asked sent l n a =
    resets-for xs l.0 t (code ∷ asked) sent l.2 (l.1.sent.put ∙ n)
    (asked-reset asked s l.0 code size (asked-none asked s.ending _ a l.1.from) l.1.sent.put l.1.waits l.1.ending)
resets-for (Puts bytes fin ∷ xs) s t asked sent l n a =
    resets-for xs l.0 t asked (sent + length bytes) l.2 (l.1.put ∙ ap (λ k. k + length bytes) n) (asked-put asked s l.0 bytes fin a l.1)
resets-for (PutsReset code size ∷ xs) s t asked sent l n a =
    let r = subst (λ (g : Ending). AskedBy asked g (s.put + length (waiting s))) l.1.from a in (
      r.0,
      omega (arith, r.1, n, ap length l.1.none),
      resets-for xs l.0 t asked sent l.2 (l.1.sent.put ∙ n)
          (subst (λ (g : Ending). AskedBy asked g (l.0.put + length (waiting l.0))) (sym l.1.ending) tt),
    )
resets-for (Acknowledges k ∷ xs) s t asked sent l n a =
    resets-for xs l.0 t asked sent l.2 (l.1.put ∙ n)
    (asked-moves asked s.ending l.0.ending _ _ a l.1.ending (omega (arith, l.1.put, ap length l.1.waits)))
resets-for (Tells ∷ xs) s t asked sent l n a =
    resets-for xs l.0 t asked sent l.2 (l.1.sent.put ∙ n)
    (asked-moves asked s.ending l.0.ending _ _ a l.1.ending (omega (arith, l.1.sent.put, ap length l.1.waits)))

pub resets-for-new : (config : QueueConfig) (xs : List Step) (t : State) → Run config xs t → ResetsFor [] 0 xs
resets-for-new config xs t run =
    resets-for xs run.0 t [] 0 run.2 run.1.put
    (subst (λ (g : Ending). AskedBy [] g (run.0.put + length (waiting run.0))) (sym run.1.ending) refl)

-- ---- what is put after it

-- after a reset nothing is queued or ended, and only bytes of its size are to be put
abbrev pub IsLimited : Option ℕ → State → Type 0
IsLimited None s = Unit {0}
IsLimited (Some size) s =
    (is_open s.ending ≡ false) × (is_finishing s.ending ≡ false)
    × ((waiting s ≡ []) ⊎ (s.put + length (waiting s) ≤ size))

limited-open : (limit : Option ℕ) (s m : State) → IsLimited limit s → s.ending ≡ Open → IsLimited limit m
limited-open None s m h e = tt
limited-open (Some size) s m h e = not_open h.0 e

limited-stays : (limit : Option ℕ) (s m : State) → IsLimited limit s → m.put ≡ s.put → waiting m ≡ waiting s
    → is_open m.ending ≡ is_open s.ending → is_finishing m.ending ≡ is_finishing s.ending → IsLimited limit m
limited-stays None s m h put waits shut done = tt
limited-stays (Some size) s m h put waits shut done = (
  shut ∙ h.0,
  done ∙ h.1,
  elim h.2 [
    | inl e ↦ inl (waits ∙ e)
    | inr e ↦ inr (omega (arith, e, put, ap length waits))
  ],
)

limited-reset : (s m : State) (code size : ℕ) (r : Reset) → m.put ≡ s.put → waiting m ≡ take (size - s.put) (waiting s)
    → m.ending ≡ Resetting r → IsLimited (Some size) m
limited-reset s m code size r put waits ending =
    (ap is_open ending, ap is_finishing ending, by (size - s.put) refl)
  where
    by : (k : ℕ) → k ≡ size - s.put → (waiting m ≡ []) ⊎ (m.put + length (waiting m) ≤ size)
    by zero e = inl (no-bytes (waiting m) (omega (arith, e, ap length waits, length-take (size - s.put) (waiting s))))
    by (suc k) e = inr (omega (arith, e, put, ap length waits, length-take (size - s.put) (waiting s)))

pub stays-within : (xs : List Step) (s t : State) (limit : Option ℕ) (sent : ℕ) → Leads xs s t → s.put ≡ sent → IsLimited limit s
    → StaysWithin limit sent xs
stays-within [] s t limit sent l n h = tt
stays-within (Queues bytes room ∷ xs) s t limit sent l n h =
    stays-within xs l.0 t limit sent l.2 (l.1.sent.put ∙ n) (limited-open limit s l.0 h l.1.from)
stays-within (Refuses ∷ xs) s t limit sent l n h =
    stays-within xs l.0 t limit sent l.2 (l.1.sent.put ∙ n) (limited-open limit s l.0 h l.1.from)
stays-within (Finishes ∷ xs) s t limit sent l n h =
    stays-within xs l.0 t limit sent l.2 (l.1.sent.put ∙ n) (limited-open limit s l.0 h l.1.from)
stays-within (Resets code size ∷ xs) s t limit sent l n h =
    stays-within xs l.0 t (Some size) sent l.2 (l.1.sent.put ∙ n) (limited-reset s l.0 code size _ l.1.sent.put l.1.waits l.1.ending)
stays-within (Puts bytes fin ∷ xs) s t None sent l n h =
    stays-within xs l.0 t None (sent + length bytes) l.2 (l.1.put ∙ ap (λ k. k + length bytes) n) tt
stays-within (Puts bytes fin ∷ xs) s t (Some size) sent l n h =
    let f : fin ≡ false = l.1.ends ∙ ends-false s (waiting l.0) h.1 in
    let same : l.0.ending ≡ s.ending = l.1.ending ∙ ap (λ b. if b then Finished else s.ending) f in
    let none : waiting s ≡ [] → (bytes ≡ []) × (waiting l.0 ≡ []) = λ e. no-rest bytes (waiting l.0) (sym e ∙ l.1.waits) in (
      elim h.2 [
        | inl e ↦ inl (none e).0
        | inr e ↦ inr (omega (arith, e, n, ap length l.1.waits, length-append bytes (waiting l.0)))
      ],
      f,
      stays-within xs l.0 t (Some size) (sent + length bytes) l.2 (l.1.put ∙ ap (λ k. k + length bytes) n) (
        ap is_open same ∙ h.0,
        ap is_finishing same ∙ h.1,
        elim h.2 [
          | inl e ↦ inl (none e).1
          | inr e ↦ inr (omega (arith, e, l.1.put, ap length l.1.waits, length-append bytes (waiting l.0)))
        ],
      ),
    )
stays-within (PutsReset code size ∷ xs) s t limit sent l n h =
    stays-within xs l.0 t limit sent l.2 (l.1.sent.put ∙ n)
    (limited-stays limit s l.0 h l.1.sent.put l.1.waits (ap is_open l.1.ending ∙ sym (ap is_open l.1.from))
    (ap is_finishing l.1.ending ∙ sym (ap is_finishing l.1.from)))
stays-within (Acknowledges k ∷ xs) s t limit sent l n h =
    stays-within xs l.0 t limit sent l.2 (l.1.put ∙ n)
    (limited-stays limit s l.0 h l.1.put l.1.waits (ap is_open l.1.ending) (ap is_finishing l.1.ending))
stays-within (Tells ∷ xs) s t limit sent l n h =
    stays-within xs l.0 t limit sent l.2 (l.1.sent.put ∙ n)
    (limited-stays limit s l.0 h l.1.sent.put l.1.waits (ap is_open l.1.ending) (ap is_finishing l.1.ending))

pub stays-within-new : (config : QueueConfig) (xs : List Step) (t : State) → Run config xs t → StaysWithin None 0 xs
stays-within-new config xs t run = stays-within xs run.0 t None 0 run.2 run.1.put tt
