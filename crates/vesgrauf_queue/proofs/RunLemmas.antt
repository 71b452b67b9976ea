-- What is true of all runs of a queue.
use Rattle.std.proofs.Common.{◌≡◌, ◌⊎◌, inl, inr, Bool, true, false, ℕ, ◌-◌, List, [], ◌∷◌, ◌++◌, drop, refl, sym, ap, ◌∙◌, append_assoc}
use Rattle.std.proofs.lemmas.List.{append-nil, take-append-drop}
use Rattle.std.proofs.lemmas.Bool.{false≢true}
use Rattle.vesgrauf_queue.specs.declared.config.QueueConfig.{QueueConfig}
use Rattle.vesgrauf_queue.specs.declared.ending.Ending.{Ending}
use Rattle.vesgrauf_queue.specs.declared.ending.Ending.TheVariants.{Open, Finished, WasReset}
use Rattle.vesgrauf_queue.specs.State.{State, waiting}
use Rattle.vesgrauf_queue.specs.Steps.{Step, Queues, Refuses, Finishes, Resets, Puts, PutsReset, Acknowledges, Tells, Leads, Run, IsPut}
use Rattle.vesgrauf_queue.specs.Runs.{queued, put, was_reset}

-- ---- no byte is lost

-- a step that neither queues nor puts leaves what waits
stays : (a b queued_after put_after end : List ℕ) → b ≡ a → b ++ queued_after ≡ put_after ++ end → a ++ queued_after ≡ put_after ++ end
stays a b q p end same h = ap (λ w. w ++ q) (sym same) ∙ h

pub tracks : (xs : List Step) (s t : State) → Leads xs s t → was_reset xs ≡ false → waiting s ++ queued xs ≡ put xs ++ waiting t
tracks [] s t l none = append-nil (waiting s) ∙ sym (ap waiting l)
tracks (Queues bytes room ∷ xs) s t l none =
    sym (append_assoc (waiting s) bytes (queued xs))
    ∙ ap (λ w. w ++ queued xs) (sym l.1.waits)
    ∙ tracks xs l.0 t l.2 none
tracks (Refuses ∷ xs) s t l none = stays _ _ (queued xs) (put xs) (waiting t) l.1.waits (tracks xs l.0 t l.2 none)
tracks (Finishes ∷ xs) s t l none = stays _ _ (queued xs) (put xs) (waiting t) l.1.waits (tracks xs l.0 t l.2 none)
tracks (Resets code size ∷ xs) s t l none = absurd (false≢true (sym none))
tracks (Puts bytes fin ∷ xs) s t l none =
    ap (λ w. w ++ queued xs) l.1.waits
    ∙ append_assoc bytes (waiting l.0) (queued xs)
    ∙ ap (λ w. bytes ++ w) (tracks xs l.0 t l.2 none)
    ∙ sym (append_assoc bytes (put xs) (waiting t))
tracks (PutsReset code size ∷ xs) s t l none = stays _ _ (queued xs) (put xs) (waiting t) l.1.waits (tracks xs l.0 t l.2 none)
tracks (Acknowledges n ∷ xs) s t l none = stays _ _ (queued xs) (put xs) (waiting t) l.1.waits (tracks xs l.0 t l.2 none)
tracks (Tells ∷ xs) s t l none = stays _ _ (queued xs) (put xs) (waiting t) l.1.waits (tracks xs l.0 t l.2 none)

-- ---- the endings

abbrev pub is_open : Ending → Bool
is_open Open = true
is_open other = false

abbrev pub is_reset_put : Ending → Bool
is_reset_put (WasReset r) = true
is_reset_put other = false

pub not_open : {e : Ending} → is_open e ≡ false → e ≡ Open → {A : Type 0} → A
not_open none e = absurd (false≢true (sym none ∙ ap is_open e))

-- what QUIC takes leaves the ending, but for the end
pub ending-put : (s m : State) (bytes : List ℕ) (fin : Bool) → IsPut s bytes fin m → (m.ending ≡ Finished) ⊎ (m.ending ≡ s.ending)
ending-put s m bytes true p = inl p.ending
ending-put s m bytes false p = inr p.ending

pub closed-put : (s m : State) (bytes : List ℕ) (fin : Bool) → IsPut s bytes fin m → is_open s.ending ≡ false → is_open m.ending ≡ false
closed-put s m bytes fin p none = elim (ending-put s m bytes fin p) [
  | inl e ↦ ap is_open e
  | inr e ↦ ap is_open e ∙ none
]

-- nothing is queued any more
pub closed : (xs : List Step) (s t : State) → Leads xs s t → is_open s.ending ≡ false → queued xs ≡ []
closed [] s t l none = refl
closed (Queues bytes room ∷ xs) s t l none = not_open none l.1.from
closed (Refuses ∷ xs) s t l none = not_open none l.1.from
closed (Finishes ∷ xs) s t l none = not_open none l.1.from
closed (Resets code size ∷ xs) s t l none = closed xs l.0 t l.2 (ap is_open l.1.ending)
closed (Puts bytes fin ∷ xs) s t l none = closed xs l.0 t l.2 (closed-put s l.0 bytes fin l.1 none)
closed (PutsReset code size ∷ xs) s t l none = closed xs l.0 t l.2 (ap is_open l.1.ending)
closed (Acknowledges n ∷ xs) s t l none = closed xs l.0 t l.2 (ap is_open l.1.ending ∙ none)
closed (Tells ∷ xs) s t l none = not_open none l.1.from

-- ---- what was queued begins with what was put and what waits

abbrev pub IsStart : (all some : List ℕ) → Type 0
IsStart all some = (rest : List ℕ) × (all ≡ some ++ rest)

start-stays : (a b q p end : List ℕ) → b ≡ a → IsStart (b ++ q) (p ++ end) → IsStart (a ++ q) (p ++ end)
start-stays a b q p end same h = (h.0, ap (λ w. w ++ q) (sym same) ∙ h.1)

pub starts : (xs : List Step) (s t : State) → Leads xs s t → IsStart (waiting s ++ queued xs) (put xs ++ waiting t)
starts [] s t l = ([], append-nil (waiting s) ∙ sym (ap waiting l) ∙ sym (append-nil (waiting t)))
starts (Queues bytes room ∷ xs) s t l =
    let h = starts xs l.0 t l.2 in
    (h.0, sym (append_assoc (waiting s) bytes (queued xs)) ∙ ap (λ w. w ++ queued xs) (sym l.1.waits) ∙ h.1)
starts (Refuses ∷ xs) s t l = start-stays _ _ (queued xs) (put xs) (waiting t) l.1.waits (starts xs l.0 t l.2)
starts (Finishes ∷ xs) s t l = start-stays _ _ (queued xs) (put xs) (waiting t) l.1.waits (starts xs l.0 t l.2)
starts (Resets code size ∷ xs) s t l =
    let h = starts xs l.0 t l.2 in
    let n = size - s.put in
    let none = closed xs l.0 t l.2 (ap is_open l.1.ending) in (
      h.0 ++ drop n (waiting s),
      ap (λ q. waiting s ++ q) none ∙ append-nil (waiting s)
          ∙ sym (take-append-drop n (waiting s))
          ∙ ap (λ w. w ++ drop n (waiting s)) (sym l.1.waits ∙ sym (append-nil (waiting l.0)) ∙ ap (λ q. waiting l.0 ++ q) (sym none) ∙ h.1)
          ∙ append_assoc (put xs ++ waiting t) h.0 (drop n (waiting s)),
    )
starts (Puts bytes fin ∷ xs) s t l =
    let h = starts xs l.0 t l.2 in (
      h.0,
      ap (λ w. w ++ queued xs) l.1.waits
          ∙ append_assoc bytes (waiting l.0) (queued xs)
          ∙ ap (λ w. bytes ++ w) h.1
          ∙ sym (append_assoc bytes (put xs ++ waiting t) h.0)
          ∙ ap (λ w. w ++ h.0) (sym (append_assoc bytes (put xs) (waiting t))),
    )
starts (PutsReset code size ∷ xs) s t l = start-stays _ _ (queued xs) (put xs) (waiting t) l.1.waits (starts xs l.0 t l.2)
starts (Acknowledges n ∷ xs) s t l = start-stays _ _ (queued xs) (put xs) (waiting t) l.1.waits (starts xs l.0 t l.2)
starts (Tells ∷ xs) s t l = start-stays _ _ (queued xs) (put xs) (waiting t) l.1.waits (starts xs l.0 t l.2)

pub starts-new : (config : QueueConfig) (xs : List Step) (t : State) → Run config xs t
    → (rest : List ℕ) × (queued xs ≡ (put xs ++ waiting t) ++ rest)
starts-new config xs t run =
    let h = starts xs run.0 t run.2 in
    (h.0, ap (λ w. w ++ queued xs) (sym run.1.waits) ∙ h.1)
