-- Steps of a connection, one after the other.
use Rattle.std.proofs.Common.{◌≡◌, ◌∙◌, ℕ, List, [], None, Some, Bool, true, false, cond, refl, sym, ap, subst, inl}
use Rattle.std.specs.Ordering.{nat_cmp}
use Rattle.std.specs.BTreeMap.{is_at}
use Rattle.std.specs.Prelude.{IfOk, OnOk, Result, Ok, Err, is_some}
use Rattle.vesgrauf.specs.declared.connection.Step.TheVariants as step
use Rattle.vesgrauf.specs.declared.connection.ids.Ids.{Ids}
use Rattle.vesgrauf.specs.declared.entry.Entry.{Entry}
use Rattle.vesgrauf.specs.declared.event.Event.{Event}
use Rattle.vesgrauf.specs.declared.input.Input.{Input}
use Rattle.vesgrauf.specs.Items.{Item, items_told}
use Rattle.vesgrauf.specs.Theirs.{Left, Tells, items_on, theirs_at, told_if, told_by, TellsAll}
use Rattle.vesgrauf.specs.Own.{Untouched}
use Rattle.vesgrauf.specs.State.{IsAfterEnd, go_on}
use Rattle.vesgrauf.specs.declared.connection.Connection.{Connection}
use Rattle.vesgrauf.proofs.OwnLemmas.{untouched_trans}
use Rattle.vesgrauf.proofs.ReadsLemmas.{left_steps, left_same, same_tells, same_tell, tells_steps}
use Rattle.vesgrauf.proofs.TellsLemmas.{all_of, none_all}

-- what holds of a result holds of one that follows from it
pub ok_map : {A E : Type 0} (r : Result A E) (P Q : A → Type 0) → ((a : A) → P a → Q a) → IfOk r P → IfOk r Q
ok_map (Ok a) P Q f p = f a p
ok_map (Err e) P Q f p = p

pub on_ok_map : {A E : Type 0} (r : Result A E) (P Q : Type 0) → (P → Q) → OnOk r P → OnOk r Q
on_ok_map (Ok a) P Q f p = f p
on_ok_map (Err e) P Q f p = p

pub left_trans : {a b c : List (ℕ × Entry)} → Left a b → Left b c → Left a c
left_trans {a} {b} {c} p q =
    record { each = λ k. left_steps (theirs_at a k) (theirs_at b k) (theirs_at c k) (p.each k) (q.each k) }

-- after steps that read nothing
pub left_then_tells : (said : ℕ → List Item) {c d e : List (ℕ × Entry)} {i j : Input} → Left c d → Tells said d i e j
    → Tells said c i e j
left_then_tells said {c} {d} {e} {i} {j} p q = same_tells said c d e i i j (left_same c d i p) q

pub left_itself : (c : List (ℕ × Entry)) → Left c c
left_itself c = record { each = λ k. inl refl }

on_none : (b : Bool) → cond {A = List Item} b [] [] ≡ []
on_none true = refl
on_none false = refl

-- an event that is no items
quiet_event : (e : Event) (k : ℕ) → items_told e.kind ≡ [] → told_by (Some e) k ≡ []
quiet_event e k h = ap (λ l. items_on e.stream l k) h ∙ on_none (is_at (nat_cmp e.stream) k)

pub queued_tells : (e : Event) (c : List (ℕ × Entry)) (i : Input) → items_told e.kind ≡ [] → Tells (told_by (Some e)) c i c i
queued_tells e c i h = same_tell (told_by (Some e)) c c i i (λ k. quiet_event e k h) (left_same c c i (left_itself c))

pub nothing_tells : (c : List (ℕ × Entry)) (i : Input) → Tells (told_by None) c i c i
nothing_tells c i = same_tell (told_by None) c c i i (λ k. refl) (left_same c c i (left_itself c))

-- nothing was told so far
pub quiet_then : (said : ℕ → List Item) {c d e : List (ℕ × Entry)} {i j l : Input}
    → Tells (told_by None) c i d j → Tells said d j e l → Tells said c i e l
quiet_then said {c} {d} {e} {i} {j} {l} p q = tells_steps (told_by None) said c d e i j l (λ k. refl) p q

-- ---- with the streams that come to be

pub quiet_all : (a : Ids) (c : List (ℕ × Entry)) (i : Input) → TellsAll a (told_by None) c i c i
quiet_all a c i = all_of a (told_by None) c c i i (nothing_tells c i)

pub queued_all : (a : Ids) (e : Event) (c : List (ℕ × Entry)) (i : Input) → items_told e.kind ≡ []
    → TellsAll a (told_by (Some e)) c i c i
queued_all a e c i h = all_of a (told_by (Some e)) c c i i (queued_tells e c i h)

-- ---- one step after the other

pub not_before : (a b : Bool) → (a ≡ true → b ≡ true) → b ≡ false → a ≡ false
not_before true b f h = absurd (cc (f refl, h))
not_before false b f h = refl

-- nothing was told so far while the connection was not over; then nothing changes, and then this is told
pub steps_on : (said : ℕ → List Item) {c d m e : List (ℕ × Entry)} {i j l : Input} (o p q : Bool)
    → (o ≡ false → Tells (told_by None) c i d j) → p ≡ o → (p ≡ true → q ≡ true) → q ≡ false
    → m ≡ d → Tells said m j e l → Tells said c i e l
steps_on said {c} {d} {m} {e} {i} {j} {l} o p q told same over h eq t =
    quiet_then said (told (sym same ∙ not_before p q over h))
    (subst (λ x. Tells said x j e l) eq t)

pub own_on : {a b m c : List (ℕ × Entry)} → Untouched a b → m ≡ b → Untouched m c → Untouched a c
own_on {a} {b} {m} {c} p eq q = untouched_trans p (subst (λ x. Untouched x c) eq q)

pub all_same : (said : ℕ → List Item) {a b : Ids} {c d e : List (ℕ × Entry)} {i j l : Input} → b ≡ a → d ≡ c → j ≡ i
    → TellsAll b said d j e l → TellsAll a said c i e l
all_same said {a} {b} {c} {d} {e} {i} {j} {l} p q r t =
    subst (λ x. TellsAll x said c i e l) p
    (subst (λ x. TellsAll b said x i e l) q (subst (λ x. TellsAll b said d x e l) r t))

-- the same where only the streams before are others
pub tells_same : (said : ℕ → List Item) {c d e : List (ℕ × Entry)} {i l : Input} → d ≡ c → Tells said d i e l → Tells said c i e l
tells_same said {c} {d} {e} {i} {l} q t = subst (λ x. Tells said x i e l) q t

-- ---- bytes that are read at once

-- nothing was read, and then this
pub told_none_all : (said : ℕ → List Item) {a b : Ids} {c d e : List (ℕ × Entry)} {i j l : Input}
    → Tells (told_by None) c i d j → j ≡ i → b ≡ a → TellsAll b said d j e l → TellsAll a said c i e l
told_none_all said {a} {b} {c} {d} {e} {i} {j} {l} p q r t =
    none_all a (told_by None) said c d e i l (λ k. refl) (subst (λ x. Tells (told_by None) c i d x) q p)
    (subst (λ x. TellsAll x said d i e l) r (subst (λ x. TellsAll b said d x e l) q t))

-- a step told nothing, and then this
pub quiet_then_all : (a : Ids) (said : ℕ → List Item) {c d e : List (ℕ × Entry)} {i j l : Input}
    → Tells (told_by None) c i d j → Tells said d j e l → TellsAll a said c i e l
quiet_then_all a said {c} {d} {e} {i} {j} {l} p q =
    all_of a said c e i l (quiet_then said p q)

-- ---- after the end

-- the queue has one event less, and nothing else changes
pub popped_after : {c d : Connection} → d.ended ≡ c.ended → (go_on c.events.items ≡ false → go_on d.events.items ≡ false)
    → IsAfterEnd c → IsAfterEnd d
popped_after {c} {d} p q a = record { over = ap is_some p ∙ a.over; events = q a.events }

-- ---- what a step tells is told

pub told_none_if : {c d : List (ℕ × Entry)} {i j : Input} → Tells (told_if None) c i d j → Tells (told_by None) c i d j
told_none_if t = record { each = λ k. t.each k }

pub told_told_if : (e : Event) {c d : List (ℕ × Entry)} {i j : Input} → Tells (told_if (Some (step.Told e))) c i d j
    → Tells (told_by (Some e)) c i d j
told_told_if e t = record { each = λ k. t.each k }

pub told_more_if : {c d : List (ℕ × Entry)} {i j : Input} → Tells (told_if (Some step.More)) c i d j
    → Tells (told_by None) c i d j
told_more_if t = record { each = λ k. t.each k }

pub told_nothing_if : {c d : List (ℕ × Entry)} {i j : Input} → Tells (told_if (Some step.Nothing)) c i d j
    → Tells (told_by None) c i d j
told_nothing_if t = record { each = λ k. t.each k }
