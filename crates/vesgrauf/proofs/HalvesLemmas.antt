-- What the program may count on of the halves of its streams.
use Rattle.std.proofs.Common.{◌≡◌, ◌==◌, ◌++◌, ℕ, List, [], ◌∷◌, Option, Some, None, Bool, true, false, cond, refl, sym, ap, subst, ◌∙◌}
use Rattle.std.specs.Ordering.{nat_cmp}
use Rattle.std.specs.BTreeMap.{is_at}
use Rattle.vesgrauf.specs.declared.event.Event.{Event}
use Rattle.vesgrauf.specs.declared.event.EventKind.{EventKind}
use Rattle.vesgrauf.specs.declared.event.EventKind.TheVariants as event
use Rattle.vesgrauf.specs.Halves.{Halves, NotKnown, Has, Ending, OfOwn, OfPeer, OfBoth, ending_queued, ending_told, after, after_if, after_told, after_queued, Holds, alone, but_for}

-- ---- one stream

pub holds_refl : (h : Halves) → Holds h h
holds_refl NotKnown = tt
holds_refl (Has s r) = (λ p. p, λ p. p)

pub holds_trans : (x y z : Halves) → Holds x y → Holds y z → Holds x z
holds_trans NotKnown y z g h = tt
holds_trans (Has s r) NotKnown z g h = absurd g
holds_trans (Has s r) (Has t u) NotKnown g h = absurd h
holds_trans (Has s r) (Has t u) (Has v w) g h = (λ p. h.0 (g.0 p), λ p. h.1 (g.1 p))

-- where nothing may be counted on, nothing is
pub holds_none : (x : Halves) → Holds x NotKnown → x ≡ NotKnown
holds_none NotKnown h = refl
holds_none (Has s r) h = absurd h

pub never : (b : Bool) → false ≡ true → b ≡ true
never b p = absurd (let bad : false ≡ true = p in cc)

after_less : (w : Option Ending) (h : Halves) → Holds (after w h) h
after_less None h = holds_refl h
after_less (Some w) NotKnown = tt
after_less (Some OfOwn) (Has s r) = (never s, λ p. p)
after_less (Some OfPeer) (Has s r) = (λ p. p, never r)
after_less (Some OfBoth) (Has s r) = tt

after_both : (w : Option Ending) (x y : Halves) → Holds x y → Holds (after w x) (after w y)
after_both None x y h = h
after_both (Some w) NotKnown y h = tt
after_both (Some w) (Has s r) NotKnown h = absurd h
after_both (Some OfOwn) (Has s r) (Has t u) h = (λ p. p, h.1)
after_both (Some OfPeer) (Has s r) (Has t u) h = (h.0, λ p. p)
after_both (Some OfBoth) (Has s r) (Has t u) h = tt

pub if_less : (b : Bool) (w : Option Ending) (h : Halves) → Holds (after_if b w h) h
if_less true w h = after_less w h
if_less false w h = holds_refl h

pub if_both : (b : Bool) (w : Option Ending) (x y : Halves) → Holds x y → Holds (after_if b w x) (after_if b w y)
if_both true w x y h = after_both w x y h
if_both false w x y h = h

pub queued_both : (id : ℕ) (q : List Event) (x y : Halves) → Holds x y → Holds (after_queued id q x) (after_queued id q y)
queued_both id [] x y h = h
queued_both id (e ∷ es) x y h = queued_both id es (after_if (e.stream == id) (ending_queued e.kind) x)
    (after_if (e.stream == id) (ending_queued e.kind) y) (if_both (e.stream == id) (ending_queued e.kind) x y h)

swap : (w v : Option Ending) (h : Halves) → after w (after v h) ≡ after v (after w h)
swap None v h = refl
swap (Some w) None h = refl
swap (Some w) (Some v) NotKnown = refl
swap (Some OfOwn) (Some OfOwn) (Has s r) = refl
swap (Some OfOwn) (Some OfPeer) (Has s r) = refl
swap (Some OfOwn) (Some OfBoth) (Has s r) = refl
swap (Some OfPeer) (Some OfOwn) (Has s r) = refl
swap (Some OfPeer) (Some OfPeer) (Has s r) = refl
swap (Some OfPeer) (Some OfBoth) (Has s r) = refl
swap (Some OfBoth) (Some OfOwn) (Has s r) = refl
swap (Some OfBoth) (Some OfPeer) (Has s r) = refl
swap (Some OfBoth) (Some OfBoth) (Has s r) = refl

swap_if : (b c : Bool) (w v : Option Ending) (h : Halves)
    → after_if b w (after_if c v h) ≡ after_if c v (after_if b w h)
swap_if true true w v h = swap w v h
swap_if true false w v h = refl
swap_if false c w v h = refl

-- what is said first may be said last
pub said_last : (id : ℕ) (b : Bool) (w : Option Ending) (q : List Event) (h : Halves)
    → after_queued id q (after_if b w h) ≡ after_if b w (after_queued id q h)
said_last id b w [] h = refl
said_last id b w (e ∷ es) h = ap (λ x. after_queued id es x) (swap_if (e.stream == id) b (ending_queued e.kind) w h)
    ∙ said_last id b w es (after_if (e.stream == id) (ending_queued e.kind) h)

pub queued_more : (id : ℕ) (q more : List Event) (h : Halves)
    → after_queued id (q ++ more) h ≡ after_queued id more (after_queued id q h)
queued_more id [] more h = refl
queued_more id (e ∷ es) more h = queued_more id es more (after_if (e.stream == id) (ending_queued e.kind) h)

-- an event that is told says no less than where it is queued
told_queued : (k : EventKind) (h : Halves) → Holds (after (ending_told k) h) (after (ending_queued k) h)
told_queued event.End h = after_less (Some OfPeer) h
told_queued other h = holds_refl (after (ending_queued other) h)

pub told_queued_if : (b : Bool) (k : EventKind) (h : Halves)
    → Holds (after_if b (ending_told k) h) (after_if b (ending_queued k) h)
told_queued_if true k h = told_queued k h
told_queued_if false k h = holds_refl h

-- what is the same holds as well
pub holds_eq : (x y z : Halves) → x ≡ y → Holds y z → Holds x z
holds_eq x y z e h = subst (λ v. Holds v z) (sym e) h

pub holds_is : (x y z : Halves) → z ≡ y → Holds x y → Holds x z
holds_is x y z e h = subst (λ v. Holds x v) (sym e) h

-- ---- but for one stream

pub alone_both : (x y : Halves) → Holds x y → Holds (alone x) (alone y)
alone_both NotKnown y h = tt
alone_both (Has s r) NotKnown h = absurd h
alone_both (Has s r) (Has t u) h = (λ p. p, λ p. p)

for_both : (b : Bool) (x y : Halves) → Holds x y → Holds (cond b (alone x) x) (cond b (alone y) y)
for_both true x y h = alone_both x y h
for_both false x y h = h

pub but_both : (but : Option ℕ) (id : ℕ) (x y : Halves) → Holds x y → Holds (but_for but id x) (but_for but id y)
but_both None id x y h = h
but_both (Some k) id x y h = for_both (is_at (nat_cmp k) id) x y h

alone_after : (w : Option Ending) (h : Halves) → alone (after w (alone h)) ≡ after w (alone h)
alone_after None NotKnown = refl
alone_after None (Has s r) = refl
alone_after (Some w) NotKnown = refl
alone_after (Some OfOwn) (Has s r) = refl
alone_after (Some OfPeer) (Has s r) = refl
alone_after (Some OfBoth) (Has s r) = refl

pub alone_twice : (h : Halves) → alone (alone h) ≡ alone h
alone_twice NotKnown = refl
alone_twice (Has s r) = refl

pub alone_if : (b : Bool) (w : Option Ending) (h : Halves) → alone h ≡ h → alone (after_if b w h) ≡ after_if b w h
alone_if true w h p = ap (λ x. alone (after w x)) (sym p) ∙ (alone_after w h ∙ ap (λ x. after w x) p)
alone_if false w h p = p

alone_told : (id : ℕ) (said : List Event) (h : Halves) → alone h ≡ h → alone (after_told id said h) ≡ after_told id said h
alone_told id [] h p = p
alone_told id (e ∷ es) h p = alone_told id es (after_if (e.stream == id) (ending_told e.kind) h)
    (alone_if (e.stream == id) (ending_told e.kind) h p)

for_told : (b : Bool) (id : ℕ) (said : List Event) (h : Halves)
    → cond b (alone (after_told id said (cond b (alone h) h))) (after_told id said (cond b (alone h) h))
    ≡ after_told id said (cond b (alone h) h)
for_told true id said h = alone_told id said (alone h) (alone_twice h)
for_told false id said h = refl

pub but_told : (but : Option ℕ) (id : ℕ) (said : List Event) (h : Halves)
    → but_for but id (after_told id said (but_for but id h)) ≡ after_told id said (but_for but id h)
but_told None id said h = refl
but_told (Some k) id said h = for_told (is_at (nat_cmp k) id) id said h
