-- What calls about one stream do to the halves of the others.
use Rattle.std.proofs.Common.{◌≡◌, ℕ, List, [], Option, Some, None, Bool, true, false, sym, ap, subst, ◌∙◌}
use Rattle.std.specs.Prelude.{is_some}
use Rattle.vesgrauf.specs.declared.config.Config.{Config}
use Rattle.vesgrauf.specs.declared.connection.Connection.{Connection}
use Rattle.vesgrauf.specs.declared.connection.Ended.{Ended}
use Rattle.vesgrauf.specs.declared.connection.ids.Ids.{Ids}
use Rattle.vesgrauf.specs.declared.entry.Entry.{Entry}
use Rattle.vesgrauf.specs.declared.event.Event.{Event}
use Rattle.vesgrauf.specs.Halves.{Lasts, LastsBut}
use Rattle.vesgrauf.specs.Instructions.{Table}
use Rattle.vesgrauf.specs.Keeps.{KeepsAll, Kept, KeepsBut}
use Rattle.vesgrauf.specs.State.{IsStill, IsStillBut}
use Rattle.vesgrauf.specs.Told.{GoesOn, Sound}
use Rattle.vesgrauf.proofs.KeepsLemmas.{keeps_lasts, was_not}
use Rattle.vesgrauf.proofs.LastsLemmas.{lasts_trans}

keeps_over : {but : Option ℕ} {said : List Event} {es fs : List (ℕ × Entry)} {ids jds : Ids} {ta tb : Table} {q r : List Event}
    {a b : Config} {x y : Option Ended} → KeepsAll but said es ids ta q a x fs jds tb r b y → is_some x ≡ true → is_some y ≡ true
keeps_over (Kept o l g e n h w) = n

-- the own half of a stream changes, and then what follows from it is done
pub lasts_then : (id : ℕ) (c m d : Connection) → LastsBut id c m → GoesOn [] c m → KeepsBut id m d → LastsBut id c d
lasts_then id c m d h g k = λ over sound.
    lasts_trans (Some id) [] c.streams.entries m.streams.entries d.streams.entries c.events.items m.events.items
    d.events.items (h (was_not (is_some m.ended) (is_some d.ended) (keeps_over k) over) sound) (keeps_lasts k over (g.sound sound))

-- nothing changed before
pub lasts_from : (id : ℕ) (c m d : Connection) → IsStill c m → LastsBut id m d → LastsBut id c d
lasts_from id c m d s h = λ over sound.
    let streams : m.streams.entries ≡ c.streams.entries = ap (λ v. v.streams) s in
    let events : m.events.items ≡ c.events.items = ap (λ v. v.events) s in
    let ids : m.ids ≡ c.ids = ap (λ v. v.ids) s in
    let same : Sound m.streams.entries m.ids = subst (λ x. Sound m.streams.entries x) (sym ids)
    (subst (λ (x : List (ℕ × Entry)). Sound x c.ids) (sym streams) sound) in
    subst (λ x. Lasts (Some id) [] c.streams.entries x d.streams.entries d.events.items) events
    (subst (λ (x : List (ℕ × Entry)). Lasts (Some id) [] x m.events.items d.streams.entries d.events.items) streams
    (h over same))

-- nothing but the own streams of QPACK changes afterwards
pub lasts_aside : (id : ℕ) (c m d : Connection) → LastsBut id c m → IsStillBut m d → LastsBut id c d
lasts_aside id c m d h s = λ over sound.
    let streams : d.streams.entries ≡ m.streams.entries = ap (λ v. v.streams) s in
    let events : d.events.items ≡ m.events.items = ap (λ v. v.events) s in
    let ended : d.ended ≡ m.ended = ap (λ v. v.ended) s in
    subst (λ x. Lasts (Some id) [] c.streams.entries c.events.items d.streams.entries x) (sym events)
    (subst (λ (x : List (ℕ × Entry)). Lasts (Some id) [] c.streams.entries c.events.items x m.events.items) (sym streams)
    (h (ap (λ x. is_some x) (sym ended) ∙ over) sound))
