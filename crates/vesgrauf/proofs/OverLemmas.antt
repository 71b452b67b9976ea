-- What the end of a stream keeps.
use Rattle.std.proofs.Common.{◌≡◌, ◌++◌, ℕ, List, [], ◌∷◌, Option, Some, None, true, false, cond, refl, inl, sym, ap, ◌∙◌}
use Rattle.std.specs.Ordering.{nat_cmp}
use Rattle.std.specs.Map.{set_value}
use Rattle.std.specs.BTreeMap.{is_at}
use Rattle.vesgrauf.specs.declared.config.Config.{Config}
use Rattle.vesgrauf.specs.declared.connection.Ended.{Ended}
use Rattle.vesgrauf.specs.declared.connection.ids.Ids.{Ids}
use Rattle.vesgrauf.specs.declared.entry.Entry.{Entry}
use Rattle.vesgrauf.specs.declared.event.Event.{Event}
use Rattle.vesgrauf.specs.Instructions.{Table}
use Rattle.vesgrauf.specs.State.{knows_of}
use Rattle.vesgrauf.specs.Own.{entry_at}
use Rattle.vesgrauf.specs.Theirs.{theirs_in}
use Rattle.vesgrauf.specs.declared.event.EventKind.{EventKind}
use Rattle.vesgrauf.specs.declared.event.EventKind.TheVariants as event
use Rattle.vesgrauf.specs.Told.{Says, Fails, Closes, word_of, ended_by, ended_at}
use Rattle.vesgrauf.specs.Halves.{OfBoth, halves_in, ending_queued, ending_told}
use Rattle.vesgrauf.specs.declared.entry.Told.TheVariants as told
use Rattle.vesgrauf.specs.Keeps.{KeepsAll, Kept}
use Rattle.vesgrauf.specs.Members.{session_in}
use Rattle.vesgrauf.proofs.OwnLemmas.{untouched_set}
use Rattle.vesgrauf.proofs.TheirsLemmas.{left_set}
use Rattle.vesgrauf.proofs.WorksLemmas.{worked_at}
use Rattle.vesgrauf.proofs.GoesLemmas.{goes_over, goes_closed, goes_last, set_sets}
use Rattle.vesgrauf.proofs.LastsLemmas.{holds_closed, holds_unknown, lasts_sets, lasts_queued_set, lasts_told_set}
use Rattle.vesgrauf.proofs.KeepsLemmas.{keeps_refl, key_same}

-- ---- a stream is over

unknown_by : (o : Option Entry) (es : List (ℕ × Entry)) (id : ℕ) → entry_at es id ≡ o
    → knows_of (entry_at (ended_by o id es) id) ≡ false
unknown_by None es id h = ap knows_of h
unknown_by (Some e) es id h =
    let f : Entry = record e { told = told.Over } in
    ap knows_of (set_sets es id e f h id ∙ ap (λ b. cond b (Some f) (entry_at es id)) (key_same id))

-- the program does not know of it any more
pub ended_unknown : (es : List (ℕ × Entry)) (id : ℕ) → knows_of (entry_at (ended_at es id) id) ≡ false
ended_unknown es id = unknown_by (entry_at es id) es id refl

over_by : (o : Option Entry) (es fs : List (ℕ × Entry)) (ids : Ids) (ta : Table) (q : List Event) (a : Config) (x : Option Ended)
    (id : ℕ) → entry_at es id ≡ o → knows_of o ≡ false → fs ≡ ended_by o id es → KeepsAll None [] es ids ta q a x fs ids ta q a x
over_by None es fs ids ta q a x id there n h = rw h (keeps_refl None es ids ta q a x)
over_by (Some e) es fs ids ta q a x id there n h =
    let f : Entry = record e { told = told.Over } in
    rw h (Kept (untouched_set es id f (rw there (inl refl))) (left_set es id f (rw there (inl refl)))
    (goes_over es ids q id e f there n refl refl) refl (λ g. g)
    (λ g s. lasts_sets None es (set_value (is_at (nat_cmp id)) es f) q id (Some f) (set_sets es id e f there)
    (holds_unknown (entry_at es id) (halves_in (Some f)) (ap knows_of there ∙ n)))
    (λ g s. worked_at es ids ta id e f there refl (inl (sym (ap theirs_in there)))))

-- one that the program does not know of
pub keeps_over : (es fs : List (ℕ × Entry)) (ids : Ids) (ta : Table) (q : List Event) (a : Config) (x : Option Ended) (id : ℕ)
    → knows_of (entry_at es id) ≡ false → fs ≡ ended_at es id → KeepsAll None [] es ids ta q a x fs ids ta q a x
keeps_over es fs ids ta q a x id n h = over_by (entry_at es id) es fs ids ta q a x id refl n h

closed_ends : (k : EventKind) → word_of k ≡ Some Closes → ending_queued k ≡ Some OfBoth
closed_ends (event.Closed why) h = refl
closed_ends (event.Ready a) h = absurd (let bad : None ≡ Some Closes = h in cc)
closed_ends (event.GoAway a) h = absurd (let bad : None ≡ Some Closes = h in cc)
closed_ends event.Idle h = absurd (let bad : None ≡ Some Closes = h in cc)
closed_ends (event.ConnectionClosed a b) h = absurd (let bad : None ≡ Some Closes = h in cc)
closed_ends event.DatagramsWritable h = absurd (let bad : None ≡ Some Closes = h in cc)
closed_ends (event.Openable a) h = absurd (let bad : None ≡ Some Closes = h in cc)
closed_ends (event.Failed a) h = absurd (let bad : Some Fails ≡ Some Closes = h in cc)
closed_ends other h = absurd (let bad : Some Says ≡ Some Closes = h in cc)

closed_told : (k : EventKind) → word_of k ≡ Some Closes → ending_told k ≡ Some OfBoth
closed_told (event.Closed why) h = refl
closed_told (event.Ready a) h = absurd (let bad : None ≡ Some Closes = h in cc)
closed_told (event.GoAway a) h = absurd (let bad : None ≡ Some Closes = h in cc)
closed_told event.Idle h = absurd (let bad : None ≡ Some Closes = h in cc)
closed_told (event.ConnectionClosed a b) h = absurd (let bad : None ≡ Some Closes = h in cc)
closed_told event.DatagramsWritable h = absurd (let bad : None ≡ Some Closes = h in cc)
closed_told (event.Openable a) h = absurd (let bad : None ≡ Some Closes = h in cc)
closed_told (event.Failed a) h = absurd (let bad : Some Fails ≡ Some Closes = h in cc)
closed_told other h = absurd (let bad : Some Says ≡ Some Closes = h in cc)

closed_by : (o : Option Entry) (es fs : List (ℕ × Entry)) (ids : Ids) (ta : Table) (q : List Event) (a : Config) (x : Option Ended)
    (ev : Event) → entry_at es ev.stream ≡ o → knows_of o ≡ true → word_of ev.kind ≡ Some Closes
    → fs ≡ ended_by o ev.stream es → KeepsAll None [] es ids ta q a x fs ids ta (q ++ (ev ∷ [])) a x
closed_by None es fs ids ta q a x ev there n word h = absurd (let bad : false ≡ true = n in cc)
closed_by (Some e) es fs ids ta q a x ev there n word h =
    let f : Entry = record e { told = told.Over } in
    rw h (Kept (untouched_set es ev.stream f (rw there (inl refl))) (left_set es ev.stream f (rw there (inl refl)))
    (goes_closed es ids q ev f (rw there n) word refl (ap session_in there)) refl (λ g. g)
    (λ g s. lasts_queued_set es q ev e f there
    (holds_closed (ending_queued ev.kind) (halves_in (Some e)) (halves_in (Some f)) (closed_ends ev.kind word)))
    (λ g s. worked_at es ids ta ev.stream e f there refl (inl (sym (ap theirs_in there)))))

-- its last event is queued
pub keeps_closed : (es fs : List (ℕ × Entry)) (ids : Ids) (ta : Table) (q : List Event) (a : Config) (x : Option Ended) (ev : Event)
    → knows_of (entry_at es ev.stream) ≡ true → word_of ev.kind ≡ Some Closes → fs ≡ ended_at es ev.stream
    → KeepsAll None [] es ids ta q a x fs ids ta (q ++ (ev ∷ [])) a x
keeps_closed es fs ids ta q a x ev n word h = closed_by (entry_at es ev.stream) es fs ids ta q a x ev refl n word h

last_by : (o : Option Entry) (es fs : List (ℕ × Entry)) (ids : Ids) (ta : Table) (q : List Event) (a : Config) (x : Option Ended)
    (ev : Event) → entry_at es ev.stream ≡ o → knows_of o ≡ true → word_of ev.kind ≡ Some Closes → q ≡ []
    → fs ≡ ended_by o ev.stream es → KeepsAll None (ev ∷ []) es ids ta q a x fs ids ta q a x
last_by None es fs ids ta q a x ev there n word none h = absurd (let bad : false ≡ true = n in cc)
last_by (Some e) es fs ids ta q a x ev there n word none h =
    let f : Entry = record e { told = told.Over } in
    rw h (Kept (untouched_set es ev.stream f (rw there (inl refl))) (left_set es ev.stream f (rw there (inl refl)))
    (goes_last es ids q ev f (rw there n) word refl (ap session_in there) none) refl (λ g. g)
    (λ g s. lasts_told_set es q ev e f there
    (holds_closed (ending_told ev.kind) (halves_in (Some e)) (halves_in (Some f)) (closed_told ev.kind word)))
    (λ g s. worked_at es ids ta ev.stream e f there refl (inl (sym (ap theirs_in there)))))

-- its last event is told, where none is queued
pub keeps_last : (es fs : List (ℕ × Entry)) (ids : Ids) (ta : Table) (q : List Event) (a : Config) (x : Option Ended) (ev : Event)
    → knows_of (entry_at es ev.stream) ≡ true → word_of ev.kind ≡ Some Closes → q ≡ [] → fs ≡ ended_at es ev.stream
    → KeepsAll None (ev ∷ []) es ids ta q a x fs ids ta q a x
keeps_last es fs ids ta q a x ev n word none h = last_by (entry_at es ev.stream) es fs ids ta q a x ev refl n word none h
