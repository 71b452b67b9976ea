use Rattle.vesgrauf.proofs.PlaceLemmas.{ordered_half}
use Rattle.vesgrauf.specs.Places.{Ordered}
use Rattle.vesgrauf.proofs.JoinedLemmas.{joined_stays}
use Rattle.vesgrauf.proofs.SeveredLemmas.{stays_same}
use Rattle.vesgrauf.specs.Own.{entry_at}
use Rattle.vesgrauf.specs.Joined.{Joined}
use Rattle.vesgrauf.specs.declared.entry.Entry.{Entry}
use Rattle.std.specs.BTreeMap.{is_at}
use Rattle.std.specs.Map.{set_value}
use Rattle.std.specs.Ordering.{nat_cmp}
use Rattle.std.proofs.Common.{rules, ◌≡◌, ap, refl, sym, subst, None, Some, ℕ, List, []}
use Rattle.vesgrauf.specs.Halves.{Lasts}
use Rattle.vesgrauf.specs.declared.connection.Connection.{Connection}
use Rattle.vesgrauf.proofs.SendsLemmas.{lasting_same, lasts_still_as}
use Rattle.vesgrauf.specs.Instructions.{table_of}
use Rattle.vesgrauf.specs.State.{is_over}
use Rattle.vesgrauf.specs.Works.{WorksUnless, book_at, book_of, WorksOn}
use Rattle.vesgrauf.proofs.ActLemmas.{act_kept, act_still, act_trans}
use Rattle.vesgrauf.proofs.connection.Connection.pause.Goals as goal

pub invariant_of-self-2-clause-joined : goal.invariant_of-self-2-clause-joined
invariant_of-self-2-clause-joined c =
    let e : Entry = c.in-Some.entry.now in
    let there : entry_at c.reserve.new.self.streams.entries c.args.id ≡ Some e = search (rules) in
    let written : (f : Entry) → (c.get_mut.follows.lender f).entries
    ≡ set_value (is_at (nat_cmp c.args.id)) c.reserve.new.self.streams.entries f = λ f. search (rules) in
    subst (λ (x : List (ℕ × Entry)). Joined x c.reserve.new.self.ids) (sym (written _))
    (joined_stays c.reserve.new.self.streams.entries c.reserve.new.self.ids c.args.id e _ there
    (stays_same e _ refl refl refl refl refl refl refl) c.reserve.new.self.joined)

pub invariant_of-self-2-clause-ordered : goal.invariant_of-self-2-clause-ordered
invariant_of-self-2-clause-ordered c =
    let e : Entry = c.in-Some.entry.now in
    let there : entry_at c.reserve.new.self.streams.entries c.args.id ≡ Some e = search (rules) in
    let written : (f : Entry) → (c.get_mut.follows.lender f).entries
    ≡ set_value (is_at (nat_cmp c.args.id)) c.reserve.new.self.streams.entries f = λ f. search (rules) in
    subst (λ (x : List (ℕ × Entry)). Ordered x c.reserve.new.self.ready.ranks c.reserve.new.self.unplaced) (sym (written _))
    (ordered_half c.reserve.new.self.streams.entries c.reserve.new.self.ready.ranks c.reserve.new.self.unplaced c.args.id e _ there refl refl refl refl c.reserve.new.self.ordered)

pub returns-then-not-paused-clause-lasts : goal.returns-then-not-paused-clause-lasts
returns-then-not-paused-clause-lasts c =
    let e : Entry = c.in-Some.entry.now in
    let f : Entry = record e { is_paused = c.args.paused } in
    let there : entry_at c.reserve.new.self.streams.entries c.args.id ≡ Some e = search (rules) in
    let written : (c.get_mut.follows.lender f).entries
    ≡ set_value (is_at (nat_cmp c.args.id)) c.reserve.new.self.streams.entries f = search (rules) in
    λ over sound. subst (λ (x : Connection). Lasts None [] c.args.self.now.streams.entries c.args.self.now.events.items
    x.streams.entries x.events.items) (sym c.wake.ensures) (lasts_still_as c.args.self.now.streams.entries c.reserve.new.self.streams.entries
    (c.get_mut.follows.lender f).entries c.args.self.now.events.items
    c.reserve.new.self.events.items c.args.id e f
    (ap (λ v. v.streams) c.reserve.ensures.still) (ap (λ v. v.events) c.reserve.ensures.still) there
    written (lasting_same e f refl refl refl refl))

pub returns-else-not-paused-clause-lasts : goal.returns-else-not-paused-clause-lasts
returns-else-not-paused-clause-lasts c =
    let e : Entry = c.in-Some.entry.now in
    let f : Entry = record e { is_paused = c.args.paused } in
    let there : entry_at c.reserve.new.self.streams.entries c.args.id ≡ Some e = search (rules) in
    let written : (c.get_mut.follows.lender f).entries
    ≡ set_value (is_at (nat_cmp c.args.id)) c.reserve.new.self.streams.entries f = search (rules) in
    λ over sound. lasts_still_as c.args.self.now.streams.entries c.reserve.new.self.streams.entries
    (c.get_mut.follows.lender f).entries c.args.self.now.events.items
    c.reserve.new.self.events.items c.args.id e f
    (ap (λ v. v.streams) c.reserve.ensures.still) (ap (λ v. v.events) c.reserve.ensures.still) there
    written (lasting_same e f refl refl refl refl)

pub returns-then-not-paused-clause-works : goal.returns-then-not-paused-clause-works
returns-then-not-paused-clause-works c =
    let e : Entry = c.in-Some.entry.now in
    let f : Entry = record e { is_paused = c.args.paused } in
    let there : entry_at c.reserve.new.self.streams.entries c.args.id ≡ Some e = search (rules) in
    let written : (c.get_mut.follows.lender f).entries
    ≡ set_value (is_at (nat_cmp c.args.id)) c.reserve.new.self.streams.entries f = search (rules) in
    subst (λ (x : Connection). WorksOn c.args.self.now x) (sym c.wake.ensures)
    (act_trans (act_still c.args.self.now c.reserve.new.self c.reserve.ensures.still)
    (subst (λ (x : List (ℕ × Entry)). WorksUnless (is_over c.reserve.new.self) (is_over c.reserve.new.self) (book_of c.reserve.new.self)
    (book_at x c.reserve.new.self.ids (table_of c.reserve.new.self))) (sym written)
    (act_kept c.reserve.new.self.streams.entries c.reserve.new.self.ids (table_of c.reserve.new.self) (is_over c.reserve.new.self) c.args.id e f there refl refl refl refl refl refl)))

pub returns-else-not-paused-clause-works : goal.returns-else-not-paused-clause-works
returns-else-not-paused-clause-works c =
    let e : Entry = c.in-Some.entry.now in
    let f : Entry = record e { is_paused = c.args.paused } in
    let there : entry_at c.reserve.new.self.streams.entries c.args.id ≡ Some e = search (rules) in
    let written : (c.get_mut.follows.lender f).entries
    ≡ set_value (is_at (nat_cmp c.args.id)) c.reserve.new.self.streams.entries f = search (rules) in
    act_trans (act_still c.args.self.now c.reserve.new.self c.reserve.ensures.still)
    (subst (λ (x : List (ℕ × Entry)). WorksUnless (is_over c.reserve.new.self) (is_over c.reserve.new.self) (book_of c.reserve.new.self)
    (book_at x c.reserve.new.self.ids (table_of c.reserve.new.self))) (sym written)
    (act_kept c.reserve.new.self.streams.entries c.reserve.new.self.ids (table_of c.reserve.new.self) (is_over c.reserve.new.self) c.args.id e f there refl refl refl refl refl refl))
