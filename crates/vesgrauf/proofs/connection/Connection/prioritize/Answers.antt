use Rattle.std.proofs.Common.{rules, ◌≡◌, ℕ, List, [], None, Some, refl, sym, subst}
use Rattle.std.specs.Ordering.{nat_cmp}
use Rattle.std.specs.Map.{set_value}
use Rattle.std.specs.BTreeMap.{is_at}
use Rattle.vesgrauf.specs.declared.entry.Entry.{Entry}
use Rattle.vesgrauf.specs.Own.{entry_at}
use Rattle.vesgrauf.proofs.JoinedLemmas.{joined_stays}
use Rattle.vesgrauf.proofs.SeveredLemmas.{stays_same}
use Rattle.vesgrauf.proofs.MovedLemmas.{ordered_moved}
use Rattle.vesgrauf.specs.Halves.{Lasts}
use Rattle.vesgrauf.proofs.SendsLemmas.{lasting_same, lasts_as_before}
use Rattle.vesgrauf.specs.Instructions.{table_of}
use Rattle.vesgrauf.specs.State.{is_over}
use Rattle.vesgrauf.specs.Works.{WorksUnless, book_at, book_of}
use Rattle.vesgrauf.proofs.ActLemmas.{act_kept}
use Rattle.vesgrauf.proofs.connection.Connection.prioritize.Goals as goal

pub invariant_of-self-2-clause-ordered : goal.invariant_of-self-2-clause-ordered
invariant_of-self-2-clause-ordered c =
    let e : Entry = c.in-Some.entry.now in
    let f : Entry = record e { priority = c.args.priority } in
    let there : entry_at c.args.self.now.streams.entries c.args.id ≡ Some e = search (rules) in
    let written : (c.get_mut.follows.lender f).entries
    ≡ set_value (is_at (nat_cmp c.args.id)) c.args.self.now.streams.entries f = search (rules) in
    rw written (ordered_moved c.args.self.now.streams.entries c.args.self.now.ready
    c.move_place.new.ready c.args.self.now.unplaced c.args.id e f c.args.priority there (search (rules)) refl
    c.args.self.now.ordered)

pub invariant_of-self-2-clause-joined : goal.invariant_of-self-2-clause-joined
invariant_of-self-2-clause-joined c =
    let e : Entry = c.in-Some.entry.now in
    let f : Entry = record e { priority = c.args.priority } in
    let there : entry_at c.args.self.now.streams.entries c.args.id ≡ Some e = search (rules) in
    let written : (c.get_mut.follows.lender f).entries
    ≡ set_value (is_at (nat_cmp c.args.id)) c.args.self.now.streams.entries f = search (rules) in
    rw written (joined_stays c.args.self.now.streams.entries c.args.self.now.ids c.args.id e f there
    (stays_same e f refl refl refl refl refl refl refl)
    c.args.self.now.joined)

pub invariant_of-self-then-not-entry-clause-joined : goal.invariant_of-self-then-not-entry-clause-joined
invariant_of-self-then-not-entry-clause-joined c =
    let e : Entry = c.in-Some.entry.now in
    let f : Entry = record e { priority = c.args.priority } in
    let there : entry_at c.args.self.now.streams.entries c.args.id ≡ Some e = search (rules) in
    let written : (c.get_mut.follows.lender f).entries
    ≡ set_value (is_at (nat_cmp c.args.id)) c.args.self.now.streams.entries f = search (rules) in
    rw written (joined_stays c.args.self.now.streams.entries c.args.self.now.ids c.args.id e f there
    (stays_same e f refl refl refl refl refl refl refl)
    c.args.self.now.joined)

pub returns-then-not-entry-clause-lasts : goal.returns-then-not-entry-clause-lasts
returns-then-not-entry-clause-lasts c =
    let e : Entry = c.in-Some.entry.now in
    let f : Entry = record e { priority = c.args.priority } in
    let there : entry_at c.args.self.now.streams.entries c.args.id ≡ Some e = search (rules) in
    let written : (c.get_mut.follows.lender f).entries
    ≡ set_value (is_at (nat_cmp c.args.id)) c.args.self.now.streams.entries f = search (rules) in
    λ over sound. subst (λ (x : List (ℕ × Entry)). Lasts None [] c.args.self.now.streams.entries c.args.self.now.events.items x
    c.args.self.now.events.items) (sym written)
    (lasts_as_before None c.args.self.now.streams.entries c.args.self.now.events.items c.args.id e f there
    (lasting_same e f refl refl refl refl))

pub returns-clause-lasts : goal.returns-clause-lasts
returns-clause-lasts c =
    let e : Entry = c.in-Some.entry.now in
    let f : Entry = record e { priority = c.args.priority } in
    let there : entry_at c.args.self.now.streams.entries c.args.id ≡ Some e = search (rules) in
    let written : (c.get_mut.follows.lender f).entries
    ≡ set_value (is_at (nat_cmp c.args.id)) c.args.self.now.streams.entries f = search (rules) in
    λ over sound. subst (λ (x : List (ℕ × Entry)). Lasts None [] c.args.self.now.streams.entries c.args.self.now.events.items x
    c.args.self.now.events.items) (sym written)
    (lasts_as_before None c.args.self.now.streams.entries c.args.self.now.events.items c.args.id e f there
    (lasting_same e f refl refl refl refl))

pub returns-then-not-entry-clause-works : goal.returns-then-not-entry-clause-works
returns-then-not-entry-clause-works c =
    let e : Entry = c.in-Some.entry.now in
    let f : Entry = record e { priority = c.args.priority } in
    let there : entry_at c.args.self.now.streams.entries c.args.id ≡ Some e = search (rules) in
    let written : (c.get_mut.follows.lender f).entries
    ≡ set_value (is_at (nat_cmp c.args.id)) c.args.self.now.streams.entries f = search (rules) in
    subst (λ (x : List (ℕ × Entry)). WorksUnless (is_over c.args.self.now) (is_over c.args.self.now) (book_of c.args.self.now)
    (book_at x c.args.self.now.ids (table_of c.args.self.now))) (sym written)
    (act_kept c.args.self.now.streams.entries c.args.self.now.ids (table_of c.args.self.now) (is_over c.args.self.now) c.args.id e f there refl refl refl refl refl refl)

pub returns-clause-works : goal.returns-clause-works
returns-clause-works c =
    let e : Entry = c.in-Some.entry.now in
    let f : Entry = record e { priority = c.args.priority } in
    let there : entry_at c.args.self.now.streams.entries c.args.id ≡ Some e = search (rules) in
    let written : (c.get_mut.follows.lender f).entries
    ≡ set_value (is_at (nat_cmp c.args.id)) c.args.self.now.streams.entries f = search (rules) in
    subst (λ (x : List (ℕ × Entry)). WorksUnless (is_over c.args.self.now) (is_over c.args.self.now) (book_of c.args.self.now)
    (book_at x c.args.self.now.ids (table_of c.args.self.now))) (sym written)
    (act_kept c.args.self.now.streams.entries c.args.self.now.ids (table_of c.args.self.now) (is_over c.args.self.now) c.args.id e f there refl refl refl refl refl refl)
