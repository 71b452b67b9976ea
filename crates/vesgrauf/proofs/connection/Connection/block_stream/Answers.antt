use Rattle.vesgrauf.specs.Places.{Ordered}
use Rattle.vesgrauf.specs.Joined.{Joined}
use Rattle.std.proofs.Common.{rules, ◌≡◌, refl, Some, false, true, sym, subst, ℕ, List, ◌∙◌, None, []}
use Rattle.std.specs.Ordering.{nat_cmp}
use Rattle.std.specs.Map.{set_value}
use Rattle.std.specs.BTreeMap.{is_at}
use Rattle.vesgrauf.specs.declared.entry.Entry.{Entry}
use Rattle.vesgrauf.specs.Own.{entry_at}
use Rattle.vesgrauf.proofs.JoinedLemmas.{joined_stays}
use Rattle.vesgrauf.proofs.SeveredLemmas.{stays_same}
use Rattle.vesgrauf.proofs.PlaceLemmas.{ordered_given, ordered_blocked, ordered_quiet, ordered_half, ordered_closed}
use Rattle.vesgrauf.specs.Instructions.{table_of}
use Rattle.vesgrauf.specs.State.{is_over}
use Rattle.vesgrauf.specs.Works.{WorksUnless, book_at, book_of}
use Rattle.vesgrauf.proofs.ActLemmas.{act_kept}
use Rattle.vesgrauf.specs.Halves.{Lasts}
use Rattle.vesgrauf.proofs.SendsLemmas.{lasting_same, lasts_as_before}
use Rattle.vesgrauf.proofs.connection.Connection.block_stream.Goals as goal

pub invariant_of-self-2-clause-ordered : goal.invariant_of-self-2-clause-ordered
invariant_of-self-2-clause-ordered c =
    let e : Entry = c.in-Some.entry.now in
    let f : Entry = record e { is_blocked = false } in
    let there : entry_at c.args.self.now.streams.entries c.args.id ≡ Some e = search (rules) in
    let written : (c.get_mut.follows.lender f).entries
    ≡ set_value (is_at (nat_cmp c.args.id)) c.args.self.now.streams.entries f = search (rules) in
    rw written (ordered_given c.args.self.now.streams.entries c.args.self.now.ready c.give_place.new.ready
    c.args.self.now.unplaced c.in_ok-self.field-0 c.args.id e f there c.in_ok-self.ensures.ok (search (rules)) refl (search (rules)) refl
    c.args.self.now.ordered)

pub invariant_of-self-2-clause-joined : goal.invariant_of-self-2-clause-joined
invariant_of-self-2-clause-joined c =
    let e : Entry = c.in-Some.entry.now in
    let f : Entry = record e { is_blocked = false } in
    let there : entry_at c.args.self.now.streams.entries c.args.id ≡ Some e = search (rules) in
    let written : (c.get_mut.follows.lender f).entries
    ≡ set_value (is_at (nat_cmp c.args.id)) c.args.self.now.streams.entries f = search (rules) in
    rw written (joined_stays c.args.self.now.streams.entries c.args.self.now.ids c.args.id e f there
    (stays_same e f refl refl refl refl refl refl refl)
    c.args.self.now.joined)

pub invariant_of-self-then-blocked-clause-joined : goal.invariant_of-self-then-blocked-clause-joined
invariant_of-self-then-blocked-clause-joined c =
    let e : Entry = c.in-Some.entry.now in
    let there : entry_at c.args.self.now.streams.entries c.args.id ≡ Some e = search (rules) in
    let written : (f : Entry) → (c.get_mut.follows.lender f).entries
    ≡ set_value (is_at (nat_cmp c.args.id)) c.args.self.now.streams.entries f = λ f. search (rules) in
    subst (λ (x : List (ℕ × Entry)). Joined x c.args.self.now.ids) (sym (written _))
    (joined_stays c.args.self.now.streams.entries c.args.self.now.ids c.args.id e _ there
    (stays_same e _ refl refl refl refl refl refl refl) c.args.self.now.joined)

pub invariant_of-self-then-blocked-clause-ordered : goal.invariant_of-self-then-blocked-clause-ordered
invariant_of-self-then-blocked-clause-ordered c =
    let e : Entry = c.in-Some.entry.now in
    let there : entry_at c.args.self.now.streams.entries c.args.id ≡ Some e = search (rules) in
    let written : (f : Entry) → (c.get_mut.follows.lender f).entries
    ≡ set_value (is_at (nat_cmp c.args.id)) c.args.self.now.streams.entries f = λ f. search (rules) in
    subst (λ (x : List (ℕ × Entry)). Ordered x c.remove.new.self.ranks c.args.self.now.unplaced) (sym (written _))
    (ordered_blocked c.args.self.now.streams.entries c.args.self.now.ready c.remove.new.self c.args.self.now.unplaced c.args.id e _ there refl
    (search (rules)) c.args.self.now.ordered)

pub invariant_of-self-then-not-has_more-clause-joined : goal.invariant_of-self-then-not-has_more-clause-joined
invariant_of-self-then-not-has_more-clause-joined c =
    let e : Entry = c.in-Some.entry.now in
    let there : entry_at c.args.self.now.streams.entries c.args.id ≡ Some e = search (rules) in
    let written : (f : Entry) → (c.get_mut.follows.lender f).entries
    ≡ set_value (is_at (nat_cmp c.args.id)) c.args.self.now.streams.entries f = λ f. search (rules) in
    subst (λ (x : List (ℕ × Entry)). Joined x c.args.self.now.ids) (sym (written _))
    (joined_stays c.args.self.now.streams.entries c.args.self.now.ids c.args.id e _ there
    (stays_same e _ refl refl refl refl refl refl refl) c.args.self.now.joined)

pub invariant_of-self-then-not-has_more-clause-ordered : goal.invariant_of-self-then-not-has_more-clause-ordered
invariant_of-self-then-not-has_more-clause-ordered c =
    let e : Entry = c.in-Some.entry.now in
    let there : entry_at c.args.self.now.streams.entries c.args.id ≡ Some e = search (rules) in
    let written : (f : Entry) → (c.get_mut.follows.lender f).entries
    ≡ set_value (is_at (nat_cmp c.args.id)) c.args.self.now.streams.entries f = λ f. search (rules) in
    subst (λ (x : List (ℕ × Entry)). Ordered x c.args.self.now.ready.ranks c.args.self.now.unplaced) (sym (written _))
    (ordered_quiet c.args.self.now.streams.entries c.args.self.now.ready.ranks c.args.self.now.unplaced c.args.id e _ there (sym c.has_more.ensures.more ∙ c.if-not-has_more.true) (sym c.has_more.ensures.more ∙ c.if-not-has_more.true) c.args.self.now.ordered)

pub returns-then-blocked-clause-works : goal.returns-then-blocked-clause-works
returns-then-blocked-clause-works c =
    let e : Entry = c.in-Some.entry.now in
    let f : Entry = record e { is_blocked = true } in
    let there : entry_at c.args.self.now.streams.entries c.args.id ≡ Some e = search (rules) in
    let written : (c.get_mut.follows.lender f).entries
    ≡ set_value (is_at (nat_cmp c.args.id)) c.args.self.now.streams.entries f = search (rules) in
    subst (λ (x : List (ℕ × Entry)). WorksUnless (is_over c.args.self.now) (is_over c.args.self.now) (book_of c.args.self.now)
    (book_at x c.args.self.now.ids (table_of c.args.self.now))) (sym written)
    (act_kept c.args.self.now.streams.entries c.args.self.now.ids (table_of c.args.self.now) (is_over c.args.self.now) c.args.id e f there refl refl refl refl refl refl)

pub returns-then-not-entry-clause-works : goal.returns-then-not-entry-clause-works
returns-then-not-entry-clause-works c =
    let e : Entry = c.in-Some.entry.now in
    let f : Entry = record e { is_blocked = false } in
    let there : entry_at c.args.self.now.streams.entries c.args.id ≡ Some e = search (rules) in
    let written : (c.get_mut.follows.lender f).entries
    ≡ set_value (is_at (nat_cmp c.args.id)) c.args.self.now.streams.entries f = search (rules) in
    subst (λ (x : List (ℕ × Entry)). WorksUnless (is_over c.args.self.now) (is_over c.args.self.now) (book_of c.args.self.now)
    (book_at x c.args.self.now.ids (table_of c.args.self.now))) (sym written)
    (act_kept c.args.self.now.streams.entries c.args.self.now.ids (table_of c.args.self.now) (is_over c.args.self.now) c.args.id e f there refl refl refl refl refl refl)

pub returns-then-not-has_more-clause-works : goal.returns-then-not-has_more-clause-works
returns-then-not-has_more-clause-works c =
    let e : Entry = c.in-Some.entry.now in
    let f : Entry = record e { is_blocked = false } in
    let there : entry_at c.args.self.now.streams.entries c.args.id ≡ Some e = search (rules) in
    let written : (c.get_mut.follows.lender f).entries
    ≡ set_value (is_at (nat_cmp c.args.id)) c.args.self.now.streams.entries f = search (rules) in
    subst (λ (x : List (ℕ × Entry)). WorksUnless (is_over c.args.self.now) (is_over c.args.self.now) (book_of c.args.self.now)
    (book_at x c.args.self.now.ids (table_of c.args.self.now))) (sym written)
    (act_kept c.args.self.now.streams.entries c.args.self.now.ids (table_of c.args.self.now) (is_over c.args.self.now) c.args.id e f there refl refl refl refl refl refl)

pub returns-clause-works : goal.returns-clause-works
returns-clause-works c =
    let e : Entry = c.in-Some.entry.now in
    let f : Entry = record e { is_blocked = false } in
    let there : entry_at c.args.self.now.streams.entries c.args.id ≡ Some e = search (rules) in
    let written : (c.get_mut.follows.lender f).entries
    ≡ set_value (is_at (nat_cmp c.args.id)) c.args.self.now.streams.entries f = search (rules) in
    subst (λ (x : List (ℕ × Entry)). WorksUnless (is_over c.args.self.now) (is_over c.args.self.now) (book_of c.args.self.now)
    (book_at x c.args.self.now.ids (table_of c.args.self.now))) (sym written)
    (act_kept c.args.self.now.streams.entries c.args.self.now.ids (table_of c.args.self.now) (is_over c.args.self.now) c.args.id e f there refl refl refl refl refl refl)

pub returns-then-not-has_more-clause-lasts : goal.returns-then-not-has_more-clause-lasts
returns-then-not-has_more-clause-lasts c =
    let e : Entry = c.in-Some.entry.now in
    let f : Entry = record e { is_blocked = false } in
    let there : entry_at c.args.self.now.streams.entries c.args.id ≡ Some e = search (rules) in
    let written : (c.get_mut.follows.lender f).entries
    ≡ set_value (is_at (nat_cmp c.args.id)) c.args.self.now.streams.entries f = search (rules) in
    λ over sound. subst (λ (x : List (ℕ × Entry)). Lasts None [] c.args.self.now.streams.entries c.args.self.now.events.items x c.args.self.now.events.items)
    (sym written)
    (lasts_as_before None c.args.self.now.streams.entries c.args.self.now.events.items c.args.id e f there (lasting_same e f refl refl refl refl))

pub returns-clause-lasts : goal.returns-clause-lasts
returns-clause-lasts c =
    let e : Entry = c.in-Some.entry.now in
    let f : Entry = record e { is_blocked = false } in
    let there : entry_at c.args.self.now.streams.entries c.args.id ≡ Some e = search (rules) in
    let written : (c.get_mut.follows.lender f).entries
    ≡ set_value (is_at (nat_cmp c.args.id)) c.args.self.now.streams.entries f = search (rules) in
    λ over sound. subst (λ (x : List (ℕ × Entry)). Lasts None [] c.args.self.now.streams.entries c.args.self.now.events.items x c.args.self.now.events.items)
    (sym written)
    (lasts_as_before None c.args.self.now.streams.entries c.args.self.now.events.items c.args.id e f there (lasting_same e f refl refl refl refl))

pub returns-then-blocked-clause-lasts : goal.returns-then-blocked-clause-lasts
returns-then-blocked-clause-lasts c =
    let e : Entry = c.in-Some.entry.now in
    let f : Entry = record e { is_blocked = true } in
    let there : entry_at c.args.self.now.streams.entries c.args.id ≡ Some e = search (rules) in
    let written : (c.get_mut.follows.lender f).entries
    ≡ set_value (is_at (nat_cmp c.args.id)) c.args.self.now.streams.entries f = search (rules) in
    λ over sound. subst (λ (x : List (ℕ × Entry)). Lasts None [] c.args.self.now.streams.entries c.args.self.now.events.items x c.args.self.now.events.items)
    (sym written)
    (lasts_as_before None c.args.self.now.streams.entries c.args.self.now.events.items c.args.id e f there (lasting_same e f refl refl refl refl))

pub returns-then-not-entry-clause-lasts : goal.returns-then-not-entry-clause-lasts
returns-then-not-entry-clause-lasts c =
    let e : Entry = c.in-Some.entry.now in
    let f : Entry = record e { is_blocked = false } in
    let there : entry_at c.args.self.now.streams.entries c.args.id ≡ Some e = search (rules) in
    let written : (c.get_mut.follows.lender f).entries
    ≡ set_value (is_at (nat_cmp c.args.id)) c.args.self.now.streams.entries f = search (rules) in
    λ over sound. subst (λ (x : List (ℕ × Entry)). Lasts None [] c.args.self.now.streams.entries c.args.self.now.events.items x c.args.self.now.events.items)
    (sym written)
    (lasts_as_before None c.args.self.now.streams.entries c.args.self.now.events.items c.args.id e f there (lasting_same e f refl refl refl refl))

pub invariant_of-self-then-not-entry : goal.invariant_of-self-then-not-entry
invariant_of-self-then-not-entry c =
    let e : Entry = c.in-Some.entry.now in
    let there : entry_at c.args.self.now.streams.entries c.args.id ≡ Some e = search (rules) in
    let written : (f : Entry) → (c.get_mut.follows.lender f).entries
    ≡ set_value (is_at (nat_cmp c.args.id)) c.args.self.now.streams.entries f = λ f. search (rules) in
    record {
      ordered = subst (λ (x : List (ℕ × Entry)). Ordered x c.args.self.now.ready.ranks c.args.self.now.unplaced) (sym (written (record e { is_blocked = false })))
          (ordered_closed c.args.self.now.streams.entries c.args.self.now.ready.ranks c.args.self.now.unplaced c.args.id e (record e { is_blocked = false }) there (search (rules)) (search (rules)) c.args.self.now.ordered);
      joined = subst (λ (x : List (ℕ × Entry)). Joined x c.args.self.now.ids) (sym (written (record e { is_blocked = false })))
          (joined_stays c.args.self.now.streams.entries c.args.self.now.ids c.args.id e (record e { is_blocked = false }) there
          (stays_same e (record e { is_blocked = false }) refl refl refl refl refl refl refl) c.args.self.now.joined);
      within = c.args.self.now.within;
      few = c.args.self.now.few;
    }
