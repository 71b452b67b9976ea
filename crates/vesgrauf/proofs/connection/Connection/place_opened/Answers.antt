use Rattle.vesgrauf.specs.Places.{Ordered}
use Rattle.vesgrauf.specs.Joined.{Joined}
use Rattle.std.proofs.Common.{rules, ◌≡◌, refl, Some, true, sym, subst, ℕ, List, ◌∙◌}
use Rattle.std.specs.Ordering.{nat_cmp}
use Rattle.std.specs.Map.{set_value}
use Rattle.std.specs.BTreeMap.{is_at}
use Rattle.vesgrauf.specs.declared.entry.Entry.{Entry}
use Rattle.vesgrauf.specs.Own.{entry_at}
use Rattle.vesgrauf.proofs.JoinedLemmas.{joined_stays}
use Rattle.vesgrauf.proofs.SeveredLemmas.{stays_same}
use Rattle.vesgrauf.proofs.PlaceLemmas.{ordered_given, ordered_half, ordered_blocked_on, ordered_quiet}
use Rattle.vesgrauf.proofs.connection.Connection.place_opened.Goals as goal

pub invariant_of-self-2-clause-ordered : goal.invariant_of-self-2-clause-ordered
invariant_of-self-2-clause-ordered c =
    let e : Entry = c.in-Some.entry.now in
    let f : Entry = record e { is_opened = true } in
    let there : entry_at c.args.self.now.streams.entries c.args.id ≡ Some e = search (rules) in
    let written : (c.get_mut.follows.lender f).entries
    ≡ set_value (is_at (nat_cmp c.args.id)) c.args.self.now.streams.entries f = search (rules) in
    rw written (ordered_given c.args.self.now.streams.entries c.args.self.now.ready c.give_place.new.ready
    c.args.self.now.unplaced c.in_ok-self.field-0 c.args.id e f there c.in_ok-self.ensures.ok refl (search (rules)) (search (rules)) refl
    c.args.self.now.ordered)

pub invariant_of-self-2-clause-joined : goal.invariant_of-self-2-clause-joined
invariant_of-self-2-clause-joined c =
    let e : Entry = c.in-Some.entry.now in
    let f : Entry = record e { is_opened = true } in
    let there : entry_at c.args.self.now.streams.entries c.args.id ≡ Some e = search (rules) in
    let written : (c.get_mut.follows.lender f).entries
    ≡ set_value (is_at (nat_cmp c.args.id)) c.args.self.now.streams.entries f = search (rules) in
    rw written (joined_stays c.args.self.now.streams.entries c.args.self.now.ids c.args.id e f there
    (stays_same e f refl refl refl refl refl refl refl)
    c.args.self.now.joined)

pub invariant_of-self-then-entry-clause-joined : goal.invariant_of-self-then-entry-clause-joined
invariant_of-self-then-entry-clause-joined c =
    let e : Entry = c.in-Some.entry.now in
    let there : entry_at c.args.self.now.streams.entries c.args.id ≡ Some e = search (rules) in
    let written : (f : Entry) → (c.get_mut.follows.lender f).entries
    ≡ set_value (is_at (nat_cmp c.args.id)) c.args.self.now.streams.entries f = λ f. search (rules) in
    subst (λ (x : List (ℕ × Entry)). Joined x c.args.self.now.ids) (sym (written _))
    (joined_stays c.args.self.now.streams.entries c.args.self.now.ids c.args.id e _ there
    (stays_same e _ refl refl refl refl refl refl refl) c.args.self.now.joined)

pub invariant_of-self-in-Break-1 : goal.invariant_of-self-in-Break-1
invariant_of-self-in-Break-1 c =
    let e : Entry = c.in-Some.entry.now in
    let there : entry_at c.args.self.now.streams.entries c.args.id ≡ Some e = search (rules) in
    let written : (f : Entry) → (c.get_mut.follows.lender f).entries
    ≡ set_value (is_at (nat_cmp c.args.id)) c.args.self.now.streams.entries f = λ f. search (rules) in
    record {
      ordered = subst (λ (x : List (ℕ × Entry)). Ordered x c.give_place.new.ready.ranks c.args.self.now.unplaced) (sym (written e))
          (rw c.in_err-self.ensures.err (ordered_half c.args.self.now.streams.entries c.args.self.now.ready.ranks c.args.self.now.unplaced c.args.id e e there refl refl refl refl c.args.self.now.ordered));
      joined = subst (λ (x : List (ℕ × Entry)). Joined x c.args.self.now.ids) (sym (written e))
          (joined_stays c.args.self.now.streams.entries c.args.self.now.ids c.args.id e e there
          (stays_same e e refl refl refl refl refl refl refl) c.args.self.now.joined);
      within = c.args.self.now.within;
      few = c.args.self.now.few;
    }

pub invariant_of-self-then-entry-clause-ordered : goal.invariant_of-self-then-entry-clause-ordered
invariant_of-self-then-entry-clause-ordered c =
    let e : Entry = c.in-Some.entry.now in
    let there : entry_at c.args.self.now.streams.entries c.args.id ≡ Some e = search (rules) in
    let written : (f : Entry) → (c.get_mut.follows.lender f).entries
    ≡ set_value (is_at (nat_cmp c.args.id)) c.args.self.now.streams.entries f = λ f. search (rules) in
    subst (λ (x : List (ℕ × Entry)). Ordered x c.args.self.now.ready.ranks c.args.self.now.unplaced) (sym (written _))
    (ordered_blocked_on c.args.self.now.streams.entries c.args.self.now.ready.ranks c.args.self.now.unplaced c.args.id e _ there c.if-entry.true c.if-entry.true c.args.self.now.ordered)

pub invariant_of-self-then-not-has_more-clause-joined : goal.invariant_of-self-then-not-has_more-clause-joined
invariant_of-self-then-not-has_more-clause-joined c =
    let e : Entry = c.in-Some.entry.now in
    let there : entry_at c.args.self.now.streams.entries c.args.id ≡ Some e = search (rules) in
    let written : (f : Entry) → (c.get_mut.follows.lender f).entries
    ≡ set_value (is_at (nat_cmp c.args.id)) c.args.self.now.streams.entries f = λ f. search (rules) in
    subst (λ (x : List (ℕ × Entry)). Joined x c.args.self.now.ids) (sym (written _))
    (joined_stays c.args.self.now.streams.entries c.args.self.now.ids c.args.id e _ there
    (stays_same e _ refl refl refl refl refl refl refl) c.args.self.now.joined)

pub invariant_of-self-then-not-has_more-clause-ordered : goal.invariant_of-self-then-not-has_more-clause-ordered
invariant_of-self-then-not-has_more-clause-ordered c =
    let e : Entry = c.in-Some.entry.now in
    let there : entry_at c.args.self.now.streams.entries c.args.id ≡ Some e = search (rules) in
    let written : (f : Entry) → (c.get_mut.follows.lender f).entries
    ≡ set_value (is_at (nat_cmp c.args.id)) c.args.self.now.streams.entries f = λ f. search (rules) in
    subst (λ (x : List (ℕ × Entry)). Ordered x c.args.self.now.ready.ranks c.args.self.now.unplaced) (sym (written _))
    (ordered_quiet c.args.self.now.streams.entries c.args.self.now.ready.ranks c.args.self.now.unplaced c.args.id e _ there (sym c.has_more.ensures.more ∙ c.if-not-has_more.true) (sym c.has_more.ensures.more ∙ c.if-not-has_more.true) c.args.self.now.ordered)
