use Rattle.vesgrauf.proofs.PlaceLemmas.{ordered_half, ordered_later}
use Rattle.vesgrauf.specs.Places.{Ordered}
use Rattle.vesgrauf.proofs.JoinedLemmas.{joined_stays}
use Rattle.vesgrauf.proofs.SeveredLemmas.{stays_same, stays_half, out_finished, not_there}
use Rattle.vesgrauf.specs.Joined.{Joined}
use Rattle.std.proofs.Common.{rules, ◌≡◌, true, refl, Some, sym, subst, ℕ, List, ◌∙◌}
use Rattle.std.specs.Ordering.{nat_cmp}
use Rattle.std.specs.Map.{set_value}
use Rattle.std.specs.BTreeMap.{is_at}
use Rattle.vesgrauf_stream.specs.Writing.{is_connect}
use Rattle.vesgrauf.specs.declared.entry.Entry.{Entry}
use Rattle.vesgrauf.specs.Own.{entry_at}
use Rattle.vesgrauf.proofs.KeepsLemmas.{keeps_tried}
use Rattle.vesgrauf.proofs.connection.Connection.end_later.Goals as goal

pub returns : goal.returns
returns c =
    let e : Entry = c.in-Some.entry.now in
    let f : Entry = record e { writing = c.finish-finished.new.self } in
    let there : entry_at c.args.self.now.streams.entries c.args.id ≡ Some e = search (rules) in
    let written : (c.get_mut.follows.lender f).entries
    ≡ set_value (is_at (nat_cmp c.args.id)) c.args.self.now.streams.entries f = search (rules) in
    let connect : is_connect e.writing.half ≡ true = search (rules) in
    record {
      keeps = rw written (keeps_tried c.finish-finished.result _ c.args.self.now.streams.entries c.args.self.now.ids _
          c.args.self.now.events.items c.args.self.now.config c.args.self.now.ended c.args.id e f there connect
          c.finish-finished.ensures refl refl refl);
    }

pub invariant_of-self-then-has_more-clause-joined : goal.invariant_of-self-then-has_more-clause-joined
invariant_of-self-then-has_more-clause-joined c =
    let e : Entry = c.in-Some.entry.now in
    let there : entry_at c.args.self.now.streams.entries c.args.id ≡ Some e = search (rules) in
    let written : (f : Entry) → (c.get_mut.follows.lender f).entries
    ≡ set_value (is_at (nat_cmp c.args.id)) c.args.self.now.streams.entries f = λ f. search (rules) in
    subst (λ (x : List (ℕ × Entry)). Joined x c.args.self.now.ids) (sym (written _))
    (joined_stays c.args.self.now.streams.entries c.args.self.now.ids c.args.id e _ there
    (stays_same e _ refl refl refl refl refl refl refl) c.args.self.now.joined)

pub invariant_of-self-then-is_some-clause-joined : goal.invariant_of-self-then-is_some-clause-joined
invariant_of-self-then-is_some-clause-joined c =
    let e : Entry = c.in-Some.entry.now in
    let there : entry_at c.args.self.now.streams.entries c.args.id ≡ Some e = search (rules) in
    let written : (f : Entry) → (c.get_mut.follows.lender f).entries
    ≡ set_value (is_at (nat_cmp c.args.id)) c.args.self.now.streams.entries f = λ f. search (rules) in
    subst (λ (x : List (ℕ × Entry)). Joined x c.args.self.now.ids) (sym (written _))
    (joined_stays c.args.self.now.streams.entries c.args.self.now.ids c.args.id e _ there
    (stays_same e _ refl refl refl refl refl refl refl) c.args.self.now.joined)

pub invariant_of-self-2-clause-joined : goal.invariant_of-self-2-clause-joined
invariant_of-self-2-clause-joined c =
    let e : Entry = c.in-Some.entry.now in
    let there : entry_at c.args.self.now.streams.entries c.args.id ≡ Some e = search (rules) in
    let written : (f : Entry) → (c.get_mut.follows.lender f).entries
    ≡ set_value (is_at (nat_cmp c.args.id)) c.args.self.now.streams.entries f = λ f. search (rules) in
    subst (λ (x : List (ℕ × Entry)). Joined x c.args.self.now.ids) (sym (written _))
    (joined_stays c.args.self.now.streams.entries c.args.self.now.ids c.args.id e _ there
    (stays_half e _ refl refl (out_finished c.finish-finished.result e.writing c.finish-finished.new.self
    c.finish-finished.ensures) refl refl refl refl) c.args.self.now.joined)

pub invariant_of-self-then-is_some-clause-ordered : goal.invariant_of-self-then-is_some-clause-ordered
invariant_of-self-then-is_some-clause-ordered c =
    let e : Entry = c.in-Some.entry.now in
    let there : entry_at c.args.self.now.streams.entries c.args.id ≡ Some e = search (rules) in
    let written : (f : Entry) → (c.get_mut.follows.lender f).entries
    ≡ set_value (is_at (nat_cmp c.args.id)) c.args.self.now.streams.entries f = λ f. search (rules) in
    subst (λ (x : List (ℕ × Entry)). Ordered x c.args.self.now.ready.ranks c.args.self.now.unplaced) (sym (written _))
    (ordered_half c.args.self.now.streams.entries c.args.self.now.ready.ranks c.args.self.now.unplaced c.args.id e _ there refl refl refl refl c.args.self.now.ordered)

pub invariant_of-self-2-clause-ordered : goal.invariant_of-self-2-clause-ordered
invariant_of-self-2-clause-ordered c =
    let e : Entry = c.in-Some.entry.now in
    let there : entry_at c.args.self.now.streams.entries c.args.id ≡ Some e = search (rules) in
    let written : (f : Entry) → (c.get_mut.follows.lender f).entries
    ≡ set_value (is_at (nat_cmp c.args.id)) c.args.self.now.streams.entries f = λ f. search (rules) in
    subst (λ (x : List (ℕ × Entry)). Ordered x c.keep_place.new.ready.ranks (Some c.args.id)) (sym (written _))
    (ordered_later c.args.self.now.streams.entries c.args.self.now.ready c.keep_place.new.ready c.args.self.now.unplaced c.args.id e _ there
    (sym c.has_more.ensures.more ∙ c.if-has_more.false)
    (not_there c.args.self.now.unplaced c.is_some.result c.is_some.ensures c.if-is_some.false) c.keep_place.ensures c.args.self.now.ordered)

pub invariant_of-self-then-not-is_connect : goal.invariant_of-self-then-not-is_connect
invariant_of-self-then-not-is_connect c =
    let e : Entry = c.in-Some.entry.now in
    let there : entry_at c.args.self.now.streams.entries c.args.id ≡ Some e = search (rules) in
    let written : (f : Entry) → (c.get_mut.follows.lender f).entries
    ≡ set_value (is_at (nat_cmp c.args.id)) c.args.self.now.streams.entries f = λ f. search (rules) in
    record {
      ordered = subst (λ (x : List (ℕ × Entry)). Ordered x c.args.self.now.ready.ranks c.args.self.now.unplaced) (sym (written _))
          (ordered_half c.args.self.now.streams.entries c.args.self.now.ready.ranks c.args.self.now.unplaced c.args.id e _ there refl refl refl refl c.args.self.now.ordered);
      joined = subst (λ (x : List (ℕ × Entry)). Joined x c.args.self.now.ids) (sym (written _))
          (joined_stays c.args.self.now.streams.entries c.args.self.now.ids c.args.id e _ there
          (stays_same e _ refl refl refl refl refl refl refl) c.args.self.now.joined);
      within = c.args.self.now.within;
      few = c.args.self.now.few;
    }
