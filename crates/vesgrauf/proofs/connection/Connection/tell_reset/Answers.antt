use Rattle.vesgrauf.proofs.PlaceLemmas.{ordered_half}
use Rattle.vesgrauf.specs.Places.{Ordered}
use Rattle.vesgrauf.proofs.JoinedLemmas.{joined_stays}
use Rattle.vesgrauf.proofs.SeveredLemmas.{stays_same, stays_gone}
use Rattle.vesgrauf.specs.Own.{entry_at}
use Rattle.vesgrauf.specs.Joined.{Joined}
use Rattle.vesgrauf.specs.declared.entry.Entry.{Entry}
use Rattle.std.specs.BTreeMap.{is_at}
use Rattle.std.specs.Map.{set_value}
use Rattle.std.specs.Ordering.{nat_cmp}
use Rattle.std.proofs.Common.{rules, ◌≡◌, refl, sym, subst, Some, ℕ, List}
use Rattle.vesgrauf.proofs.connection.Connection.tell_reset.Goals as goal

pub invariant_of-self-2-clause-joined : goal.invariant_of-self-2-clause-joined
invariant_of-self-2-clause-joined c =
    let e : Entry = c.in-Some.entry.now in
    let there : entry_at c.args.self.now.streams.entries c.args.id ≡ Some e = search (rules) in
    let written : (f : Entry) → (c.get_mut.follows.lender f).entries
    ≡ set_value (is_at (nat_cmp c.args.id)) c.args.self.now.streams.entries f = λ f. search (rules) in
    subst (λ (x : List (ℕ × Entry)). Joined x c.args.self.now.ids) (sym (written _))
    (joined_stays c.args.self.now.streams.entries c.args.self.now.ids c.args.id e _ there
    (stays_gone e _ refl refl refl refl (c.dropped-entry.ensures e.is_decoder e.reading) refl) c.args.self.now.joined)

pub invariant_of-self-in-Break-1 : goal.invariant_of-self-in-Break-1
invariant_of-self-in-Break-1 c =
    let e : Entry = c.in-Some.entry.now in
    let there : entry_at c.args.self.now.streams.entries c.args.id ≡ Some e = search (rules) in
    let written : (f : Entry) → (c.get_mut.follows.lender f).entries
    ≡ set_value (is_at (nat_cmp c.args.id)) c.args.self.now.streams.entries f = λ f. search (rules) in
    record {
      ordered = subst (λ (x : List (ℕ × Entry)). Ordered x c.args.self.now.ready.ranks c.args.self.now.unplaced) (sym (written _))
          (ordered_half c.args.self.now.streams.entries c.args.self.now.ready.ranks c.args.self.now.unplaced c.args.id e _ there refl refl refl refl c.args.self.now.ordered);
      joined = subst (λ (x : List (ℕ × Entry)). Joined x c.args.self.now.ids) (sym (written _))
          (joined_stays c.args.self.now.streams.entries c.args.self.now.ids c.args.id e _ there
          (stays_same e _ refl refl refl refl refl refl refl) c.args.self.now.joined);
      within = c.args.self.now.within;
      few = c.args.self.now.few;
    }

pub invariant_of-self-2-clause-ordered : goal.invariant_of-self-2-clause-ordered
invariant_of-self-2-clause-ordered c =
    let e : Entry = c.in-Some.entry.now in
    let there : entry_at c.args.self.now.streams.entries c.args.id ≡ Some e = search (rules) in
    let written : (f : Entry) → (c.get_mut.follows.lender f).entries
    ≡ set_value (is_at (nat_cmp c.args.id)) c.args.self.now.streams.entries f = λ f. search (rules) in
    subst (λ (x : List (ℕ × Entry)). Ordered x c.args.self.now.ready.ranks c.args.self.now.unplaced) (sym (written _))
    (ordered_half c.args.self.now.streams.entries c.args.self.now.ready.ranks c.args.self.now.unplaced c.args.id e _ there refl refl refl refl c.args.self.now.ordered)
