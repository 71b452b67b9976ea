use Rattle.vesgrauf.proofs.PlaceLemmas.{ordered_half}
use Rattle.vesgrauf.specs.Places.{Ordered}
use Rattle.vesgrauf.specs.Items.{items_found}
use Rattle.vesgrauf.specs.Theirs.{ReadsOn}
use Rattle.std.proofs.Common.{rules, ◌≡◌, ◌∙◌, sym, subst, Some, ℕ, List, refl, ap}
use Rattle.std.specs.Ordering.{nat_cmp}
use Rattle.std.specs.Map.{set_value}
use Rattle.std.specs.BTreeMap.{is_at}
use Rattle.vesgrauf.specs.declared.entry.Entry.{Entry}
use Rattle.vesgrauf.specs.Joined.{Joined}
use Rattle.vesgrauf.specs.Own.{entry_at}
use Rattle.vesgrauf.proofs.JoinedLemmas.{joined_stays}
use Rattle.vesgrauf.proofs.SeveredLemmas.{stays_same}
use Rattle.vesgrauf.proofs.LookLemmas.{counted_set}
use Rattle.vesgrauf.proofs.connection.Connection.look.Goals as goal

pub invariant_of-self-2-clause-joined : goal.invariant_of-self-2-clause-joined
invariant_of-self-2-clause-joined c =
    let e : Entry = c.in-Some.entry.now in
    let there : entry_at c.args.self.now.streams.entries c.args.id ≡ Some e = search (rules) in
    let written : (f : Entry) → (c.get_mut.follows.lender f).entries
    ≡ set_value (is_at (nat_cmp c.args.id)) c.args.self.now.streams.entries f = λ f. search (rules) in
    subst (λ (x : List (ℕ × Entry)). Joined x c.args.self.now.ids) (sym (written _))
    (joined_stays c.args.self.now.streams.entries c.args.self.now.ids c.args.id e _ there
    (stays_same e _ (c.count_looked-owed.ensures.session ∙ c.look.ensures.session) (c.count_looked-owed.ensures.holds.0 ∙ c.look.ensures.holds.0) (c.count_looked-owed.ensures.own ∙ c.look.ensures.own) (c.count_looked-owed.ensures.told ∙ c.look.ensures.told)
    (c.count_looked-owed.ensures.read.0 ∙ c.look.ensures.read.0) (c.count_looked-owed.ensures.read.1 ∙ c.look.ensures.read.1) (c.count_looked-owed.ensures.holds.1 ∙ c.look.ensures.holds.1)) c.args.self.now.joined)

pub returns-clause-reads : goal.returns-clause-reads
returns-clause-reads c =
    let e : Entry = c.in-Some.entry.now in
    let there : entry_at c.args.self.now.streams.entries c.args.id ≡ Some e = search (rules) in
    let written : (f : Entry) → (c.get_mut.follows.lender f).entries
    ≡ set_value (is_at (nat_cmp c.args.id)) c.args.self.now.streams.entries f = λ f. search (rules) in
    subst (λ (x : List (ℕ × Entry)). ReadsOn c.args.id (items_found c.in_ok-found.found) c.args.self.now.streams.entries c.args.chunk.now x
    c.look.new.chunk) (sym (written _))
    (counted_set c.args.self.now.streams.entries c.args.id e c.look.new.self _ _ c.args.chunk.now c.look.new.chunk there
    c.count_looked-owed.ensures.theirs c.in_ok-found.ensures.reads)

pub invariant_of-self-in-Break-1 : goal.invariant_of-self-in-Break-1
invariant_of-self-in-Break-1 c =
    let e : Entry = c.in-Some.entry.now in
    let there : entry_at c.args.self.now.streams.entries c.args.id ≡ Some e = search (rules) in
    let written : (f : Entry) → (c.get_mut.follows.lender f).entries
    ≡ set_value (is_at (nat_cmp c.args.id)) c.args.self.now.streams.entries f = λ f. search (rules) in
    record {
      ordered = subst (λ (x : List (ℕ × Entry)). Ordered x c.args.self.now.ready.ranks c.args.self.now.unplaced) (sym (written _))
          (ordered_half c.args.self.now.streams.entries c.args.self.now.ready.ranks c.args.self.now.unplaced c.args.id e _ there c.look.ensures.own c.look.ensures.place.0 c.look.ensures.place.1 c.look.ensures.place.2 c.args.self.now.ordered);
      joined = subst (λ (x : List (ℕ × Entry)). Joined x c.args.self.now.ids) (sym (written _))
          (joined_stays c.args.self.now.streams.entries c.args.self.now.ids c.args.id e _ there
          (stays_same e _ c.look.ensures.session c.look.ensures.holds.0 c.look.ensures.own c.look.ensures.told c.look.ensures.read.0 c.look.ensures.read.1 c.look.ensures.holds.1) c.args.self.now.joined);
      within = c.args.self.now.within;
      few = c.args.self.now.few;
    }
