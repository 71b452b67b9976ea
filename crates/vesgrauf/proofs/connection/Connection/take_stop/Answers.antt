use Rattle.std.proofs.Common.{rules, ◌≡◌, refl, sym, subst, Some, ℕ, List}
use Rattle.std.specs.Ordering.{nat_cmp}
use Rattle.std.specs.Map.{set_value}
use Rattle.std.specs.BTreeMap.{is_at}
use Rattle.vesgrauf.specs.Own.{entry_at}
use Rattle.vesgrauf.specs.declared.entry.Entry.{Entry}
use Rattle.vesgrauf.proofs.PlaceLemmas.{ordered_half}
use Rattle.vesgrauf.proofs.SeveredLemmas.{stays_same}
use Rattle.vesgrauf.proofs.JoinedLemmas.{joined_stays}
use Rattle.vesgrauf.specs.Joined.{Joined}
use Rattle.vesgrauf.specs.Places.{Ordered}
use Rattle.vesgrauf.proofs.connection.Connection.take_stop.Goals as goal

pub invariant_of-self-2 : goal.invariant_of-self-2
invariant_of-self-2 c =
    let e : Entry = c.in_ok-entry.entry.now in
    let there : entry_at c.args.self.now.streams.entries c.args.id ≡ Some e = search (rules) in
    let written : (f : Entry) → (c.get_mut.follows.lender f).entries
    ≡ set_value (is_at (nat_cmp c.args.id)) c.args.self.now.streams.entries f = λ f. search (rules) in
    record {
      ordered = subst (λ (x : List (ℕ × Entry)). Ordered x c.args.self.now.ready.ranks c.args.self.now.unplaced) (sym (written _))
          (ordered_half c.args.self.now.streams.entries c.args.self.now.ready.ranks c.args.self.now.unplaced c.args.id e _ there refl refl refl refl c.args.self.now.ordered);
      joined = subst (λ (x : List (ℕ × Entry)). Joined x c.args.self.now.ids) (sym (written _))
          (joined_stays c.args.self.now.streams.entries c.args.self.now.ids c.args.id e _ there
          (stays_same e _ refl refl refl refl refl refl refl) c.args.self.now.joined);
      within = c.args.self.now.within;
      few = c.args.self.now.few;
    }
