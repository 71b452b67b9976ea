use Rattle.vesgrauf.proofs.SendsLemmas.{lasting_same, lasts_as_before}
use Rattle.vesgrauf.specs.Halves.{Lasts}
use Rattle.vesgrauf.proofs.PlaceLemmas.{ordered_half}
use Rattle.vesgrauf.proofs.SeveredLemmas.{stays_same}
use Rattle.vesgrauf.proofs.JoinedLemmas.{joined_stays}
use Rattle.vesgrauf.specs.Joined.{Joined}
use Rattle.vesgrauf.specs.Places.{Ordered}
use Rattle.vesgrauf.specs.Instructions.{table_of}
use Rattle.vesgrauf.specs.State.{is_over}
use Rattle.vesgrauf.specs.Works.{WorksUnless, book_at, book_of}
use Rattle.std.proofs.Common.{rules, ◌≡◌, ℕ, List, Some, refl, sym, subst, None, []}
use Rattle.vesgrauf.proofs.ActLemmas.{act_kept}
use Rattle.std.specs.BTreeMap.{is_at}
use Rattle.std.specs.Map.{set_value}
use Rattle.std.specs.Ordering.{nat_cmp}
use Rattle.vesgrauf.specs.declared.entry.Entry.{Entry}
use Rattle.vesgrauf.specs.Own.{entry_at}
use Rattle.vesgrauf.proofs.connection.Connection.set_user.Goals as goal

pub returns-clause-works : goal.returns-clause-works
returns-clause-works c =
    let e : Entry = c.in-Some.entry.now in
    let f : Entry = record e { user = Some c.args.user } in
    let there : entry_at c.args.self.now.streams.entries c.args.id ≡ Some e = search (rules) in
    let written : (c.get_mut.follows.lender f).entries
    ≡ set_value (is_at (nat_cmp c.args.id)) c.args.self.now.streams.entries f = search (rules) in
    subst (λ (x : List (ℕ × Entry)). WorksUnless (is_over c.args.self.now) (is_over c.args.self.now) (book_of c.args.self.now)
    (book_at x c.args.self.now.ids (table_of c.args.self.now))) (sym written)
    (act_kept c.args.self.now.streams.entries c.args.self.now.ids (table_of c.args.self.now) (is_over c.args.self.now) c.args.id e f there refl refl refl refl refl refl)

pub invariant_of-self-2 : goal.invariant_of-self-2
invariant_of-self-2 c =
    let e : Entry = c.in-Some.entry.now in
    let there : entry_at c.args.self.now.streams.entries c.args.id ≡ Some e = search (rules) in
    let written : (f : Entry) → (c.get_mut.follows.lender f).entries
    ≡ set_value (is_at (nat_cmp c.args.id)) c.args.self.now.streams.entries f = λ f. search (rules) in
    record {
      ordered = subst (λ (x : List (ℕ × Entry)). Ordered x c.args.self.now.ready.ranks c.args.self.now.unplaced) (sym (written _))
          (ordered_half c.args.self.now.streams.entries c.args.self.now.ready.ranks c.args.self.now.unplaced c.args.id e _ there refl refl refl refl c.args.self.now.ordered);
      joined = subst (λ (x : List (ℕ × Entry)). Joined x c.args.self.now.ids) (sym (written _))
          (joined_stays c.args.self.now.streams.entries c.args.self.now.ids c.args.id e _ there
          (stays_same e _ refl refl refl refl refl refl refl) c.args.self.now.joined);
      within = c.args.self.now.within;
      few = c.args.self.now.few;
    }

pub returns-clause-lasts : goal.returns-clause-lasts
returns-clause-lasts c =
    let e : Entry = c.in-Some.entry.now in
    let f : Entry = record e { user = Some c.args.user } in
    let there : entry_at c.args.self.now.streams.entries c.args.id ≡ Some e = search (rules) in
    let written : (c.get_mut.follows.lender f).entries
    ≡ set_value (is_at (nat_cmp c.args.id)) c.args.self.now.streams.entries f = search (rules) in
    λ over sound. subst (λ (x : List (ℕ × Entry)). Lasts None [] c.args.self.now.streams.entries c.args.self.now.events.items x c.args.self.now.events.items)
    (sym written)
    (lasts_as_before None c.args.self.now.streams.entries c.args.self.now.events.items c.args.id e f there (lasting_same e f refl refl refl refl))
