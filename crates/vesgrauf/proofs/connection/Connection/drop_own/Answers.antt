use Rattle.vesgrauf.proofs.LostLemmas.{drop_keeps, own_none}
use Rattle.vesgrauf.specs.Instructions.{table_of}
use Rattle.vesgrauf.specs.Keeps.{KeepsAll}
use Rattle.vesgrauf.proofs.PlaceLemmas.{ordered_over}
use Rattle.vesgrauf.proofs.QueuedLemmas.{more_new}
use Rattle.vesgrauf.specs.Places.{Ordered}
use Rattle.vesgrauf.proofs.JoinedLemmas.{joined_stays}
use Rattle.vesgrauf.proofs.SeveredLemmas.{stays_half, out_none}
use Rattle.vesgrauf.specs.Own.{entry_at}
use Rattle.vesgrauf.specs.Joined.{Joined}
use Rattle.vesgrauf.specs.declared.entry.Entry.{Entry}
use Rattle.std.specs.BTreeMap.{is_at}
use Rattle.std.specs.Map.{set_value}
use Rattle.std.specs.Ordering.{nat_cmp}
use Rattle.std.proofs.Common.{rules, ◌≡◌, refl, sym, subst, Some, ℕ, List, None, []}
use Rattle.vesgrauf.proofs.connection.Connection.drop_own.Goals as goal

pub invariant_of-self-2-clause-joined : goal.invariant_of-self-2-clause-joined
invariant_of-self-2-clause-joined c =
    let e : Entry = c.in-Some.entry.now in
    let there : entry_at c.args.self.now.streams.entries c.args.id ≡ Some e = search (rules) in
    let written : (f : Entry) → (c.get_mut.follows.lender f).entries
    ≡ set_value (is_at (nat_cmp c.args.id)) c.args.self.now.streams.entries f = λ f. search (rules) in
    subst (λ (x : List (ℕ × Entry)). Joined x c.args.self.now.ids) (sym (written _))
    (joined_stays c.args.self.now.streams.entries c.args.self.now.ids c.args.id e _ there
    (stays_half e _ refl refl (out_none e.writing c.none.result c.none.ensures.half) refl refl refl refl) c.args.self.now.joined)

pub invariant_of-self-2-clause-ordered : goal.invariant_of-self-2-clause-ordered
invariant_of-self-2-clause-ordered c =
    let e : Entry = c.in-Some.entry.now in
    let there : entry_at c.args.self.now.streams.entries c.args.id ≡ Some e = search (rules) in
    let written : (f : Entry) → (c.get_mut.follows.lender f).entries
    ≡ set_value (is_at (nat_cmp c.args.id)) c.args.self.now.streams.entries f = λ f. search (rules) in
    subst (λ (x : List (ℕ × Entry)). Ordered x c.remove.new.self.ranks c.args.self.now.unplaced) (sym (written _))
    (ordered_over c.args.self.now.streams.entries c.args.self.now.ready c.remove.new.self c.args.self.now.unplaced c.args.id e _ there
    (more_new c.none.result.queue _ c.none.ensures.queue) (search (rules)) c.args.self.now.ordered)

pub returns : goal.returns
returns c =
    let e : Entry = c.in-Some.entry.now in
    let there : entry_at c.args.self.now.streams.entries c.args.id ≡ Some e = search (rules) in
    let written : (f : Entry) → (c.get_mut.follows.lender f).entries
    ≡ set_value (is_at (nat_cmp c.args.id)) c.args.self.now.streams.entries f = λ f. search (rules) in
    record {
      keeps = λ h. subst (λ (x : List (ℕ × Entry)). KeepsAll None [] c.args.self.now.streams.entries c.args.self.now.ids (table_of c.args.self.now)
          c.args.self.now.events.items c.args.self.now.config c.args.self.now.ended x c.args.self.now.ids (table_of c.args.self.now)
          c.args.self.now.events.items c.args.self.now.config c.args.self.now.ended) (sym (written _))
          (drop_keeps c.args.self.now.streams.entries c.args.self.now.ids _ c.args.self.now.events.items
          c.args.self.now.config c.args.self.now.ended c.args.id e _ there
          (own_none c.none.result c.none.ensures.half) refl refl refl h);
    }
