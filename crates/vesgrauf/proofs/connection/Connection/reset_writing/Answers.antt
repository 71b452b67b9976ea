use Rattle.vesgrauf.proofs.PlaceLemmas.{ordered_over}
use Rattle.vesgrauf.proofs.QueuedLemmas.{reset_quiet}
use Rattle.vesgrauf.specs.Places.{Ordered}
use Rattle.vesgrauf.proofs.JoinedLemmas.{joined_stays}
use Rattle.vesgrauf.proofs.SeveredLemmas.{stays_half, out_reset}
use Rattle.vesgrauf.specs.Own.{entry_at}
use Rattle.vesgrauf.specs.Joined.{Joined}
use Rattle.vesgrauf.specs.declared.entry.Entry.{Entry}
use Rattle.std.specs.BTreeMap.{is_at}
use Rattle.std.specs.Map.{set_value}
use Rattle.std.specs.Ordering.{nat_cmp}
use Rattle.std.proofs.Common.{rules, ◌≡◌, refl, sym, subst, Some, ℕ, List}
use Rattle.vesgrauf.proofs.connection.Connection.reset_writing.Goals as goal

pub invariant_of-self-then-entry-clause-joined : goal.invariant_of-self-then-entry-clause-joined
invariant_of-self-then-entry-clause-joined c =
    let e : Entry = c.in-Some.entry.now in
    let there : entry_at c.args.self.now.streams.entries c.args.id ≡ Some e = search (rules) in
    let written : (f : Entry) → (c.get_mut.follows.lender f).entries
    ≡ set_value (is_at (nat_cmp c.args.id)) c.args.self.now.streams.entries f = λ f. search (rules) in
    subst (λ (x : List (ℕ × Entry)). Joined x c.args.self.now.ids) (sym (written _))
    (joined_stays c.args.self.now.streams.entries c.args.self.now.ids c.args.id e _ there
    (stays_half e _ refl refl (out_reset c.reset.result _ _ e.writing c.reset.new.self c.args.code c.reset.ensures.queue)
    refl refl refl refl) c.args.self.now.joined)

pub invariant_of-self-else-entry-clause-joined : goal.invariant_of-self-else-entry-clause-joined
invariant_of-self-else-entry-clause-joined c =
    let e : Entry = c.in-Some.entry.now in
    let there : entry_at c.args.self.now.streams.entries c.args.id ≡ Some e = search (rules) in
    let written : (f : Entry) → (c.get_mut.follows.lender f).entries
    ≡ set_value (is_at (nat_cmp c.args.id)) c.args.self.now.streams.entries f = λ f. search (rules) in
    subst (λ (x : List (ℕ × Entry)). Joined x c.args.self.now.ids) (sym (written _))
    (joined_stays c.args.self.now.streams.entries c.args.self.now.ids c.args.id e _ there
    (stays_half e _ refl refl (out_reset c.reset.result _ _ e.writing c.reset.new.self c.args.code c.reset.ensures.queue)
    refl refl refl refl) c.args.self.now.joined)

pub invariant_of-self-then-entry-clause-ordered : goal.invariant_of-self-then-entry-clause-ordered
invariant_of-self-then-entry-clause-ordered c =
    let e : Entry = c.in-Some.entry.now in
    let there : entry_at c.args.self.now.streams.entries c.args.id ≡ Some e = search (rules) in
    let written : (f : Entry) → (c.get_mut.follows.lender f).entries
    ≡ set_value (is_at (nat_cmp c.args.id)) c.args.self.now.streams.entries f = λ f. search (rules) in
    subst (λ (x : List (ℕ × Entry)). Ordered x c.remove.new.self.ranks c.args.self.now.unplaced) (sym (written _))
    (ordered_over c.args.self.now.streams.entries c.args.self.now.ready c.remove.new.self c.args.self.now.unplaced c.args.id e _ there
    (reset_quiet c.reset.result _ _ e.writing.queue c.reset.new.self.queue c.args.code c.reset.ensures.queue
    (search (rules))) (search (rules)) c.args.self.now.ordered)
