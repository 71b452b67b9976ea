use Rattle.vesgrauf.proofs.PlaceLemmas.{ordered_same}
use Rattle.vesgrauf.proofs.JoinedLemmas.{joined_joins}
use Rattle.vesgrauf.specs.Places.{Ordered}
use Rattle.std.proofs.Common.{rules, ◌≡◌, sym, subst, Some, ℕ, List, ap, ◌∙◌}
use Rattle.vesgrauf.specs.Own.{entry_at}
use Rattle.vesgrauf.specs.Joined.{Joined}
use Rattle.vesgrauf.specs.declared.entry.Entry.{Entry}
use Rattle.std.specs.BTreeMap.{is_at}
use Rattle.std.specs.Map.{set_value}
use Rattle.std.specs.Ordering.{nat_cmp}
use Rattle.vesgrauf.proofs.connection.Connection.note_joined.Goals as goal

pub invariant_of-self-clause-joined : goal.invariant_of-self-clause-joined
invariant_of-self-clause-joined c =
    let e : Entry = c.in-Some.entry.now in
    let there : entry_at c.args.self.now.streams.entries c.args.id ≡ Some e = search (rules) in
    let written : (f : Entry) → (c.get_mut.follows.lender f).entries
    ≡ set_value (is_at (nat_cmp c.args.id)) c.args.self.now.streams.entries f = λ f. search (rules) in
    subst (λ (x : List (ℕ × Entry)). Joined x c.args.self.now.ids) (sym (written _))
    (joined_joins c.args.self.now.streams.entries c.args.self.now.ids c.args.id c.args.session e _ there
    (ap (λ x. x.session) c.know.ensures) (ap (λ x. x.has_session) c.know.ensures)
    c.requires.noted c.requires.counts c.args.self.now.joined)

pub invariant_of-self-clause-ordered : goal.invariant_of-self-clause-ordered
invariant_of-self-clause-ordered c =
    let e : Entry = c.in-Some.entry.now in
    let there : entry_at c.args.self.now.streams.entries c.args.id ≡ Some e = search (rules) in
    let written : (f : Entry) → (c.get_mut.follows.lender f).entries
    ≡ set_value (is_at (nat_cmp c.args.id)) c.args.self.now.streams.entries f = λ f. search (rules) in
    subst (λ (x : List (ℕ × Entry)). Ordered x c.args.self.now.ready.ranks c.args.self.now.unplaced) (sym (written _))
    (ordered_same c.args.self.now.streams.entries c.args.self.now.ready.ranks c.args.self.now.unplaced c.args.id e _ there
    (ap (λ x. x.queue) c.belong.ensures ∙ ap (λ x. x.writing.queue) c.know.ensures)
    (ap (λ x. x.is_opened) c.know.ensures) (ap (λ x. x.is_blocked) c.know.ensures) (ap (λ x. x.priority) c.know.ensures)
    c.args.self.now.ordered)
