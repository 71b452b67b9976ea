use Rattle.vesgrauf.proofs.PlaceLemmas.{ordered_turned}
use Rattle.vesgrauf.specs.Places.{Ordered}
use Rattle.vesgrauf.proofs.JoinedLemmas.{joined_stays}
use Rattle.vesgrauf.proofs.SeveredLemmas.{stays_put}
use Rattle.vesgrauf.specs.Own.{entry_at}
use Rattle.vesgrauf.specs.Joined.{Joined}
use Rattle.vesgrauf.specs.declared.entry.Entry.{Entry}
use Rattle.std.specs.BTreeMap.{is_at}
use Rattle.std.specs.Map.{set_value}
use Rattle.std.specs.Ordering.{nat_cmp}
use Rattle.std.proofs.Common.{rules, ◌≡◌, sym, subst, Some, ℕ, List, ap, refl}
use Rattle.vesgrauf.specs.Instructions.{table_of}
use Rattle.vesgrauf.specs.State.{is_over}
use Rattle.vesgrauf.specs.Works.{WorksUnless, book_at, book_of}
use Rattle.vesgrauf.proofs.ActSteps.{act_written}
use Rattle.vesgrauf.proofs.connection.Connection.message_sent.Goals as goal

pub invariant_of-self-2-clause-joined : goal.invariant_of-self-2-clause-joined
invariant_of-self-2-clause-joined c =
    let e : Entry = c.in-Some.entry.now in
    let there : entry_at c.args.self.now.streams.entries c.args.id ≡ Some e = search (rules) in
    let written : (f : Entry) → (c.get_mut.follows.lender f).entries
    ≡ set_value (is_at (nat_cmp c.args.id)) c.args.self.now.streams.entries f = λ f. search (rules) in
    subst (λ (x : List (ℕ × Entry)). Joined x c.args.self.now.ids) (sym (written _))
    (joined_stays c.args.self.now.streams.entries c.args.self.now.ids c.args.id e _ there
    (stays_put e c.sent.new.self c.sent.ensures.others c.sent.ensures.out) c.args.self.now.joined)

pub invariant_of-self-2-clause-ordered : goal.invariant_of-self-2-clause-ordered
invariant_of-self-2-clause-ordered c =
    let e : Entry = c.in-Some.entry.now in
    let there : entry_at c.args.self.now.streams.entries c.args.id ≡ Some e = search (rules) in
    let written : (f : Entry) → (c.get_mut.follows.lender f).entries
    ≡ set_value (is_at (nat_cmp c.args.id)) c.args.self.now.streams.entries f = λ f. search (rules) in
    subst (λ (x : List (ℕ × Entry)). Ordered x c.keep_place.new.ready.ranks c.args.self.now.unplaced) (sym (written _))
    (ordered_turned c.args.self.now.streams.entries c.args.self.now.ready c.turn_taken.new.self c.keep_place.new.ready c.args.self.now.unplaced c.args.id e
    c.sent.new.self _ there c.sent.ensures.more c.turn_taken.ensures c.keep_place.ensures
    (ap (λ x. x.is_opened) c.sent.ensures.others) (ap (λ x. x.is_blocked) c.sent.ensures.others) (ap (λ x. x.priority) c.sent.ensures.others) c.args.self.now.ordered)

pub returns-clause-works : goal.returns-clause-works
returns-clause-works c =
    let e : Entry = c.in-Some.entry.now in
    let f : Entry = c.sent.new.self in
    let there : entry_at c.args.self.now.streams.entries c.args.id ≡ Some e = search (rules) in
    let written : (c.get_mut.follows.lender f).entries
    ≡ set_value (is_at (nat_cmp c.args.id)) c.args.self.now.streams.entries f = search (rules) in
    subst (λ (x : List (ℕ × Entry)). WorksUnless (is_over c.args.self.now) (is_over c.args.self.now) (book_of c.args.self.now)
    (book_at x c.args.self.now.ids (table_of c.args.self.now))) (sym written)
    (act_written c.args.self.now.streams.entries c.args.self.now.ids (table_of c.args.self.now) (is_over c.args.self.now) c.args.id e f c.sent.new.self.writing there c.sent.ensures.others)
