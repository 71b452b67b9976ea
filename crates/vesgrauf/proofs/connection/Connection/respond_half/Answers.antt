use Rattle.vesgrauf.specs.Places.{Ordered}
use Rattle.vesgrauf.specs.Joined.{Joined}
use Rattle.std.proofs.Common.{rules, ◌≡◌, refl, Some, sym, subst, ℕ, List}
use Rattle.std.specs.Ordering.{nat_cmp}
use Rattle.std.specs.Map.{set_value}
use Rattle.std.specs.BTreeMap.{is_at}
use Rattle.vesgrauf.specs.declared.entry.Entry.{Entry}
use Rattle.vesgrauf.specs.Own.{entry_at}
use Rattle.vesgrauf.proofs.JoinedLemmas.{joined_stays}
use Rattle.vesgrauf.proofs.SeveredLemmas.{out_responded, stays_half, stays_same}
use Rattle.vesgrauf.proofs.PlaceLemmas.{ordered, ordered_sent, ordered_half}
use Rattle.vesgrauf.specs.Instructions.{table_of}
use Rattle.vesgrauf.specs.State.{is_over}
use Rattle.vesgrauf.specs.Works.{WorksUnless, book_at, book_of}
use Rattle.vesgrauf.proofs.ActLemmas.{act_kept}
use Rattle.vesgrauf.proofs.connection.Connection.respond_half.Goals as goal

pub invariant_of-self-2-clause-ordered : goal.invariant_of-self-2-clause-ordered
invariant_of-self-2-clause-ordered c =
    let e : Entry = c.in-Some.entry.now in
    let f : Entry = record e { writing = c.respond-sent.new.self } in
    let there : entry_at c.args.self.now.streams.entries c.args.id ≡ Some e = search (rules) in
    let written : (c.get_mut.follows.lender f).entries
    ≡ set_value (is_at (nat_cmp c.args.id)) c.args.self.now.streams.entries f = search (rules) in
    rw written (ordered_sent c.args.self.now.streams.entries c.args.self.now.ready _ c.keep_place.new.ready
    c.args.self.now.unplaced c.in_ok-self.field-0 c.args.id e f there c.keep_place.ensures c.in_ok-self.ensures.ok refl refl refl
    c.args.self.now.ordered)

pub invariant_of-self-2-clause-joined : goal.invariant_of-self-2-clause-joined
invariant_of-self-2-clause-joined c =
    let e : Entry = c.in-Some.entry.now in
    let f : Entry = record e { writing = c.respond-sent.new.self } in
    let there : entry_at c.args.self.now.streams.entries c.args.id ≡ Some e = search (rules) in
    let written : (c.get_mut.follows.lender f).entries
    ≡ set_value (is_at (nat_cmp c.args.id)) c.args.self.now.streams.entries f = search (rules) in
    rw written (joined_stays c.args.self.now.streams.entries c.args.self.now.ids c.args.id e f there
    (stays_half e f refl refl (out_responded c.respond-sent.result _ _ _ _ _ _ e.writing c.respond-sent.new.self
    c.respond-sent.ensures.ok c.respond-sent.ensures.kept) refl refl refl refl)
    c.args.self.now.joined)

pub returns-clause-works : goal.returns-clause-works
returns-clause-works c =
    let e : Entry = c.in-Some.entry.now in
    let f : Entry = record e { writing = c.respond-sent.new.self } in
    let there : entry_at c.args.self.now.streams.entries c.args.id ≡ Some e = search (rules) in
    let written : (c.get_mut.follows.lender f).entries
    ≡ set_value (is_at (nat_cmp c.args.id)) c.args.self.now.streams.entries f = search (rules) in
    subst (λ (x : List (ℕ × Entry)). WorksUnless (is_over c.args.self.now) (is_over c.args.self.now) (book_of c.args.self.now)
    (book_at x c.args.self.now.ids (table_of c.args.self.now))) (sym written)
    (act_kept c.args.self.now.streams.entries c.args.self.now.ids (table_of c.args.self.now) (is_over c.args.self.now) c.args.id e f there refl refl refl refl refl refl)

pub invariant_of-self-in-Break-1 : goal.invariant_of-self-in-Break-1
invariant_of-self-in-Break-1 c =
    let e : Entry = c.in-Some.entry.now in
    let there : entry_at c.args.self.now.streams.entries c.args.id ≡ Some e = search (rules) in
    let written : (f : Entry) → (c.get_mut.follows.lender f).entries
    ≡ set_value (is_at (nat_cmp c.args.id)) c.args.self.now.streams.entries f = λ f. search (rules) in
    record {
      ordered = subst (λ (x : List (ℕ × Entry)). Ordered x c.take_place.new.ready.ranks c.args.self.now.unplaced) (sym (written e))
          (rw c.in_err-self.ensures.err (ordered_half c.args.self.now.streams.entries c.args.self.now.ready.ranks c.args.self.now.unplaced c.args.id e e there refl refl refl refl c.args.self.now.ordered));
      joined = subst (λ (x : List (ℕ × Entry)). Joined x c.args.self.now.ids) (sym (written e))
          (joined_stays c.args.self.now.streams.entries c.args.self.now.ids c.args.id e e there
          (stays_same e e refl refl refl refl refl refl refl) c.args.self.now.joined);
      within = c.args.self.now.within;
      few = c.args.self.now.few;
    }
