use Rattle.std.proofs.Common.{rules, ◌≡◌, refl, Some, ℕ, List, sym, subst}
use Rattle.std.specs.Ordering.{nat_cmp}
use Rattle.std.specs.Map.{set_value}
use Rattle.std.specs.BTreeMap.{is_at}
use Rattle.vesgrauf.specs.declared.entry.Entry.{Entry}
use Rattle.vesgrauf.specs.Own.{entry_at}
use Rattle.vesgrauf.proofs.JoinedLemmas.{joined_stays}
use Rattle.vesgrauf.proofs.SeveredLemmas.{out_finished, stays_half}
use Rattle.vesgrauf.proofs.PlaceLemmas.{ordered_sent}
use Rattle.vesgrauf.specs.Instructions.{table_of}
use Rattle.vesgrauf.specs.State.{is_over}
use Rattle.vesgrauf.specs.Works.{WorksUnless, book_at, book_of}
use Rattle.vesgrauf.proofs.ActLemmas.{act_kept, act_still, act_trans}
use Rattle.vesgrauf.proofs.connection.Connection.finish_half.Goals as goal

pub invariant_of-self-2-clause-ordered : goal.invariant_of-self-2-clause-ordered
invariant_of-self-2-clause-ordered c =
    let e : Entry = c.in-Some.entry.now in
    let f : Entry = record e { writing = c.finish-result.new.self } in
    let there : entry_at c.begin_send.new.self.streams.entries c.args.id ≡ Some e = search (rules) in
    let written : (c.get_mut.follows.lender f).entries
    ≡ set_value (is_at (nat_cmp c.args.id)) c.begin_send.new.self.streams.entries f = search (rules) in
    rw written (ordered_sent c.begin_send.new.self.streams.entries c.begin_send.new.self.ready _ c.keep_place.new.ready
    c.begin_send.new.self.unplaced c.in_ok-self.field-0 c.args.id e f there c.keep_place.ensures c.in_ok-self.ensures.ok refl refl refl
    c.begin_send.new.self.ordered)

pub invariant_of-self-2-clause-joined : goal.invariant_of-self-2-clause-joined
invariant_of-self-2-clause-joined c =
    let e : Entry = c.in-Some.entry.now in
    let f : Entry = record e { writing = c.finish-result.new.self } in
    let there : entry_at c.begin_send.new.self.streams.entries c.args.id ≡ Some e = search (rules) in
    let written : (c.get_mut.follows.lender f).entries
    ≡ set_value (is_at (nat_cmp c.args.id)) c.begin_send.new.self.streams.entries f = search (rules) in
    rw written (joined_stays c.begin_send.new.self.streams.entries c.begin_send.new.self.ids c.args.id e f there
    (stays_half e f refl refl (out_finished c.finish-result.result e.writing c.finish-result.new.self
    c.finish-result.ensures) refl refl refl refl)
    c.begin_send.new.self.joined)

pub returns-clause-works : goal.returns-clause-works
returns-clause-works c =
    let e : Entry = c.in-Some.entry.now in
    let f : Entry = record e { writing = c.finish-result.new.self } in
    let there : entry_at c.begin_send.new.self.streams.entries c.args.id ≡ Some e = search (rules) in
    let written : (c.get_mut.follows.lender f).entries
    ≡ set_value (is_at (nat_cmp c.args.id)) c.begin_send.new.self.streams.entries f = search (rules) in
    act_trans (act_still c.args.self.now c.begin_send.new.self c.begin_send.ensures.still)
    (subst (λ (x : List (ℕ × Entry)). WorksUnless (is_over c.begin_send.new.self) (is_over c.begin_send.new.self) (book_of c.begin_send.new.self)
    (book_at x c.begin_send.new.self.ids (table_of c.begin_send.new.self))) (sym written)
    (act_kept c.begin_send.new.self.streams.entries c.begin_send.new.self.ids (table_of c.begin_send.new.self) (is_over c.begin_send.new.self) c.args.id e f there refl refl refl refl refl refl))
