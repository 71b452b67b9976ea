use Rattle.vesgrauf.proofs.GoesLemmas.{goes_set, standing_in}
use Rattle.vesgrauf.specs.Told.{Goes}
use Rattle.std.proofs.Common.{rules, ◌≡◌, None, Some, sym, subst, ℕ, List, ap, ◌∙◌, [], refl}
use Rattle.std.specs.Ordering.{nat_cmp}
use Rattle.std.specs.Map.{set_value}
use Rattle.std.specs.BTreeMap.{is_at}
use Rattle.vesgrauf.specs.declared.entry.Entry.{Entry}
use Rattle.vesgrauf.specs.Own.{entry_at}
use Rattle.vesgrauf.proofs.JoinedLemmas.{joined_stays}
use Rattle.vesgrauf.proofs.SeveredLemmas.{stays_sent_owned, standing_sent_owned}
use Rattle.vesgrauf.proofs.PlaceLemmas.{ordered_sent}
use Rattle.vesgrauf.specs.Halves.{Lasts}
use Rattle.vesgrauf.proofs.SendsLemmas.{lasting_sent_owned, lasts_as_before}
use Rattle.vesgrauf.specs.Instructions.{table_of}
use Rattle.vesgrauf.specs.State.{is_over}
use Rattle.vesgrauf.specs.Works.{WorksUnless, book_at, book_of}
use Rattle.vesgrauf.proofs.ActSteps.{act_written, sent_owned_by}
use Rattle.vesgrauf.proofs.connection.Connection.send_half_owned.Goals as goal

pub invariant_of-self-2-clause-ordered : goal.invariant_of-self-2-clause-ordered
invariant_of-self-2-clause-ordered c =
    let e : Entry = c.in-Some.entry.now in
    let f : Entry = c.send_owned-result.new.self in
    let there : entry_at c.args.self.now.streams.entries c.args.id ≡ Some e = search (rules) in
    let written : (c.get_mut.follows.lender f).entries
    ≡ set_value (is_at (nat_cmp c.args.id)) c.args.self.now.streams.entries f = search (rules) in
    rw written (ordered_sent c.args.self.now.streams.entries c.args.self.now.ready _ c.keep_place.new.ready
    c.args.self.now.unplaced c.in-Ok.later c.args.id e f there c.keep_place.ensures c.in-Ok.ensures.ok c.send_owned-result.ensures.place.0 c.send_owned-result.ensures.place.1 c.send_owned-result.ensures.place.2
    c.args.self.now.ordered)

pub invariant_of-self-2-clause-joined : goal.invariant_of-self-2-clause-joined
invariant_of-self-2-clause-joined c =
    let e : Entry = c.in-Some.entry.now in
    let f : Entry = c.send_owned-result.new.self in
    let there : entry_at c.args.self.now.streams.entries c.args.id ≡ Some e = search (rules) in
    let written : (c.get_mut.follows.lender f).entries
    ≡ set_value (is_at (nat_cmp c.args.id)) c.args.self.now.streams.entries f = search (rules) in
    rw written (joined_stays c.args.self.now.streams.entries c.args.self.now.ids c.args.id e f there
    (stays_sent_owned c.send_owned-result.result _ _ e f c.send_owned-result.ensures.ok c.send_owned-result.ensures.kept)
    c.args.self.now.joined)

pub returns-clause-goes : goal.returns-clause-goes
returns-clause-goes c =
    let e : Entry = c.in-Some.entry.now in
    let f : Entry = c.send_owned-result.new.self in
    let there : entry_at c.args.self.now.streams.entries c.args.id ≡ Some e = search (rules) in
    let written : (c.get_mut.follows.lender f).entries
    ≡ set_value (is_at (nat_cmp c.args.id)) c.args.self.now.streams.entries f = search (rules) in
    subst (λ (x : List (ℕ × Entry)). Goes [] c.args.self.now.streams.entries c.args.self.now.ids
    c.args.self.now.events.items x c.args.self.now.ids c.args.self.now.events.items) (sym written)
    (goes_set c.args.self.now.streams.entries c.args.self.now.ids c.args.self.now.events.items c.args.id f
    (ap (λ o. standing_in o) there ∙ ap (λ x. Some x)
    (sym (standing_sent_owned c.send_owned-result.result _ _ e f c.send_owned-result.ensures.ok c.send_owned-result.ensures.kept))))

pub returns-clause-lasts : goal.returns-clause-lasts
returns-clause-lasts c =
    let e : Entry = c.in-Some.entry.now in
    let f : Entry = c.send_owned-result.new.self in
    let there : entry_at c.args.self.now.streams.entries c.args.id ≡ Some e = search (rules) in
    let written : (c.get_mut.follows.lender f).entries
    ≡ set_value (is_at (nat_cmp c.args.id)) c.args.self.now.streams.entries f = search (rules) in
    λ over sound. subst (λ (x : List (ℕ × Entry)). Lasts None [] c.args.self.now.streams.entries c.args.self.now.events.items x
    c.args.self.now.events.items) (sym written)
    (lasts_as_before None c.args.self.now.streams.entries c.args.self.now.events.items c.args.id e f there
    (lasting_sent_owned c.send_owned-result.result _ _ e f c.send_owned-result.ensures.ok
    c.send_owned-result.ensures.kept))

pub returns-clause-works : goal.returns-clause-works
returns-clause-works c =
    let e : Entry = c.in-Some.entry.now in
    let f : Entry = c.send_owned-result.new.self in
    let there : entry_at c.args.self.now.streams.entries c.args.id ≡ Some e = search (rules) in
    let written : (c.get_mut.follows.lender f).entries
    ≡ set_value (is_at (nat_cmp c.args.id)) c.args.self.now.streams.entries f = search (rules) in
    let w = sent_owned_by c.send_owned-result.result _ _ e f c.send_owned-result.ensures.ok c.send_owned-result.ensures.kept in
    subst (λ (x : List (ℕ × Entry)). WorksUnless (is_over c.args.self.now) (is_over c.args.self.now) (book_of c.args.self.now)
    (book_at x c.args.self.now.ids (table_of c.args.self.now))) (sym written)
    (act_written c.args.self.now.streams.entries c.args.self.now.ids (table_of c.args.self.now) (is_over c.args.self.now) c.args.id e f w.0 there w.1)
