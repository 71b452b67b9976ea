use Rattle.vesgrauf.proofs.PlaceLemmas.{ordered_half}
use Rattle.vesgrauf.proofs.SeveredLemmas.{stays_same}
use Rattle.vesgrauf.proofs.JoinedLemmas.{joined_stays}
use Rattle.vesgrauf.specs.Joined.{Joined}
use Rattle.vesgrauf.specs.Places.{Ordered}
use Rattle.std.proofs.Common.{rules, ◌≡◌, ◌∙◌, ◌++◌, ap, refl, sym, subst, None, Some, ℕ, List, []}
use Rattle.vesgrauf.specs.Items.{items_of}
use Rattle.vesgrauf.proofs.IdLemmas.{keeps_still}
use Rattle.vesgrauf.proofs.KeepsLemmas.{keeps_then}
use Rattle.vesgrauf.proofs.TableSteps.{keeps_joining}
use Rattle.vesgrauf.proofs.TellsLemmas.{joins_silent}
use Rattle.vesgrauf.specs.Instructions.{table_by, table_of}
use Rattle.vesgrauf.specs.Keeps.{KeepsAll}
use Rattle.vesgrauf.specs.Own.{entry_at}
use Rattle.vesgrauf.specs.declared.entry.Entry.{Entry}
use Rattle.vesgrauf_queue.specs.State.{waiting}
use Rattle.std.specs.BTreeMap.{is_at}
use Rattle.std.specs.Map.{set_value}
use Rattle.std.specs.Ordering.{nat_cmp}
use Rattle.vesgrauf.proofs.connection.Connection.join_known.Goals as goal

pub returns-clause-silent : goal.returns-clause-silent
returns-clause-silent c = ap (λ p. items_of p.0) c.join_session.ensures.told
    ∙ joins_silent c.forget_named.new.self.shared c.in-Some.entry.now.reading.stream c.args.known

pub returns-clause-keeps : goal.returns-clause-keeps
returns-clause-keeps c =
    let e : Entry = c.in-Some.entry.now in
    let f : Entry = record e { reading = c.join_session.new.self } in
    let there : entry_at c.forget_named.new.self.streams.entries c.args.id ≡ Some e = search (rules) in
    let written : (c.get_mut.follows.lender f).entries
    ≡ set_value (is_at (nat_cmp c.args.id)) c.forget_named.new.self.streams.entries f = search (rules) in
    keeps_then (keeps_still c.args.self.now c.forget_named.new.self c.forget_named.ensures.still)
    (subst (λ (x : List (ℕ × Entry)). KeepsAll None [] c.forget_named.new.self.streams.entries c.forget_named.new.self.ids (table_of c.forget_named.new.self) c.forget_named.new.self.events.items
    c.forget_named.new.self.config c.forget_named.new.self.ended x c.forget_named.new.self.ids
    (table_by c.join_session.new.shared (waiting c.forget_named.new.self.decoder.queue ++ c.forget_named.new.self.told.items)) c.forget_named.new.self.events.items c.forget_named.new.self.config c.forget_named.new.self.ended)
    (sym written)
    (keeps_joining c.forget_named.new.self.streams.entries c.forget_named.new.self.ids c.forget_named.new.self.shared c.join_session.new.shared _ c.forget_named.new.self.events.items c.forget_named.new.self.config c.forget_named.new.self.ended
    c.args.id e f _ c.args.known there c.join_session.ensures.told c.join_session.ensures.moves c.join_session.ensures.rest
    refl refl refl refl))

pub invariant_of-self-2 : goal.invariant_of-self-2
invariant_of-self-2 c =
    let e : Entry = c.in-Some.entry.now in
    let there : entry_at c.forget_named.new.self.streams.entries c.args.id ≡ Some e = search (rules) in
    let written : (f : Entry) → (c.get_mut.follows.lender f).entries
    ≡ set_value (is_at (nat_cmp c.args.id)) c.forget_named.new.self.streams.entries f = λ f. search (rules) in
    record {
      ordered = subst (λ (x : List (ℕ × Entry)). Ordered x c.forget_named.new.self.ready.ranks c.forget_named.new.self.unplaced) (sym (written _))
          (ordered_half c.forget_named.new.self.streams.entries c.forget_named.new.self.ready.ranks c.forget_named.new.self.unplaced c.args.id e _ there refl refl refl refl c.forget_named.new.self.ordered);
      joined = subst (λ (x : List (ℕ × Entry)). Joined x c.forget_named.new.self.ids) (sym (written _))
          (joined_stays c.forget_named.new.self.streams.entries c.forget_named.new.self.ids c.args.id e _ there
          (stays_same e _ refl refl refl refl refl refl refl) c.forget_named.new.self.joined);
      within = c.forget_named.new.self.within;
      few = c.forget_named.new.self.few;
    }
