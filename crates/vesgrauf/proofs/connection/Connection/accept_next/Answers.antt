use Rattle.std.proofs.Common.{◌≡◌, ◌<◌, ◌^◌, None, refl, ap, sym, ◌∙◌, arith}
use Rattle.std.specs.Prelude.{is_some, nat_lt}
use Rattle.vesgrauf.specs.Ids.{next_peer}
use Rattle.vesgrauf.specs.Instructions.{table_of}
use Rattle.vesgrauf.specs.Keeps.{KeptOwn}
use Rattle.vesgrauf.specs.Own.{entry_at}
use Rattle.vesgrauf.specs.State.{is_over}
use Rattle.vesgrauf.proofs.ActSteps.{act_begins}
use Rattle.vesgrauf.proofs.LastsLemmas.{lasts_insert}
use Rattle.vesgrauf.proofs.IdLemmas.{goes_accepts}
use Rattle.vesgrauf.proofs.OwnLemmas.{new_insert}
use Rattle.vesgrauf.proofs.JoinedLemmas.{joined_new, joined_seen}
use Rattle.vesgrauf.proofs.SeveredLemmas.{not_there}
use Rattle.vesgrauf.proofs.PlaceLemmas.{ordered_new_quiet}
use Rattle.vesgrauf.proofs.TellsLemmas.{accepts_insert}
use Rattle.vesgrauf.proofs.connection.Connection.accept_next.Goals as goal

pub returns-clause-keeps : goal.returns-clause-keeps
returns-clause-keeps c =
    let below : c.next_of_peer-next.result < 2 ^ 62 = omega arith in
    rw (
      ap (λ q. q.items) c.entry_of_peer-entry.ensures.events,
      c.entry_of_peer-entry.ensures.config,
      c.entry_of_peer-entry.ensures.ended,
    )
    (KeptOwn
    (λ m. new_insert c.args.self.now.ids c.args.self.now.streams.entries c.insert.new.self.entries
    c.next_of_peer-next.result c.entry_of_peer-entry.result (sym c.was.ensures ∙ c.if-was.false)
    c.entry_of_peer-entry.ensures.blank c.in_ok-insert.ensures.updates.1
    (rw (ap (λ m. m.entries) c.entry_of_peer-entry.ensures.streams) at c.in_ok-insert.ensures.updates.2))
    (goes_accepts c.args.self.now.streams.entries c.insert.new.self.entries c.args.self.now.ids c.see_next.new.self
    c.args.self.now.events.items c.of.result c.next_of_peer-next.result c.entry_of_peer-entry.result
    (c.next_of_peer-next.ensures ∙ ap (λ k. next_peer c.args.self.now.ids k) (sym c.of.ensures)) below
    (rw c.entry_of_peer-entry.ensures.ids at c.see_next.ensures)
    c.in_ok-insert.ensures.updates.1
    (rw (ap (λ m. m.entries) c.entry_of_peer-entry.ensures.streams) at c.in_ok-insert.ensures.updates.2)
    c.entry_of_peer-entry.ensures.alone)
    refl (λ h. h)
    (λ m n s. lasts_insert None c.args.self.now.ids c.args.self.now.streams.entries c.insert.new.self.entries
    c.args.self.now.events.items c.next_of_peer-next.result c.entry_of_peer-entry.result
    (sym c.was.ensures ∙ c.if-was.false) c.in_ok-insert.ensures.updates.1
    (rw (ap (λ m. m.entries) c.entry_of_peer-entry.ensures.streams) at c.in_ok-insert.ensures.updates.2) s))

pub returns-clause-accepts : goal.returns-clause-accepts
returns-clause-accepts c = accepts_insert c.args.self.now.ids c.see_next.new.self
    (nat_lt (next_peer c.args.self.now.ids c.of.result) (2 ^ 62)) c.of.result c.args.self.now.streams.entries
    c.insert.new.self.entries c.next_of_peer-next.result c.entry_of_peer-entry.result
    (sym c.was.ensures ∙ c.if-was.false) c.entry_of_peer-entry.ensures.nothing
    (rw c.entry_of_peer-entry.ensures.ids at c.see_next.ensures) c.in_ok-insert.ensures.updates.1
    (rw (ap (λ m. m.entries) c.entry_of_peer-entry.ensures.streams) at c.in_ok-insert.ensures.updates.2)

pub invariant_of-self-2-clause-ordered : goal.invariant_of-self-2-clause-ordered
invariant_of-self-2-clause-ordered c =
    let none : entry_at c.args.self.now.streams.entries c.next_of_peer-next.result ≡ None
    = not_there _ c.has_stream.result c.has_stream.ensures c.if-has_stream.false in
    ordered_new_quiet c.entry_of_peer-entry.new.self.streams c.insert.new.self
    c.entry_of_peer-entry.new.self.ready.ranks c.entry_of_peer-entry.new.self.unplaced c.next_of_peer-next.result
    c.entry_of_peer-entry.result
    (ap (λ m. entry_at m.entries c.next_of_peer-next.result) c.entry_of_peer-entry.ensures.streams ∙ none)
    c.entry_of_peer-entry.ensures.idle c.in_ok-insert.ensures.updates c.entry_of_peer-entry.new.self.ordered

pub invariant_of-self-2-clause-joined : goal.invariant_of-self-2-clause-joined
invariant_of-self-2-clause-joined c =
    let none : entry_at c.args.self.now.streams.entries c.next_of_peer-next.result ≡ None
    = not_there _ c.has_stream.result c.has_stream.ensures c.if-has_stream.false in
    joined_seen c.insert.new.self.entries c.entry_of_peer-entry.new.self.ids c.see_next.new.self c.of.result
    c.see_next.ensures
    (joined_new c.entry_of_peer-entry.new.self.streams c.insert.new.self c.entry_of_peer-entry.new.self.ids
    c.next_of_peer-next.result c.entry_of_peer-entry.result
    (ap (λ m. entry_at m.entries c.next_of_peer-next.result) c.entry_of_peer-entry.ensures.streams ∙ none)
    c.entry_of_peer-entry.ensures.alone c.in_ok-insert.ensures.updates c.entry_of_peer-entry.new.self.joined)

pub returns-clause-works : goal.returns-clause-works
returns-clause-works c =
    let below : c.next_of_peer-next.result < 2 ^ 62 = omega arith in
    let none : entry_at c.args.self.now.streams.entries c.next_of_peer-next.result ≡ None
    = not_there _ c.has_stream.result c.has_stream.ensures c.if-has_stream.false in
    act_begins c.args.self.now.streams.entries c.insert.new.self.entries c.args.self.now.ids c.see_next.new.self
    (table_of c.args.self.now) (table_of c.entry_of_peer-entry.new.self) (is_over c.args.self.now)
    (is_over c.entry_of_peer-entry.new.self) c.args.self.now.events.items c.next_of_peer-next.result
    (sym c.was.ensures ∙ c.if-was.false) none
    (rw (ap (λ m. m.entries) c.entry_of_peer-entry.ensures.streams) at c.in_ok-insert.ensures.updates.2)
    (goes_accepts c.args.self.now.streams.entries c.insert.new.self.entries c.args.self.now.ids c.see_next.new.self
    c.args.self.now.events.items c.of.result c.next_of_peer-next.result c.entry_of_peer-entry.result
    (c.next_of_peer-next.ensures ∙ ap (λ k. next_peer c.args.self.now.ids k) (sym c.of.ensures)) below
    (rw c.entry_of_peer-entry.ensures.ids at c.see_next.ensures)
    c.in_ok-insert.ensures.updates.1
    (rw (ap (λ m. m.entries) c.entry_of_peer-entry.ensures.streams) at c.in_ok-insert.ensures.updates.2)
    c.entry_of_peer-entry.ensures.alone)
    c.entry_of_peer-entry.ensures.table (ap is_some c.entry_of_peer-entry.ensures.ended)
