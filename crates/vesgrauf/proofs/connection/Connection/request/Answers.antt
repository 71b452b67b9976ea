use Rattle.std.proofs.Common.{rules, ◌≡◌, ℕ, List, None, true, false, [], subst, refl, ap, sym, ◌∙◌, arith, Bool}
use Rattle.std.specs.Prelude.{◌^◌, if◌then◌else◌, nat_lt, Result, Ok, Err}
use Rattle.vesgrauf_stream.specs.Headers.{request_at, SendsHeaders}
use Rattle.vesgrauf.specs.Ids.{count_unopened, next_own}
use Rattle.vesgrauf.specs.Limits.{most_unopened}
use Rattle.vesgrauf.proofs.LimitLemmas.{few_taken}
use Rattle.vesgrauf.specs.Own.{entry_at}
use Rattle.vesgrauf.specs.State.{IsStill, knows_of, may_wait}
use Rattle.vesgrauf.specs.declared.refused.Refused.{Refused}
use Rattle.vesgrauf.specs.declared.refused.Refused.TheVariants as refused
use Rattle.vesgrauf.specs.Instructions.{table_of}
use Rattle.vesgrauf.proofs.TableLemmas.{table_in}
use Rattle.vesgrauf.specs.Keeps.{Keeps}
use Rattle.vesgrauf.specs.declared.connection.Connection.{Connection}
use Rattle.vesgrauf.specs.declared.output.StreamKind.TheVariants as kind
use Rattle.vesgrauf.proofs.CutLemmas.{on_err_is}
use Rattle.vesgrauf.proofs.GoesLemmas.{goes_still, goes_same}
use Rattle.vesgrauf.proofs.GoesSteps.{goes_on}
use Rattle.vesgrauf.proofs.IdLemmas.{goes_opens, keeps_undone, keeps_still, lasts_opens, noted_alone}
use Rattle.vesgrauf.proofs.JoinedLemmas.{joined_taken}
use Rattle.vesgrauf.proofs.KeepsLemmas.{keeps_then}
use Rattle.vesgrauf.proofs.MessageLemmas.{same_but, requests}
use Rattle.vesgrauf.specs.Halves.{Lasts}
use Rattle.vesgrauf.specs.Told.{AreOthers, IsUndone}
use Rattle.vesgrauf.specs.declared.entry.Entry.{Entry}
use Rattle.vesgrauf.proofs.connection.Connection.request.Goals as goal

room_by : (b : Bool) (r : Result (Unit {0}) Refused) → r ≡ (if b then Ok tt else Err refused.Full) → r ≡ Ok tt
    → b ≡ true
room_by true r h g = refl
room_by false r h g = let bad : Err refused.Full ≡ Ok tt = sym h ∙ g in cc

pub returns-clause-goes : goal.returns-clause-goes
returns-clause-goes c =
    let later : IsStill c.check_room.new.self c.choose_policy.new.self
    = c.choose_policy.ensures.still ∙ c.reserve.ensures.still in
    let still : IsStill c.args.self.now c.choose_policy.new.self = later ∙ c.check_room.ensures.still in
    let known : knows_of (entry_at c.open_request.new.self.streams.entries c.in-Some.id) ≡ true
    = c.in_ok-open_request.ensures.known in
    let opened : Connection = record c.open_request.new.self {
      ids = c.take.new.self;
      joined = joined_taken c.open_request.new.self.streams.entries c.open_request.new.self.ids c.take.new.self
          kind.Bidirectional c.take.ensures c.open_request.new.self.joined;
      few = few_taken c.open_request.new.self.config (nat_lt (next_own c.open_request.new.self.ids kind.Bidirectional) (2 ^ 62))
          c.open_request.new.self.ids c.take.new.self kind.Bidirectional
          (ap (λ v. nat_lt (count_unopened v.ids kind.Bidirectional) (most_unopened v.config)) c.open_request.ensures.view
          ∙ (ap (λ v. nat_lt (count_unopened v.ids kind.Bidirectional) (most_unopened v.config))
          ((c.choose_policy.ensures.still ∙ c.reserve.ensures.still) ∙ c.check_room.ensures.still)
          ∙ room_by (may_wait c.args.self.now kind.Bidirectional) c.check_room.result c.check_room.ensures.room (search (rules))))
          c.take.ensures c.open_request.new.self.few;
    } in (
      goes_on [] c.args.self.now c.choose_policy.new.self c.count_asked.new.self
          (goes_still c.args.self.now c.choose_policy.new.self still)
          (goes_on [] c.choose_policy.new.self opened c.count_asked.new.self
          (rw (ap (λ d. d.items) c.in_ok-open_request.ensures.events)
          (goes_opens c.choose_policy.new.self.streams.entries c.open_request.new.self.streams.entries
          c.choose_policy.new.self.ids c.take.new.self c.choose_policy.new.self.events.items kind.Bidirectional c.in-Some.id
          (c.in-Some.ensures.0 ∙ ap (λ v. next_own v.ids kind.Bidirectional) (sym later)) c.in-Some.ensures.1
          (rw c.in_ok-open_request.ensures.ids at c.take.ensures) known c.in_ok-open_request.ensures.others
          (noted_alone c.choose_policy.new.self.ids c.in-Some.id
          (entry_at c.open_request.new.self.streams.entries c.in-Some.id) c.in_ok-open_request.ensures.alone)))
          (goes_on [] opened c.queue_due.new.self c.count_asked.new.self c.queue_due.ensures.goes
          (goes_same c.queue_due.new.self.streams.entries c.count_asked.new.self.streams.entries
          c.queue_due.new.self.ids c.count_asked.new.self.ids c.queue_due.new.self.events.items
          c.count_asked.new.self.events.items (ap (λ m. m.entries) c.count_asked.ensures.streams)
          c.count_asked.ensures.ids (ap (λ m. m.items) c.count_asked.ensures.events)))),
      rw (ap (λ m. m.entries) c.count_asked.ensures.streams, ap (λ v. v.streams) c.queue_due.ensures.due.others) known,
    )

pub returns-clause-begins : goal.returns-clause-begins
returns-clause-begins c = requests c.args.self.now c.choose_policy.new.self c.open_request.new.self
    (record c.open_request.new.self { ids = c.take.new.self; ordered = _; joined = _; within = _; few = _ }) c.queue_due.new.self
    c.count_asked.new.self c.in-Some.id
    (λ a s t v w. SendsHeaders (request_at v c.in-Some.id a) c.args.list.now c.args.fin s t v w)
    ((c.choose_policy.ensures.still ∙ c.reserve.ensures.still) ∙ c.check_room.ensures.still)
    (same_but c.args.self.now c.reserve.new.self c.choose_policy.new.self
    (c.reserve.ensures.tools ∙ c.check_room.ensures.tools) c.choose_policy.ensures.policy
    c.choose_policy.ensures.instructions)
    c.in_ok-open_request.ensures.begins c.open_request.ensures.view refl refl refl c.queue_due.ensures.due
    c.count_asked.ensures.streams c.count_asked.ensures.tools
    (ap (λ x. x.encoder) c.count_asked.ensures.others)

pub returns-in_err-open_request-clause-kept : goal.returns-in_err-open_request-clause-kept
returns-in_err-open_request-clause-kept c =
    let later : IsStill c.check_room.new.self c.choose_policy.new.self
    = c.choose_policy.ensures.still ∙ c.reserve.ensures.still in
    let last : Keeps [] c.choose_policy.new.self c.open_request.new.self =
    rw (
      c.open_request.ensures.ids,
      ap (λ d. d.items) c.open_request.ensures.events,
      ap (λ v. v.ended) c.open_request.ensures.view,
      ap (λ v. v.shared) c.open_request.ensures.view,
      ap (λ v. v.decoder) c.open_request.ensures.view,
      ap (λ v. v.told) c.open_request.ensures.view,
    )
    (keeps_undone c.choose_policy.new.self.streams.entries c.open_request.new.self.streams.entries
    c.choose_policy.new.self.ids _ c.choose_policy.new.self.events.items c.choose_policy.new.self.config
    c.open_request.new.self.config c.choose_policy.new.self.ended kind.Bidirectional c.in-Some.id
    (c.in-Some.ensures.0 ∙ ap (λ v. next_own v.ids kind.Bidirectional) (sym later))
    c.in_err-open_request.ensures.refused (ap (λ v. v.config) c.open_request.ensures.view)) in
    let h : Keeps [] c.args.self.now c.open_request.new.self =
    keeps_then (keeps_still c.args.self.now c.choose_policy.new.self (later ∙ c.check_room.ensures.still)) last in
    grind (arith, h)

pub invariant_of-self : goal.invariant_of-self
invariant_of-self c = record {
  ordered = c.open_request.new.self.ordered;
  joined = joined_taken c.open_request.new.self.streams.entries c.open_request.new.self.ids c.take.new.self
      kind.Bidirectional c.take.ensures c.open_request.new.self.joined;
  within = c.open_request.new.self.within;
  few = few_taken c.open_request.new.self.config (nat_lt (next_own c.open_request.new.self.ids kind.Bidirectional) (2 ^ 62))
      c.open_request.new.self.ids c.take.new.self kind.Bidirectional
      (ap (λ v. nat_lt (count_unopened v.ids kind.Bidirectional) (most_unopened v.config)) c.open_request.ensures.view
      ∙ (ap (λ v. nat_lt (count_unopened v.ids kind.Bidirectional) (most_unopened v.config))
      ((c.choose_policy.ensures.still ∙ c.reserve.ensures.still) ∙ c.check_room.ensures.still)
      ∙ room_by (may_wait c.args.self.now kind.Bidirectional) c.check_room.result c.check_room.ensures.room (search (rules))))
      c.take.ensures c.open_request.new.self.few;
}

pub returns-in_err-check_asked-clause-kept : goal.returns-in_err-check_asked-clause-kept
returns-in_err-check_asked-clause-kept c = on_err_is _ _ (keeps_still c.args.self.now c.args.self.now refl)

pub returns-in_err-check_room-clause-kept : goal.returns-in_err-check_room-clause-kept
returns-in_err-check_room-clause-kept c = on_err_is _ _
    (keeps_still c.args.self.now c.check_room.new.self c.check_room.ensures.still)

pub returns-in_err-reserve-clause-kept : goal.returns-in_err-reserve-clause-kept
returns-in_err-reserve-clause-kept c = on_err_is _ _ (keeps_still c.args.self.now c.reserve.new.self
    (c.reserve.ensures.still ∙ c.check_room.ensures.still))

pub returns-clause-room : goal.returns-clause-room
returns-clause-room c = room_by (may_wait c.args.self.now kind.Bidirectional) c.check_room.result
    c.check_room.ensures.room (search (rules))

pub returns-clause-lasts : goal.returns-clause-lasts
returns-clause-lasts c =
    let later : IsStill c.check_room.new.self c.choose_policy.new.self
    = c.choose_policy.ensures.still ∙ c.reserve.ensures.still in
    let still : IsStill c.args.self.now c.choose_policy.new.self = later ∙ c.check_room.ensures.still in
    let after : c.count_asked.new.self.streams.entries ≡ c.open_request.new.self.streams.entries
    = ap (λ m. m.entries) c.count_asked.ensures.streams ∙ ap (λ v. v.streams) c.queue_due.ensures.due.others in
    let events : c.count_asked.new.self.events.items ≡ c.args.self.now.events.items
    = (ap (λ m. m.items) c.count_asked.ensures.events ∙ ap (λ v. v.events) c.queue_due.ensures.due.others)
    ∙ (ap (λ d. d.items) c.open_request.ensures.events ∙ ap (λ v. v.events) still) in
    let others : AreOthers c.in-Some.id c.args.self.now.streams.entries c.count_asked.new.self.streams.entries
    = subst (λ (x : List (ℕ × Entry)). AreOthers c.in-Some.id x c.count_asked.new.self.streams.entries)
    (ap (λ v. v.streams) still)
    (subst (λ (x : List (ℕ × Entry)). AreOthers c.in-Some.id c.choose_policy.new.self.streams.entries x) (sym after)
    c.in_ok-open_request.ensures.others) in
    λ over sound. subst (λ x. Lasts None [] c.args.self.now.streams.entries c.args.self.now.events.items
    c.count_asked.new.self.streams.entries x) (sym events)
    (lasts_opens c.args.self.now.streams.entries c.count_asked.new.self.streams.entries c.args.self.now.ids
    c.args.self.now.events.items kind.Bidirectional c.in-Some.id
    (c.in-Some.ensures.0 ∙ ap (λ v. next_own v.ids kind.Bidirectional) c.check_room.ensures.still) others sound)

pub returns-clause-table : goal.returns-clause-table
returns-clause-table c = ap (λ v. table_in v) c.count_asked.ensures.others ∙ (c.queue_due.ensures.table
    ∙ (ap (λ v. table_in v) c.open_request.ensures.view
    ∙ ap (λ v. table_in v) ((c.choose_policy.ensures.still ∙ c.reserve.ensures.still) ∙ c.check_room.ensures.still)))

pub returns-in_err-open_request-clause-undone : goal.returns-in_err-open_request-clause-undone
returns-in_err-open_request-clause-undone c =
    let still : IsStill c.args.self.now c.choose_policy.new.self
    = (c.choose_policy.ensures.still ∙ c.reserve.ensures.still) ∙ c.check_room.ensures.still in
    on_err_is _ _
    (subst (λ (x : List (ℕ × Entry)). IsUndone (next_own c.args.self.now.ids kind.Bidirectional) x
    c.open_request.new.self.streams.entries) (ap (λ v. v.streams) still)
    (subst (λ n. IsUndone n c.choose_policy.new.self.streams.entries c.open_request.new.self.streams.entries)
    (c.in-Some.ensures.0 ∙ ap (λ v. next_own v.ids kind.Bidirectional) c.check_room.ensures.still)
    c.in_err-open_request.ensures.refused))
