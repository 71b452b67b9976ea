use Rattle.std.proofs.Common.{rules, ◌≡◌, ℕ, List, Bool, None, true, false, [], ap, subst, arith, sym, ◌∙◌, refl}
use Rattle.std.specs.Prelude.{◌^◌, if◌then◌else◌, nat_lt, Result, Ok, Err}
use Rattle.vesgrauf.specs.declared.connection.ids.Ids.{Ids}
use Rattle.vesgrauf.specs.declared.entry.Entry.{Entry}
use Rattle.vesgrauf.specs.Ids.{count_unopened, next_own, taken}
use Rattle.vesgrauf.specs.Limits.{most_unopened}
use Rattle.vesgrauf.specs.Instructions.{table_of}
use Rattle.vesgrauf.specs.Own.{entry_at}
use Rattle.vesgrauf.specs.State.{IsStill, View, view_of, knows_of, may_wait}
use Rattle.vesgrauf.specs.declared.refused.Refused.{Refused}
use Rattle.vesgrauf.specs.declared.refused.Refused.TheVariants as refused
use Rattle.vesgrauf.proofs.LimitLemmas.{few_taken, waits_as}
use Rattle.vesgrauf.proofs.CutLemmas.{on_err_is}
use Rattle.vesgrauf.proofs.GoesLemmas.{goes_still, goes_then}
use Rattle.vesgrauf.proofs.GoesSteps.{goes_on}
use Rattle.vesgrauf.proofs.IdLemmas.{goes_opens, keeps_still, knows_here, lasts_opens}
use Rattle.vesgrauf.proofs.JoinedLemmas.{joined_taken}
use Rattle.vesgrauf.proofs.KeepsLemmas.{keeps_goes}
use Rattle.vesgrauf.proofs.MemberLemmas.{keeps_noted, member_noted, member_taken, next_as, taken_as}
use Rattle.vesgrauf.proofs.MessageLemmas.{member_begins}
use Rattle.vesgrauf.specs.Halves.{Lasts}
use Rattle.vesgrauf.specs.Told.{AreOthers}
use Rattle.vesgrauf.proofs.connection.Connection.open_stream.Goals as goal

room_by : (b : Bool) (r : Result (Unit {0}) Refused) → r ≡ (if b then Ok tt else Err refused.Full) → r ≡ Ok tt
    → b ≡ true
room_by true r h g = refl
room_by false r h g = let bad : Err refused.Full ≡ Ok tt = sym h ∙ g in cc

pub returns-clause-goes : goal.returns-clause-goes
returns-clause-goes c =
    let still : IsStill c.args.self.now c.new_member.new.self
    = ap (λ x. view_of x) c.new_member.ensures.others ∙ c.check_room.ensures.still in
    let known : knows_of (entry_at c.add_member.new.self.streams.entries c.in-Some.id) ≡ true
    = knows_here c.add_member.new.self.streams.entries c.in-Some.id _ c.in_ok-add_member.ensures.here
    (ap (λ e. e.told) c.in_ok-entry.ensures.entry.is) in (
      goes_on [] c.args.self.now c.new_member.new.self (record c.add_member.new.self {
        ids = c.take.new.self;
        joined = joined_taken c.add_member.new.self.streams.entries c.add_member.new.self.ids c.take.new.self
            c.args.kind c.take.ensures c.add_member.new.self.joined;
        few = few_taken c.add_member.new.self.config (nat_lt (next_own c.add_member.new.self.ids c.args.kind) (2 ^ 62))
            c.add_member.new.self.ids c.take.new.self c.args.kind
            (ap (λ n. nat_lt n (most_unopened c.add_member.new.self.config))
            (waits_as c.new_member.new.self.ids c.add_member.new.self.ids c.in_ok-add_member.ensures.noted.others c.args.kind)
            ∙ (ap (λ v. nat_lt (count_unopened c.new_member.new.self.ids c.args.kind) (most_unopened v.config))
            c.add_member.ensures.view
            ∙ (ap (λ v. nat_lt (count_unopened v.ids c.args.kind) (most_unopened v.config))
            (ap (λ x. view_of x) c.new_member.ensures.others ∙ c.check_room.ensures.still)
            ∙ room_by (may_wait c.args.self.now c.args.kind) c.check_room.result c.check_room.ensures.room (search (rules)))))
            c.take.ensures c.add_member.new.self.few;
      })
          (goes_still c.args.self.now c.new_member.new.self still)
          (rw (ap (λ d. d.items) c.in_ok-add_member.ensures.events)
          (goes_then [] [] c.new_member.new.self.streams.entries c.new_member.new.self.streams.entries
          c.add_member.new.self.streams.entries c.new_member.new.self.ids c.add_member.new.self.ids c.take.new.self
          c.new_member.new.self.events.items c.new_member.new.self.events.items c.new_member.new.self.events.items
          (keeps_goes (keeps_noted None c.new_member.new.self.streams.entries c.new_member.new.self.ids
          c.add_member.new.self.ids (table_of c.new_member.new.self) c.new_member.new.self.events.items c.new_member.new.self.config
          c.new_member.new.self.ended c.args.session c.in-Some.id c.in_ok-add_member.ensures.noted))
          (goes_opens c.new_member.new.self.streams.entries c.add_member.new.self.streams.entries
          c.add_member.new.self.ids c.take.new.self c.new_member.new.self.events.items c.args.kind c.in-Some.id
          ((c.in-Some.ensures.0 ∙ ap (λ x. next_own x.ids c.args.kind) (sym c.new_member.ensures.others))
          ∙ sym (next_as c.new_member.new.self.ids c.add_member.new.self.ids c.in_ok-add_member.ensures.noted.others
          c.args.kind))
          c.in-Some.ensures.1 c.take.ensures known c.in_ok-add_member.ensures.others
          (member_noted c.args.session c.in-Some.id c.new_member.new.self.ids c.add_member.new.self.ids
          (entry_at c.add_member.new.self.streams.entries c.in-Some.id) _ c.in_ok-add_member.ensures.noted
          c.in_ok-add_member.ensures.here (ap (λ e. e.session) c.in_ok-entry.ensures.entry.is))))),
      known,
    )

pub returns-clause-begins : goal.returns-clause-begins
returns-clause-begins c = member_begins c.args.self.now c.check_room.new.self c.add_member.new.self c.in-Some.id
    c.args.session c.args.kind c.in_ok-head.head.items _ _ c.check_room.ensures.still c.in_ok-head.ensures
    c.as_slice.ensures.value c.in_ok-entry.ensures.entry c.in_ok-add_member.ensures.here

pub returns-clause-others : goal.returns-clause-others
returns-clause-others c =
    let still : IsStill c.args.self.now c.new_member.new.self
    = ap (λ x. view_of x) c.new_member.ensures.others ∙ c.check_room.ensures.still in
    let at : c.in-Some.id ≡ next_own c.add_member.new.self.ids c.args.kind
    = (c.in-Some.ensures.0 ∙ ap (λ x. next_own x.ids c.args.kind) (sym c.new_member.ensures.others))
    ∙ sym (next_as c.new_member.new.self.ids c.add_member.new.self.ids c.in_ok-add_member.ensures.noted.others
    c.args.kind) in
    ap (λ (v : View). record v { ids = c.take.new.self })
    (c.add_member.ensures.view ∙ ap (λ (v : View). record v {
      streams = c.add_member.new.self.streams.entries;
      ids = c.add_member.new.self.ids;
    }) still)
    ∙ ap (λ (i : Ids). record (view_of c.args.self.now) { streams = c.add_member.new.self.streams.entries; ids = i })
    (taken_as c.args.kind c.new_member.new.self.ids c.add_member.new.self.ids c.take.new.self
    c.in_ok-add_member.ensures.noted.others c.take.ensures (omega (arith, at, c.in-Some.ensures.1))
    ∙ ap (λ (v : View). record (taken v.ids c.args.kind) { members = c.take.new.self.members }) still)

pub returns-clause-member : goal.returns-clause-member
returns-clause-member c = λ s k.
    let still : IsStill c.args.self.now c.new_member.new.self
    = ap (λ x. view_of x) c.new_member.ensures.others ∙ c.check_room.ensures.still in
    rw (ap (λ v. v.ids) (sym still)) (member_taken c.args.kind c.add_member.new.self.ids c.take.new.self s k
    c.take.ensures ∙ c.in_ok-add_member.ensures.noted.members s k)

pub invariant_of-self-clause-joined : goal.invariant_of-self-clause-joined
invariant_of-self-clause-joined c = joined_taken c.add_member.new.self.streams.entries c.add_member.new.self.ids
    c.take.new.self c.args.kind c.take.ensures c.add_member.new.self.joined

pub invariant_of-self-clause-few : goal.invariant_of-self-clause-few
invariant_of-self-clause-few c = few_taken c.add_member.new.self.config (nat_lt (next_own c.add_member.new.self.ids c.args.kind) (2 ^ 62))
    c.add_member.new.self.ids c.take.new.self c.args.kind
    (ap (λ n. nat_lt n (most_unopened c.add_member.new.self.config))
    (waits_as c.new_member.new.self.ids c.add_member.new.self.ids c.in_ok-add_member.ensures.noted.others c.args.kind)
    ∙ (ap (λ v. nat_lt (count_unopened c.new_member.new.self.ids c.args.kind) (most_unopened v.config))
    c.add_member.ensures.view
    ∙ (ap (λ v. nat_lt (count_unopened v.ids c.args.kind) (most_unopened v.config))
    (ap (λ x. view_of x) c.new_member.ensures.others ∙ c.check_room.ensures.still)
    ∙ room_by (may_wait c.args.self.now c.args.kind) c.check_room.result c.check_room.ensures.room (search (rules)))))
    c.take.ensures c.add_member.new.self.few

pub returns-in_err-check_session-clause-kept : goal.returns-in_err-check_session-clause-kept
returns-in_err-check_session-clause-kept c = on_err_is _ _ (keeps_still c.args.self.now c.args.self.now refl)

pub returns-in_err-check_room-clause-kept : goal.returns-in_err-check_room-clause-kept
returns-in_err-check_room-clause-kept c = on_err_is _ _ (keeps_still c.args.self.now c.check_room.new.self c.check_room.ensures.still)

pub returns-in_err-head-clause-kept : goal.returns-in_err-head-clause-kept
returns-in_err-head-clause-kept c = on_err_is _ _ (keeps_still c.args.self.now c.check_room.new.self c.check_room.ensures.still)

pub returns-in_err-entry-clause-kept : goal.returns-in_err-entry-clause-kept
returns-in_err-entry-clause-kept c = on_err_is _ _ (keeps_still c.args.self.now c.new_member.new.self
    (ap (λ x. view_of x) c.new_member.ensures.others ∙ c.check_room.ensures.still))

pub returns-clause-lasts : goal.returns-clause-lasts
returns-clause-lasts c =
    let still : IsStill c.args.self.now c.new_member.new.self
    = ap (λ x. view_of x) c.new_member.ensures.others ∙ c.check_room.ensures.still in
    let others : AreOthers c.in-Some.id c.args.self.now.streams.entries c.add_member.new.self.streams.entries
    = subst (λ (x : List (ℕ × Entry)). AreOthers c.in-Some.id x c.add_member.new.self.streams.entries)
    (ap (λ v. v.streams) still) c.in_ok-add_member.ensures.others in
    λ over sound. subst (λ x. Lasts None [] c.args.self.now.streams.entries c.args.self.now.events.items
    c.add_member.new.self.streams.entries x)
    (sym (ap (λ d. d.items) c.in_ok-add_member.ensures.events ∙ ap (λ v. v.events) still))
    (lasts_opens c.args.self.now.streams.entries c.add_member.new.self.streams.entries c.args.self.now.ids
    c.args.self.now.events.items c.args.kind c.in-Some.id
    (c.in-Some.ensures.0 ∙ ap (λ v. next_own v.ids c.args.kind) c.check_room.ensures.still) others sound)
