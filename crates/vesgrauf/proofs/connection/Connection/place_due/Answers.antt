use Rattle.std.proofs.Common.{sym, ◌∙◌}
use Rattle.vesgrauf.proofs.PlaceSteps.{not_sending, sending}
use Rattle.vesgrauf.proofs.PlaceLemmas.{ordered_now, ordered_off_now}
use Rattle.vesgrauf.proofs.connection.Connection.place_due.Goals as goal

pub invariant_of-self-then-not-may_send-clause-joined : goal.invariant_of-self-then-not-may_send-clause-joined
invariant_of-self-then-not-may_send-clause-joined c = c.args.self.now.joined

pub invariant_of-self-then-not-has_more-clause-joined : goal.invariant_of-self-then-not-has_more-clause-joined
invariant_of-self-then-not-has_more-clause-joined c = c.args.self.now.joined

pub invariant_of-self-2-clause-joined : goal.invariant_of-self-2-clause-joined
invariant_of-self-2-clause-joined c = c.args.self.now.joined

pub invariant_of-self-then-not-has_more-clause-ordered : goal.invariant_of-self-then-not-has_more-clause-ordered
invariant_of-self-then-not-has_more-clause-ordered c =
    ordered_off_now c.args.self.now.streams.entries c.args.self.now.ready.ranks c.args.self.now.unplaced c.in-Some.id
    c.in-Some-get.entry.now (sym c.in-Some-get.ensures.value)
    (not_sending c.in-Some-get.entry.now (sym c.has_more.ensures.more ∙ c.if-not-has_more.true)) c.in-Some.is
    c.args.self.now.ordered

pub invariant_of-self-2-clause-ordered : goal.invariant_of-self-2-clause-ordered
invariant_of-self-2-clause-ordered c =
    ordered_now c.args.self.now.streams.entries c.args.self.now.ready c.give_place.new.ready c.args.self.now.unplaced _
    c.in-Some.id c.in-Some-get.entry.now (sym c.in-Some-get.ensures.value) c.in-Some.is c.in_ok-_none.ensures.ok
    (sending c.in-Some-get.entry.now (sym c.may_send.ensures ∙ c.if-not-may_send.false)
    (sym c.has_more.ensures.more ∙ c.if-not-has_more.false)) c.args.self.now.ordered
