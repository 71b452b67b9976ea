use Rattle.vesgrauf.proofs.PlaceLemmas.{ordered_removed}
use Rattle.vesgrauf.proofs.JoinedLemmas.{joined_removed}
use Rattle.std.proofs.Common.{None, ap, sym, ◌∙◌, rules}
use Rattle.std.specs.Prelude.{is_some}
use Rattle.vesgrauf.proofs.KeepsLemmas.{keeps_removed, keeps_then}
use Rattle.vesgrauf.proofs.MemberLemmas.{keeps_unnoted}
use Rattle.vesgrauf.proofs.connection.Connection.remove.Goals as goal

pub returns-clause-keeps : goal.returns-clause-keeps
returns-clause-keeps c = λ unknown. rw (
  ap (λ m. m.entries) c.forget.ensures.streams,
  ap (λ q. q.items) c.forget.ensures.events,
  c.forget.ensures.config,
  c.forget.ensures.ended,
  c.forget.ensures.shared,
  c.forget.ensures.decoder,
  ap (λ v. v.items) c.forget.ensures.instructions,
)
    (keeps_then
    (keeps_removed c.args.self.now.streams.entries c.remove.new.self.entries c.args.self.now.ids _
    c.args.self.now.events.items c.args.self.now.config c.args.self.now.ended c.args.id c.remove.ensures.updates.0
    (ap (λ o. is_some o) (sym c.remove.ensures.value ∙ c.in-Some.is)) unknown)
    (keeps_unnoted None c.remove.new.self.entries c.args.self.now.ids c.forget.new.self.ids _
    c.args.self.now.events.items c.args.self.now.config c.args.self.now.ended c.args.id c.remove.ensures.updates.1
    c.forget.ensures.ids))

pub invariant_of-self-2-clause-joined : goal.invariant_of-self-2-clause-joined
invariant_of-self-2-clause-joined c = joined_removed c.args.self.now.streams c.remove.new.self c.args.self.now.ids c.args.id c.requires
    c.remove.ensures.updates c.args.self.now.joined

pub invariant_of-self-2-clause-ordered : goal.invariant_of-self-2-clause-ordered
invariant_of-self-2-clause-ordered c = ordered_removed c.args.self.now.streams c.remove.new.self c.args.self.now.ready
    c.remove-2.new.self c.args.self.now.unplaced c.args.id c.in-Some.entry (sym (sym c.remove.ensures.value ∙ c.in-Some.is))
    c.remove.ensures.updates (search (rules)) c.args.self.now.ordered
