use Rattle.vesgrauf.proofs.IdLemmas.{others_untouched}
use Rattle.vesgrauf.proofs.StepLemmas.{on_ok_map}
use Rattle.vesgrauf.specs.Own.{UntouchedBut}
use Rattle.vesgrauf.specs.Told.{AreOthers}
use Rattle.std.proofs.Common.{rules, ap, ◌∙◌}
use Rattle.vesgrauf.specs.Joined.{holds_in}
use Rattle.vesgrauf.proofs.JoinedLemmas.{joined_removed, joined_severed}
use Rattle.vesgrauf.proofs.PlaceLemmas.{ordered_removed}
use Rattle.vesgrauf.proofs.connection.Connection.open_request.Goals as goal

pub invariant_of-self-clause-ordered : goal.invariant_of-self-clause-ordered
invariant_of-self-clause-ordered c = ordered_removed c.put_entry.new.self.streams c.remove.new.self
    c.put_entry.new.self.ready c.remove-in-Some.new.self c.put_entry.new.self.unplaced c.args.id c.in-Some.blank
    (search (rules)) (search (rules)) (search (rules)) c.put_entry.new.self.ordered

pub invariant_of-self-clause-joined : goal.invariant_of-self-clause-joined
invariant_of-self-clause-joined c =
    joined_removed c.put_entry.new.self.streams c.remove.new.self c.put_entry.new.self.ids c.args.id
    (joined_severed c.put_entry.new.self.streams.entries c.put_entry.new.self.ids c.args.id
    (ap holds_in c.in_ok-put_entry.ensures.here ∙ ap (λ e. e.has_session) c.blank_entry-blank.ensures.new)
    c.put_entry.new.self.joined)
    (search (rules)) c.put_entry.new.self.joined

pub returns-clause-others : goal.returns-clause-others
returns-clause-others c = on_ok_map c.put_entry-2.result
    (AreOthers c.args.id c.put_entry.new.self.streams.entries c.put_entry-2.new.self.streams.entries)
    (AreOthers c.args.id c.args.self.now.streams.entries c.put_entry-2.new.self.streams.entries)
    (λ m k t. m k t ∙ c.in_ok-put_entry.ensures.alone k t) c.put_entry-2.ensures.alone

pub returns-clause-own : goal.returns-clause-own
returns-clause-own c = on_ok_map c.put_entry-2.result
    (AreOthers c.args.id c.put_entry.new.self.streams.entries c.put_entry-2.new.self.streams.entries)
    (UntouchedBut c.args.id c.args.self.now.streams.entries c.put_entry-2.new.self.streams.entries)
    (λ m. others_untouched c.args.self.now.streams.entries c.put_entry-2.new.self.streams.entries c.args.id
    (λ k t. m k t ∙ c.in_ok-put_entry.ensures.alone k t)) c.put_entry-2.ensures.alone
