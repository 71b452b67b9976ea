use Rattle.std.proofs.Common.{◌≡◌, ◌∙◌, false, Some, ap, sym}
use Rattle.vesgrauf.specs.Own.{entry_at}
use Rattle.vesgrauf.specs.State.{knows_of}
use Rattle.vesgrauf.proofs.OverLemmas.{keeps_over}
use Rattle.vesgrauf.proofs.CutLemmas.{alone_ended}
use Rattle.vesgrauf.proofs.connection.Connection.closed.Goals as goal

pub returns-then-not-is_known-clause-keeps : goal.returns-then-not-is_known-clause-keeps
returns-then-not-is_known-clause-keeps c =
    let there : Some c.in-Some.entry.now ≡ entry_at c.args.self.now.streams.entries c.args.id
    = rw c.in-Some.is at c.get.ensures.value in
    let unknown : knows_of (entry_at c.args.self.now.streams.entries c.args.id) ≡ false
    = rw (sym there) (sym c.is_known.ensures ∙ c.if-not-is_known.true) in
    rw (
      c.end_told.ensures.ids,
      ap (λ q. q.items) c.end_told.ensures.events,
      c.end_told.ensures.config,
      c.end_told.ensures.ended,
      c.end_told.ensures.shared,
      c.end_told.ensures.decoder,
      ap (λ v. v.items) c.end_told.ensures.instructions,
    )
    (keeps_over c.args.self.now.streams.entries c.end_told.new.self.streams.entries
    c.args.self.now.ids _ c.args.self.now.events.items c.args.self.now.config c.args.self.now.ended c.args.id unknown c.end_told.ensures.ends)

pub returns-then-not-is_known-clause-alone : goal.returns-then-not-is_known-clause-alone
returns-then-not-is_known-clause-alone c = rw c.end_told.ensures.ids
    (alone_ended c.args.id c.args.self.now.streams.entries c.end_told.new.self.streams.entries c.args.self.now.ids
    c.end_told.ensures.ends)

pub returns-clause-alone : goal.returns-clause-alone
returns-clause-alone c = rw c.end_told-2.ensures.ids
    (alone_ended c.args.id c.args.self.now.streams.entries c.end_told-2.new.self.streams.entries c.args.self.now.ids
    c.end_told-2.ensures.ends)
