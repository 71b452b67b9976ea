use Rattle.std.proofs.Common.{◌≡◌, false, ap, subst, ℕ, List}
use Rattle.vesgrauf.specs.State.{is_own}
use Rattle.vesgrauf.specs.Own.{own_at, TookAlone}
use Rattle.vesgrauf.specs.declared.entry.Entry.{Entry}
use Rattle.vesgrauf.proofs.StepLemmas.{on_ok_map}
use Rattle.vesgrauf.proofs.connection.Connection.sent.Goals as goal

pub returns-clause-took : goal.returns-clause-took
returns-clause-took c = on_ok_map c.sent_on.result
    (TookAlone c.args.len (own_at c.reserve.new.self.streams.entries c.args.id)
    (own_at c.sent_on.new.self.streams.entries c.args.id))
    (is_own c.args.self.now c.args.id ≡ false → TookAlone c.args.len (own_at c.args.self.now.streams.entries c.args.id)
    (own_at c.sent_on.new.self.streams.entries c.args.id))
    (λ t other. subst (λ (es : List (ℕ × Entry)). TookAlone c.args.len (own_at es c.args.id)
    (own_at c.sent_on.new.self.streams.entries c.args.id)) (ap (λ v. v.streams) c.reserve.ensures.still) t)
    c.sent_on.ensures.took
