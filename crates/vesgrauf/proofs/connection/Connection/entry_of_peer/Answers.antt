use Rattle.std.proofs.Common.{ap, sym, subst, ◌∙◌}
use Rattle.vesgrauf.specs.Theirs.{IsBlank, theirs_by}
use Rattle.vesgrauf.proofs.TellsLemmas.{blank_of}
use Rattle.vesgrauf.proofs.connection.Connection.entry_of_peer.Goals as goal

pub returns-clause-nothing : goal.returns-clause-nothing
returns-clause-nothing c = subst (λ e. IsBlank c.args.id (theirs_by e.peer e.is_decoder e.reading)) (sym c.new-entry.ensures)
    (blank_of c.new.result c.args.self.now.shared c.args.id
    (c.new.ensures.stream ∙ ap (λ o. o.1) c.accept-stream.ensures) c.new.ensures.kept c.new.ensures.ended)
