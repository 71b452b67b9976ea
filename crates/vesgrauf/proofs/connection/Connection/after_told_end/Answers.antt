use Rattle.vesgrauf.proofs.KeepsLemmas.{keeps_gone}
use Rattle.vesgrauf.proofs.connection.Connection.after_told_end.Goals as goal

pub returns-then-is_err-clause-gone : goal.returns-then-is_err-clause-gone
returns-then-is_err-clause-gone c = λ g. keeps_gone c.args.id
    (keeps_gone c.args.id g (c.half_ends.ensures.keeps g)) c.fail.ensures.keeps
