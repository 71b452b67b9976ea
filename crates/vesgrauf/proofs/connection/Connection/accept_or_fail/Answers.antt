use Rattle.vesgrauf.specs.State.{is_over}
use Rattle.vesgrauf.specs.Works.{book_of}
use Rattle.vesgrauf.proofs.ActLemmas.{act_over}
use Rattle.vesgrauf.proofs.connection.Connection.accept_or_fail.Goals as goal

pub returns-in-Err-Broken-clause-works : goal.returns-in-Err-Broken-clause-works
returns-in-Err-Broken-clause-works c = act_over (is_over c.args.self.now) (is_over c.fail.new.self)
    (book_of c.args.self.now) (book_of c.fail.new.self) c.fail.ensures.over
