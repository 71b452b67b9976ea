use Rattle.vesgrauf.proofs.ActSteps.{call_works, opening_works}
use Rattle.vesgrauf.proofs.laws.calls_that_open_streams_say_nothing.Goals as goal

pub returns-clause-opens : goal.returns-clause-opens
returns-clause-opens c = λ a b kind id at others g table over.
    call_works a b (opening_works a b kind id at others g table over)
