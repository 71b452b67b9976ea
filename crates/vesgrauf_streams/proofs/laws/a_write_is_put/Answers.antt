use Rattle.vesgrauf_streams.proofs.CallerLemmas.{written}
use Rattle.vesgrauf_streams.proofs.laws.a_write_is_put.Goals as goal

pub returns : goal.returns
returns g c = written
