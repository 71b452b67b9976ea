use Rattle.vesgrauf_streams.proofs.RunLemmas.{looks_last}
use Rattle.vesgrauf_streams.proofs.laws.a_look_up_finds_what_was_put_last.Goals as goal

pub returns : goal.returns
returns g c = looks_last
