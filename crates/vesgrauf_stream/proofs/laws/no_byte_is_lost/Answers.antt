use Rattle.std.proofs.Common.{[], false}
use Rattle.vesgrauf_stream.proofs.TurnLemmas.{turns_left, turns_end}
use Rattle.vesgrauf_stream.proofs.laws.no_byte_is_lost.Goals as goal

pub returns : goal.returns
returns c = record {
  bytes = λ turns v lead. turns_left turns ([], false) v lead;
  end = λ turns v lead. turns_end turns ([], false) v lead;
}
