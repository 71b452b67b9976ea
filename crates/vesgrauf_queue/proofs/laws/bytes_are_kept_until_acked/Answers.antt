use Rattle.vesgrauf_queue.proofs.KeptLemmas.{keeps-new, bare-new, put-new, acked-new}
use Rattle.vesgrauf_queue.proofs.laws.bytes_are_kept_until_acked.Goals as goal

pub returns : goal.returns
returns c = record { kept = keeps-new; none = bare-new; put = put-new; acked = acked-new }
