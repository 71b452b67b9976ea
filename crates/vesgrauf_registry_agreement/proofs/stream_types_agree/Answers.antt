use Rattle.vesgrauf_registry_agreement.proofs.TableLemmas.{same_stream}
use Rattle.vesgrauf_registry_agreement.proofs.stream_types_agree.Goals as goal

pub returns : goal.returns
returns c = same_stream
