use Rattle.std.proofs.Common.{◌∙◌, ◌++◌, ap, sym}
use Rattle.vesgrauf_queue.specs.Runs.{queued}
use Rattle.vesgrauf_queue.proofs.RunLemmas.{tracks, starts-new}
use Rattle.vesgrauf_queue.proofs.laws.no_byte_is_lost.Goals as goal

pub returns-clause-whole : goal.returns-clause-whole
returns-clause-whole c = λ config steps s run none.
    ap (λ w. w ++ queued steps) (sym run.1.waits) ∙ tracks steps run.0 s run.2 none

pub returns-clause-start : goal.returns-clause-start
returns-clause-start c = starts-new
