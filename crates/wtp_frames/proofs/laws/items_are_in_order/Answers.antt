use Rattle.std.proofs.Common.{arith}
use Rattle.wtp_frames.specs.Start.{awaiting, control_reader}
use Rattle.wtp_frames.proofs.CutLemmas.{order}
use Rattle.wtp_frames.proofs.laws.items_are_in_order.Goals as goal

pub returns-clause-message : goal.returns-clause-message
returns-clause-message c = λ e k bytes. order (awaiting e k) bytes (λ some streamed. absurd (omega (arith, some)))

pub returns-clause-control : goal.returns-clause-control
returns-clause-control c = λ e bytes. order (control_reader e) bytes (λ some streamed. absurd (omega (arith, some)))
