use Rattle.std.proofs.Common.{ap}
use Rattle.wtp_frames.specs.Run.{Run}
use Rattle.wtp_frames.specs.Reading.{ending_of}
use Rattle.wtp_frames.proofs.PieceLemmas.{led_waiting}
use Rattle.wtp_frames.proofs.laws.ends_are_those_of_the_bytes.Goals as goal

pub returns : goal.returns
returns c = λ events old new rest l w. ap (λ (x : Run). ending_of x) (led_waiting events old new rest l w.run)
