use Rattle.std.proofs.Common.{[]}
use Rattle.wtp_frames.proofs.PieceLemmas.{led, led_waiting}
use Rattle.wtp_frames.proofs.laws.calls_give_the_items.Goals as goal

pub returns-clause-so_far : goal.returns-clause-so_far
returns-clause-so_far c = λ events old new rest more l. led events old new [] rest more l

pub returns-clause-all : goal.returns-clause-all
returns-clause-all c = λ events old new rest l w. led_waiting events old new rest l w.run
