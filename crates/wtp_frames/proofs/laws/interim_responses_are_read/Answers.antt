use Rattle.std.proofs.Common.{false, refl}
use Rattle.wtp_frames.specs.declared.fault.Fault.TheVariants as fault
use Rattle.wtp_frames.specs.declared.reader.Place.TheVariants.{Body}
use Rattle.wtp_frames.specs.Run.{failed}
use Rattle.wtp_frames.specs.Start.{between}
use Rattle.wtp_frames.proofs.RunLemmas.{run_failed}
use Rattle.wtp_frames.proofs.InterimLemmas.{gives_section, one_too_many, reads_interims}
use Rattle.wtp_frames.proofs.laws.interim_responses_are_read.Goals as goal

pub returns-clause-read : goal.returns-clause-read
returns-clause-read c = reads_interims

pub returns-clause-bound : goal.returns-clause-bound
returns-clause-bound c = λ e i side v. (between e 64 Body false 0, gives_section e 64 i v, one_too_many e side)

pub returns-clause-last : goal.returns-clause-last
returns-clause-last c = λ r bytes. run_failed (failed r fault.TooManyInterim) bytes refl
