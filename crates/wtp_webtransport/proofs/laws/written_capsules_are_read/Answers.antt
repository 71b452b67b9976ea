use Rattle.wtp_webtransport.proofs.CutLemmas.{read_as_written, skipped_as_written, refused_as_written}
use Rattle.wtp_webtransport.proofs.laws.written_capsules_are_read.Goals as goal

pub returns-clause-read : goal.returns-clause-read
returns-clause-read c = read_as_written

pub returns-clause-skipped : goal.returns-clause-skipped
returns-clause-skipped c = skipped_as_written

pub returns-clause-refused : goal.returns-clause-refused
returns-clause-refused c = refused_as_written
