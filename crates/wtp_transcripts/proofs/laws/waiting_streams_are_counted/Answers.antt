use Rattle.std.proofs.Common.{sym, arith}
use Rattle.wtp_transcripts.specs.Transcript.{begin}
use Rattle.wtp_transcripts.proofs.WaitLemmas.{waiting_counted, few_wait}
use Rattle.wtp_transcripts.proofs.laws.waiting_streams_are_counted.Goals as goal

pub returns-clause-count : goal.returns-clause-count
returns-clause-count c = λ e t ns steps d o h. waiting_counted steps ns (begin e t) d o (sym h) (omega arith)

pub returns-clause-few : goal.returns-clause-few
returns-clause-few c = λ e t ns steps d o h. few_wait steps ns (begin e t) d o (sym h) (omega arith)
