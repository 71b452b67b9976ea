use Rattle.wtp_wire.proofs.CloseWireLemmas.{next-written, whole-written, value-written}
use Rattle.wtp_wire.proofs.laws.capsule.written_close_is_read.Goals as goal

pub returns-clause-next : goal.returns-clause-next
returns-clause-next c = λ close rest w. next-written close.0 close.1 rest w.short

pub returns-clause-first : goal.returns-clause-first
returns-clause-first c = λ close rest w. whole-written close.0 close.1 rest w.short

pub returns-clause-value : goal.returns-clause-value
returns-clause-value c = λ close w. value-written close.0 close.1 w.code w.short w.text
