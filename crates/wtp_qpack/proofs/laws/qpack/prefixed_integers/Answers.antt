use Rattle.wtp_qpack.proofs.IntegerLaws.{int_read, int_found, overflow_read, overflow_found, cut_read, cut_found, int_faults, short_int, short_least}
use Rattle.wtp_qpack.proofs.laws.qpack.prefixed_integers.Goals as goal

pub returns-clause-read : goal.returns-clause-read
returns-clause-read c = int_read

pub returns-clause-found : goal.returns-clause-found
returns-clause-found c = int_found

pub returns-clause-overflow : goal.returns-clause-overflow
returns-clause-overflow c = overflow_read

pub returns-clause-overflow_found : goal.returns-clause-overflow_found
returns-clause-overflow_found c = overflow_found

pub returns-clause-cut : goal.returns-clause-cut
returns-clause-cut c = λ n bytes few. (cut_found n bytes few, cut_read n bytes)

pub returns-clause-no_other : goal.returns-clause-no_other
returns-clause-no_other c = int_faults

pub returns-clause-written : goal.returns-clause-written
returns-clause-written c = short_int

pub returns-clause-shortest : goal.returns-clause-shortest
returns-clause-shortest c = short_least
