use Rattle.wtp_qpack.proofs.StringReading.{ascii_good}
use Rattle.wtp_qpack.proofs.qpack.string_literal.check.Goals as goal

pub returns-then-is_ascii-clause-read : goal.returns-then-is_ascii-clause-read
returns-then-is_ascii-clause-read c = ascii_good c.args.texts c.args.bytes.now (rw c.if-is_ascii.true at c.is_ascii.ensures.cases)
