use Rattle.std.proofs.Common.{refl}
use Rattle.wtp_qpack.proofs.StringReading.{text_good, text_bad}
use Rattle.wtp_qpack.proofs.qpack.string_literal.validate.Goals as goal

pub returns-in-Ok-clause-read : goal.returns-in-Ok-clause-read
returns-in-Ok-clause-read c = text_good _ _ refl c.in-Ok.ensures.cases.1

pub returns-in-Err-clause-read : goal.returns-in-Err-clause-read
returns-in-Err-clause-read c = text_bad _ c.in-Err.ensures.cases.0
