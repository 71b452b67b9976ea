use Rattle.std.proofs.Common.{refl}
use Rattle.wtp_sending.proofs.SentLemmas.{sent_read}
use Rattle.wtp_sending.proofs.ChainLemmas.{all_read}
use Rattle.wtp_sending.proofs.laws.sent_messages_are_read.Goals as goal

pub returns-clause-start : goal.returns-clause-start
returns-clause-start c = λ e. (refl, refl)

pub returns-clause-calls : goal.returns-clause-calls
returns-clause-calls c = sent_read

pub returns-clause-all : goal.returns-clause-all
returns-clause-all c = all_read
