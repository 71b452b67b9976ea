use Rattle.wtp_messages.specs.declared.message.Section.TheVariants.{Trailers}
use Rattle.wtp_sending.proofs.SentLemmas.{head_sent, tail_sent}
use Rattle.wtp_sending.proofs.TakenLemmas.{taken}
use Rattle.wtp_sending.proofs.laws.sent_encoded_sections_are_read.Goals as goal

pub returns-clause-head : goal.returns-clause-head
returns-clause-head c = head_sent

pub returns-clause-trailers : goal.returns-clause-trailers
returns-clause-trailers c = tail_sent

pub returns-clause-accepted_head : goal.returns-clause-accepted_head
returns-clause-accepted_head c = λ section old new fields h. taken old.message fields h.head.found new.message h.head.comes

pub returns-clause-accepted_trailers : goal.returns-clause-accepted_trailers
returns-clause-accepted_trailers c = λ section old new fields h. taken old.message fields Trailers new.message h.are.comes
