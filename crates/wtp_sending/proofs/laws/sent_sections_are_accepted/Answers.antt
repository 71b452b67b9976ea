use Rattle.wtp_sending.specs.Message.{SendsHead, SendsTrailers}
use Rattle.wtp_messages.specs.declared.message.Section.TheVariants.{Trailers}
use Rattle.wtp_sending.proofs.TakenLemmas.{taken}
use Rattle.wtp_sending.proofs.laws.sent_sections_are_accepted.Goals as goal

pub returns-clause-head : goal.returns-clause-head
returns-clause-head c = λ old new fields h. taken old.message fields h.head.found new.message h.head.comes

pub returns-clause-trailers : goal.returns-clause-trailers
returns-clause-trailers c = λ old new fields h. taken old.message fields Trailers new.message h.are.comes
