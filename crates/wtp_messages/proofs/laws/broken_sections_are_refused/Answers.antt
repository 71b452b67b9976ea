use Rattle.wtp_messages.proofs.BrokenLemmas as broken
use Rattle.wtp_messages.proofs.CountLemmas as count
use Rattle.wtp_messages.proofs.laws.broken_sections_are_refused.Goals as goal

pub returns-clause-late : goal.returns-clause-late
returns-clause-late c = broken.late

pub returns-clause-repeated : goal.returns-clause-repeated
returns-clause-repeated c = broken.repeated

pub returns-clause-request_section : goal.returns-clause-request_section
returns-clause-request_section c = broken.request_section

pub returns-clause-response_section : goal.returns-clause-response_section
returns-clause-response_section c = broken.response_section

pub returns-clause-no_length : goal.returns-clause-no_length
returns-clause-no_length c = count.no_length

pub returns-clause-two_lengths : goal.returns-clause-two_lengths
returns-clause-two_lengths c = count.two_lengths
