use Rattle.wtp_wire.proofs.HeaderPollLemmas.{whole_headed, whole_short, whole_fault}
use Rattle.wtp_wire.proofs.stream_header.reading.read_whole.Goals as goal

pub unreachable-requires : goal.unreachable-requires
unreachable-requires c = whole_short _ c.requires (rw c.in-Ok-None.field-0-is at c.in-Ok-None.ensures.answer)

pub returns-in-Ok-Some : goal.returns-in-Ok-Some
returns-in-Ok-Some c = whole_headed _ _ _ c.requires (rw c.in-Ok-Some.field-0-is at c.in-Ok-Some.ensures.answer)

pub returns-in-Err : goal.returns-in-Err
returns-in-Err c = whole_fault c.in-Err.fault _ _ c.requires c.in-Err.ensures.answer
