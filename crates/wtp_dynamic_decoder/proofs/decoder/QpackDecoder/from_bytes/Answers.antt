use Rattle.std.proofs.Common.{refl, arith}
use Rattle.wtp_dynamic_decoder.proofs.Kept.{too_short, no_head, no_held, no_entries, no_cut, made, made_view}
use Rattle.wtp_dynamic_decoder.proofs.decoder.QpackDecoder.from_bytes.Goals as goal

pub returns-in_default : goal.returns-in_default
returns-in_default c = too_short c.args.bytes.now c.in_default.ensures

pub returns-then-not-is_valid : goal.returns-then-not-is_valid
returns-then-not-is_valid c = no_head c.args.bytes.now c.in-Some.rest.now c.in-Some.head c.in-Some.ensures.1 c.in-Some.ensures.0 c.if-not-is_valid.ensures

pub returns-then-head-rest : goal.returns-then-head-rest
returns-then-head-rest c = no_held c.args.bytes.now c.in-Some.rest.now c.in-Some.head c.in-Some.ensures.1 c.in-Some.ensures.0 (omega arith)

pub returns-in-Ok-None : goal.returns-in-Ok-None
returns-in-Ok-None c = no_entries c.args.bytes.now c.in-Some.rest.now c.split_at.result.1.now c.in-Some.head c.in-Some.ensures.1 c.in-Some.ensures.0 c.split_at.ensures.back (rw c.in-Ok-None.field-0-is at c.in-Ok-None.ensures)

pub returns-in-Ok-None-resume : goal.returns-in-Ok-None-resume
returns-in-Ok-None-resume c = no_cut c.args.bytes.now c.in-Some.rest.now c.split_at.result.0.now c.split_at.result.1.now c.in-Some.head c.in-Ok-Some.table c.in-Some.ensures.1 c.in-Some.ensures.0 c.split_at.ensures.front (rw c.in-Ok-Some.field-0-is at c.in-Ok-Some.ensures) (rw c.in-Ok-None-resume.field-0-is at c.in-Ok-None-resume.ensures)

pub returns-in-Ok-Some-resume : goal.returns-in-Ok-Some-resume
returns-in-Ok-Some-resume c =
    let has = rw c.in-Ok-Some.field-0-is at c.in-Ok-Some.ensures in
    let resumed = rw c.in-Ok-Some-resume.field-0-is at c.in-Ok-Some-resume.ensures in
    made_view c.args.bytes.now c.in-Ok-Some-resume.encoder c.in-Ok-Some.table c.split_at.result.0.now c.fault_at.result c.in-Some.head.known c.new.result.items resumed.0 c.new.ensures.items
    (made c.args.bytes.now c.in-Some.rest.now c.split_at.result.0.now c.split_at.result.1.now c.in-Some.head c.in-Ok-Some.table c.fault_at.result c.if-not-is_valid.ensures c.in-Some.ensures.0 c.split_at.ensures.front c.split_at.ensures.back (omega arith) has resumed.1 c.fault_at.ensures)
