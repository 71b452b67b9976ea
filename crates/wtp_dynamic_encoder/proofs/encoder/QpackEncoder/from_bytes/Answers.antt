use Rattle.std.proofs.Common.{arith}
use Rattle.wtp_dynamic_encoder.proofs.Waiting.{listed_few}
use Rattle.wtp_dynamic_encoder.proofs.Remaking.{no_ledger, no_room, no_entries, no_cut, made, made_again}
use Rattle.wtp_dynamic_encoder.proofs.encoder.QpackEncoder.from_bytes.Goals as goal

pub returns-in-Ok-None : goal.returns-in-Ok-None
returns-in-Ok-None c = no_ledger c.args.bytes.now c.in-Some.front.head c.in-Some.front.bounds c.in-Some.front.held.now c.in-Some.front.rest.now c.in-Some.ensures (rw c.in-Ok-None.field-0-is at c.in-Ok-None.ensures)

pub returns-then-waiting-front : goal.returns-then-waiting-front
returns-then-waiting-front c = no_room c.args.bytes.now c.in-Some.front.head c.in-Some.front.bounds c.in-Some.front.held.now c.in-Some.front.rest.now c.in-Ok-Some.found.1.now c.in-Ok-Some.found.0 c.in-Some.ensures (rw c.in-Ok-Some.field-0-is at c.in-Ok-Some.ensures) (omega (arith, c.waiting.ensures, c.if-waiting-front.true))

pub returns-in-Ok-None-take_table : goal.returns-in-Ok-None-take_table
returns-in-Ok-None-take_table c = no_entries c.args.bytes.now c.in-Some.front.head c.in-Some.front.bounds c.in-Some.front.held.now c.in-Some.front.rest.now c.in-Ok-Some.found.1.now c.in-Ok-Some.found.0 c.in-Some.ensures (rw c.in-Ok-Some.field-0-is at c.in-Ok-Some.ensures) (rw c.in-Ok-None-take_table.field-0-is at c.in-Ok-None-take_table.ensures)

pub returns-in-Ok-None-resume : goal.returns-in-Ok-None-resume
returns-in-Ok-None-resume c = no_cut c.args.bytes.now c.in-Some.front.head c.in-Some.front.bounds c.in-Some.front.held.now c.in-Some.front.rest.now c.in-Some.ensures (rw c.in-Ok-None-resume.field-0-is at c.in-Ok-None-resume.ensures)

pub with_parts-requires-clause-few : goal.with_parts-requires-clause-few
with_parts-requires-clause-few c = listed_few c.in-Some.front.bounds.most c.in-Ok-Some.found.0.0 c.in-Ok-Some.found.0.1 (omega (arith, c.waiting.ensures, c.if-waiting-front.false))

pub returns : goal.returns
returns c =
    let has = rw c.in-Ok-Some.field-0-is at c.in-Ok-Some.ensures in
    let table = rw c.in-Ok-Some-take_table.field-0-is at c.in-Ok-Some-take_table.ensures in
    let resumed = rw c.in-Ok-Some-resume.field-0-is at c.in-Ok-Some-resume.ensures in
    let few = listed_few c.in-Some.front.bounds.most c.in-Ok-Some.found.0.0 c.in-Ok-Some.found.0.1 (omega (arith, c.waiting.ensures, c.if-waiting-front.false)) in
    made_again c.args.bytes.now c.with_parts.result c.in-Some.front.bounds c.in-Ok-Some-take_table.table c.in_ok-table.table c.in-Ok-Some.found.0 c.with_parts.ensures.0 c.in-Some.front.held.now c.in-Ok-Some-resume.decoder c.with_parts.ensures.2 c.in_ok-table.ensures resumed.0
    (made c.args.bytes.now c.in-Some.front.head c.in-Some.front.bounds c.in-Some.front.held.now c.in-Some.front.rest.now c.in-Ok-Some.found.1.now c.in-Ok-Some.found.0 c.in-Ok-Some-take_table.table c.with_parts.ensures.0 c.in-Some.ensures has few table resumed.1 c.with_parts.ensures.1)
