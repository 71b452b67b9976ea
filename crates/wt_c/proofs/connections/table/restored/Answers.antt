use Rattle.wt_c.proofs.TableLemmas.{after_due, no_count, no_decoder, no_room}
use Rattle.wt_c.proofs.connections.table.restored.Goals as goal

pub returns-in_default-due_at : goal.returns-in_default-due_at
returns-in_default-due_at c = λ _.
    no_count c.args.bytes.now c.in-Some.rest.now c.in-Some-take_word.rest.now c.in-Some.flag c.in-Some-take_word.number c.in-Some.ensures.0 c.in-Some-take_word.ensures.0 c.in_default-due_at.ensures

pub returns-else-has_room : goal.returns-else-has_room
returns-else-has_room c = λ _.
    let is = after_due c.args.bytes.now c.in-Some.rest.now c.in-Some-take_word.rest.now c.in-Some.flag c.in-Some-take_word.number c.in-Some-due_at.due c.in-Some.ensures.0 c.in-Some-take_word.ensures.0 c.in-Some-due_at.ensures.0 in
    no_room c.args.bytes.now c.in-Some-take_word.rest.now c.in-Some-due_at.due c.in-Ok-Some.decoder is c.in-Some-due_at.ensures.1 (rw c.in-Ok-Some.field-0-is at c.in-Ok-Some.ensures) c.if-has_room.ensures

pub returns-in-Ok-None : goal.returns-in-Ok-None
returns-in-Ok-None c = λ _.
    let is = after_due c.args.bytes.now c.in-Some.rest.now c.in-Some-take_word.rest.now c.in-Some.flag c.in-Some-take_word.number c.in-Some-due_at.due c.in-Some.ensures.0 c.in-Some-take_word.ensures.0 c.in-Some-due_at.ensures.0 in
    no_decoder c.args.bytes.now c.in-Some-take_word.rest.now c.in-Some-due_at.due is c.in-Some-due_at.ensures.1 (rw c.in-Ok-None.field-0-is at c.in-Ok-None.ensures)
