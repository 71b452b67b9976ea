use Rattle.wt_c.proofs.FieldLemmas.{text_after}
use Rattle.wt_c.proofs.fields.put_text.Goals as goal

pub returns-clause-after : goal.returns-clause-after
returns-clause-after c =
    let first = c.in_ok-out.ensures.cases in
    let second = c.in_ok-room.ensures.cases in
    text_after c.args.at c.args.out.now c.in_ok-out.field-0-0.now c.in_ok-out.room.now c.args.text.now c.copy_from_slice.new.self c.in_ok-room.field-0-1.now first.1 first.3 c.copy_from_slice.ensures.after second.3
