use Rattle.std.proofs.Common.{rules, arith, []}
use Rattle.wtp_wire.proofs.OverwrittenLemmas.{slice-cut, parts-above}
use Rattle.wtp_wire.proofs.settings.Settings.write_to.Goals as goal

pub returns-in-Err-clause-room : goal.returns-in-Err-clause-room
returns-in-Err-clause-room c =
    let parts = rw (c.new-writer.ensures.written, c.new-writer.ensures.room, c.in-Err.is) at c.write_payload.ensures.parts in
    let above = parts-above _ _ [] _ _ _ parts in
    (λ no. absurd cc, λ fits. absurd (omega arith))

pub returns-in-Err-clause-bytes : goal.returns-in-Err-clause-bytes
returns-in-Err-clause-bytes c =
    let parts = rw (c.new-writer.ensures.written, c.new-writer.ensures.room, c.in-Err.is) at c.write_payload.ensures.parts in
    slice-cut _ _ _ c.write_payload.new.writer.buffer.now _ _ (search rules) (search rules) parts
