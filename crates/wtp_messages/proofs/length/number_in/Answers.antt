use Rattle.std.proofs.Common.{drop, slice_index, suc}
use Rattle.std.proofs.Math.Seq.{drop-cons}
use Rattle.wtp_messages.proofs.LengthLemmas.{no_number}
use Rattle.wtp_messages.proofs.length.number_in.Goals as goal

pub returns-in_default : goal.returns-in_default
returns-in_default c =
    let text = c.args.text.now in
    let front = drop-cons text c.loop-byte.byte-index 0 c.loop-byte-test.true in
    no_number text (drop (suc c.loop-byte.byte-index) text) c.loop-byte.number (slice_index text c.loop-byte.byte-index) (rw front at c.loop-byte.invariant.value) (rw front at c.loop-byte.invariant.digits) c.in_default.ensures
