use Rattle.std.proofs.Common.{arith}
use Rattle.wt_bench.proofs.BodyLemmas.{data_goes_on, frame_goes_on, skipped_goes_on, more_goes_on, all_read}
use Rattle.wt_bench.proofs.connection.advance.Goals as goal

pub returns-in-Ok-clause-ended : goal.returns-in-Ok-clause-ended
returns-in-Ok-clause-ended c = all_read c.args.reader.now c.next.new.self c.args.at c.args.bytes.now c.in-More.n c.requires (rw c.in-More.is at c.next.ensures.step) (omega (arith, c.if-end-bytes.true))

pub returns-in-Data-clause-read : goal.returns-in-Data-clause-read
returns-in-Data-clause-read c = data_goes_on c.args.reader.now c.next.new.self c.args.at c.args.bytes.now c.in-Data.from c.in-Data.to c.requires (rw c.in-Data.is at c.next.ensures.step)

pub returns-in-Frame-clause-read : goal.returns-in-Frame-clause-read
returns-in-Frame-clause-read c = frame_goes_on c.args.reader.now c.next.new.self c.args.at c.args.bytes.now c.in-Frame.field-0 c.in-Frame.field-1 c.in-Frame.n c.requires (rw c.in-Frame.is at c.next.ensures.step)

pub returns-in-TooLarge-clause-read : goal.returns-in-TooLarge-clause-read
returns-in-TooLarge-clause-read c = skipped_goes_on c.args.reader.now c.next.new.self c.args.at c.args.bytes.now c.in-TooLarge.field-0 c.in-TooLarge.n c.requires (rw c.in-TooLarge.is at c.next.ensures.step)

pub returns-else-end-bytes-clause-read : goal.returns-else-end-bytes-clause-read
returns-else-end-bytes-clause-read c = more_goes_on c.args.reader.now c.next.new.self c.args.at c.args.bytes.now c.in-More.n c.min-end.result c.requires (rw c.in-More.is at c.next.ensures.step) (omega (arith, c.saturating_add.ensures, c.min-end.ensures, c.requires.came)) (omega (arith, c.min-end.ensures))
