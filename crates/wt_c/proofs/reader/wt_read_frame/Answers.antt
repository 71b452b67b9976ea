use Rattle.std.proofs.Common.{refl}
use Rattle.wt_c.proofs.ReaderLemmas.{frame_step, more_reader}
use Rattle.wt_c.proofs.reader.wt_read_frame.Goals as goal

pub returns-in-Frame-clause-frame : goal.returns-in-Frame-clause-frame
returns-in-Frame-clause-frame c = λ _. (
  c.in-Frame.place,
  c.frame_at.ensures,
  refl,
  frame_step c.in-Frame.place c.args.reader.now c.in-Some.cursor c.next-step.new.self c.args.bytes.now c.in-Some.ensures.1 c.in-Frame.ensures.step c.in-Frame.ensures.run,
)

pub returns-in-More-clause-reader : goal.returns-in-More-clause-reader
returns-in-More-clause-reader c = λ is. more_reader c.in-More.passed c.args.reader.now c.in-Some.cursor c.next-step.new.self c.args.bytes.now c.in-Some.ensures.1 c.in-More.ensures.step is
