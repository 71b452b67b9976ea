use Rattle.std.proofs.Common.{refl}
use Rattle.wtp_frames.proofs.FirstLemmas.{then_first, first_frame, first_data, first_too_large, first_more, first_fault}
use Rattle.wtp_frames.proofs.StepLemmas.{moved_none, moved_on, step_frame, step_data, step_too_large, step_more, step_fault}
use Rattle.wtp_frames.proofs.reader.Reader.next.Goals as goal

pub moves-init : goal.moves-init
moves-init c = (moved_none c.args.self.now c.args.bytes.now, refl)

pub returns-in-Whole-clause-step : goal.returns-in-Whole-clause-step
returns-in-Whole-clause-step c = step_frame c.args.self.now c.moves.self _ c.args.bytes.now c.moves.at c.in-Whole.kind c.in-Whole.start c.in-Whole.end c.moves.invariant.0 (rw c.split_at.ensures.back at c.in-Whole.ensures.moves)

pub returns-in-Streamed-clause-step : goal.returns-in-Streamed-clause-step
returns-in-Streamed-clause-step c = step_data c.args.self.now c.moves.self _ c.args.bytes.now c.moves.at c.in-Streamed.n c.moves.invariant.0 (rw c.split_at.ensures.back at c.in-Streamed.ensures.moves)

pub returns-in-TooLarge-clause-step : goal.returns-in-TooLarge-clause-step
returns-in-TooLarge-clause-step c = step_too_large c.args.self.now c.moves.self _ c.args.bytes.now c.moves.at c.in-TooLarge.size c.in-TooLarge.n c.moves.invariant.0 (rw c.split_at.ensures.back at c.in-TooLarge.ensures.moves)

pub returns-in-Stuck-clause-step : goal.returns-in-Stuck-clause-step
returns-in-Stuck-clause-step c = step_more c.args.self.now c.moves.self _ c.args.bytes.now c.moves.at c.moves.invariant.0 (rw c.split_at.ensures.back at c.in-Stuck.ensures.moves)

pub returns-in-Failed-clause-step : goal.returns-in-Failed-clause-step
returns-in-Failed-clause-step c = step_fault c.args.self.now c.moves.self _ c.args.bytes.now c.moves.at c.in-Failed.fault c.moves.invariant.0 (rw c.split_at.ensures.back at c.in-Failed.ensures.moves)

pub moves-preserved : goal.moves-preserved
moves-preserved c = (
  moved_on c.args.self.now c.moves.self _ c.args.bytes.now c.moves.at c.in-Passed.n c.moves.invariant.0 (rw c.split_at.ensures.back at c.in-Passed.ensures.moves),
  then_first c.args.self.now c.moves.self _ c.args.bytes.now c.moves.at c.in-Passed.n c.moves.invariant.1 (rw c.split_at.ensures.back at c.in-Passed.ensures.exact) (rw c.split_at.ensures.back at c.in-Passed.ensures.moves).within.0 (rw c.split_at.ensures.back at c.in-Passed.ensures.moves).within.1,
)

pub returns-in-Whole-clause-first : goal.returns-in-Whole-clause-first
returns-in-Whole-clause-first c = first_frame c.args.self.now c.moves.self _ c.args.bytes.now c.moves.at c.in-Whole.kind c.in-Whole.start c.in-Whole.end c.moves.invariant.1 (rw c.split_at.ensures.back at c.in-Whole.ensures.exact)

pub returns-in-Streamed-clause-first : goal.returns-in-Streamed-clause-first
returns-in-Streamed-clause-first c = first_data c.args.self.now c.moves.self _ c.args.bytes.now c.moves.at c.in-Streamed.n c.moves.invariant.1 (rw c.split_at.ensures.back at c.in-Streamed.ensures.exact) (rw c.split_at.ensures.back at c.in-Streamed.ensures.moves).within.0 (rw c.split_at.ensures.back at c.in-Streamed.ensures.moves).within.1

pub returns-in-TooLarge-clause-first : goal.returns-in-TooLarge-clause-first
returns-in-TooLarge-clause-first c = first_too_large c.args.self.now c.moves.self _ c.args.bytes.now c.moves.at c.in-TooLarge.size c.in-TooLarge.n c.moves.invariant.1 (rw c.split_at.ensures.back at c.in-TooLarge.ensures.exact)

pub returns-in-Stuck-clause-first : goal.returns-in-Stuck-clause-first
returns-in-Stuck-clause-first c = first_more c.args.self.now c.moves.self _ c.args.bytes.now c.moves.at c.moves.invariant.1 (rw c.split_at.ensures.back at c.in-Stuck.ensures.exact)

pub returns-in-Failed-clause-first : goal.returns-in-Failed-clause-first
returns-in-Failed-clause-first c = first_fault c.args.self.now c.moves.self _ c.args.bytes.now c.moves.at c.in-Failed.fault c.moves.invariant.1 (rw c.split_at.ensures.back at c.in-Failed.ensures.exact)
