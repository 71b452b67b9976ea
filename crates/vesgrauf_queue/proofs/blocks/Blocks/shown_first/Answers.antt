use Rattle.std.proofs.Common.{◌∙◌, ap, sym, take, arith}
use Rattle.vesgrauf_queue.proofs.PieceLemmas.{take-least, shown-empty}
use Rattle.vesgrauf_queue.proofs.blocks.Blocks.shown_first.Goals as goal

pub returns-clause-bytes : goal.returns-clause-bytes
returns-clause-bytes c =
    take-least 16384 c.min.result c.first-piece.result.now (omega (arith, c.min.ensures))
    ∙ ap (take 16384) c.first-piece.ensures.bytes

pub returns-clause-filled : goal.returns-clause-filled
returns-clause-filled c = λ e.
    c.first-piece.ensures.filled (shown-empty 16384 c.first-piece.result.now (omega arith)
    (sym (take-least 16384 c.min.result c.first-piece.result.now (omega (arith, c.min.ensures))) ∙ e))
