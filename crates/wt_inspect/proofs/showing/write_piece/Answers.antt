use Rattle.std.proofs.Common.{[]}
use Rattle.wt_inspect.specs.Drawing.{paints}
use Rattle.wt_inspect.proofs.SheetLemmas.{draws_none, so_far_same}
use Rattle.wt_inspect.proofs.showing.write_piece.Goals as goal

pub returns-then-len-lt-PIECE_LEN-clause-writes : goal.returns-then-len-lt-PIECE_LEN-clause-writes
returns-then-len-lt-PIECE_LEN-clause-writes g c = λ format k text far.
    ([], draws_none (paints format c.args.colors) (g.W.Write.contents c.args.output.now), so_far_same format k text c.args.sheet.now far)
