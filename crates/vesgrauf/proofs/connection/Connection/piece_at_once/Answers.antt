use Rattle.std.proofs.Common.{◌∙◌}
use Rattle.vesgrauf.specs.Items.{content}
use Rattle.vesgrauf.proofs.PieceLemmas.{content_goes_on, piece_tells}
use Rattle.vesgrauf.proofs.connection.Connection.piece_at_once.Goals as goal

pub returns-clause-tells : goal.returns-clause-tells
returns-clause-tells c = λ h. piece_tells c.args.id c.in_ok-piece.piece.stream (content c.in_ok-piece.piece.bytes.now)
    c.args.self.now.streams.entries c.piece_in.new.self.streams.entries c.args.input.now c.count_read.new.self
    c.end_if_read.new.self c.in_ok-piece.ensures.stream h (c.count_read.ensures.report ∙ h)
    (rw c.count_read.ensures.chunk c.in_ok-piece.ensures.reads) c.end_if_read.ensures (content_goes_on c.in_ok-piece.piece.bytes.now)
