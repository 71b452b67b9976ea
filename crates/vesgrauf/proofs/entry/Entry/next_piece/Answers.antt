use Rattle.std.proofs.Common.{refl}
use Rattle.vesgrauf_stream.specs.declared.bytes.Bytes.TheVariants.{Input}
use Rattle.vesgrauf.proofs.ActLemmas.{reads_piece}
use Rattle.vesgrauf.proofs.PieceLemmas.{looked_piece}
use Rattle.vesgrauf.proofs.entry.Entry.next_piece.Goals as goal

pub returns-clause-reads : goal.returns-clause-reads
returns-clause-reads c = looked_piece c.args.self.now (record c.args.self.now { reading = c.next_piece.new.self })
    c.args.shared.now c.next_piece.new.shared c.args.chunk.now c.next_piece.new.input (Input c.in_ok-bytes.bytes)
    (c.gives_pieces.ensures.reads c.if-not-gives_pieces.false)
    (c.gives_pieces.ensures.content c.if-not-gives_pieces.false)
    (c.gives_pieces.ensures.open c.if-not-gives_pieces.false) refl refl c.next_piece.ensures.ended
    c.in_ok-bytes.ensures.heard

pub returns-clause-table : goal.returns-clause-table
returns-clause-table c = λ id bytes. reads_piece c.args.self.now (record c.args.self.now { reading = c.next_piece.new.self })
    (Input c.in_ok-bytes.bytes) c.args.shared.now c.next_piece.new.shared c.args.chunk.now c.next_piece.new.input id bytes
    c.in_ok-bytes.ensures.heard
