use Rattle.std.proofs.Common.{◌≤◌, length, refl, arith}
use Rattle.vesgrauf_stream.specs.Reading.{kept_of}
use Rattle.vesgrauf_stream.specs.declared.bytes.Bytes.TheVariants.{Input}
use Rattle.vesgrauf_stream.proofs.PieceLemmas.{none_left, piece_heard}
use Rattle.vesgrauf_stream.proofs.reading.Reading.next_piece.Goals as goal

pub returns-clause-heard : goal.returns-clause-heard
returns-clause-heard c =
    let none : length (kept_of c.args.self.now) ≤ 0 = omega (arith, c.len.ensures, c.if-len-gt0.false) in
    piece_heard c.args.shared.now c.receive_piece.new.self c.args.self.now _ c.args.input.now c.consume.new.self
    (Input c.in_ok-consumed.piece) c.in_ok-consumed.consumed (none_left (kept_of c.args.self.now) none)
    c.in_ok-consumed.ensures refl refl c.consume.ensures.bytes c.consume.ensures.fin
