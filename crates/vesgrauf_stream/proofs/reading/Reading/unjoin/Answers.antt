use Rattle.std.proofs.Common.{◌≡◌, ◌+◌, ◌≤◌, length, ℕ, List, sym, rules, arith, length-drop}
use Rattle.vesgrauf_stream.proofs.ReadingLemmas.{read_within, read_beyond}
use Rattle.vesgrauf_stream.proofs.reading.Reading.unjoin.Goals as goal

pub returns-then-consumed-kept-clause-left : goal.returns-then-consumed-kept-clause-left
returns-then-consumed-kept-clause-left c =
    let b : List ℕ = c.args.self.now.buffer.items in
    let used : ℕ = c.args.self.now.used in
    let size : length b ≡ c.len.result = search rules in
    let fits : used + c.args.joined ≤ length b = omega (arith, c.args.self.now.within, c.requires, length-drop used b, size, c.len.ensures) in
    rw (c.truncate.ensures.items, sym size)
    (read_within b c.args.input.now.bytes.now used c.args.joined c.args.consumed fits (omega (arith, fits, size, c.if-consumed-kept.true)))

pub returns-else-consumed-kept-clause-left : goal.returns-else-consumed-kept-clause-left
returns-else-consumed-kept-clause-left c =
    let b : List ℕ = c.args.self.now.buffer.items in
    let used : ℕ = c.args.self.now.used in
    let size : length b ≡ c.len.result = search rules in
    let fits : used + c.args.joined ≤ length b = omega (arith, c.args.self.now.within, c.requires, length-drop used b, size, c.len.ensures) in
    rw (c.truncate.ensures.items, c.consume.ensures.bytes, sym size)
    (read_beyond b c.args.input.now.bytes.now used c.args.joined c.args.consumed fits (omega (arith, fits, size, c.if-consumed-kept.false)))
