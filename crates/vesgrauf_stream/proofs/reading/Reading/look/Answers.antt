use Rattle.std.proofs.Common.{◌≤◌, length, ℕ, List, subst, sym, arith}
use Rattle.wtp_webtransport.specs.Events.{told_of}
use Rattle.vesgrauf_stream.proofs.ReadingLemmas.{call_fits, take_short}
use Rattle.vesgrauf_stream.proofs.reading.Reading.look.Goals as goal

pub kept_from-heard-requires-clause-room : goal.kept_from-heard-requires-clause-room
kept_from-heard-requires-clause-room c =
    let fits = call_fits c.args.fields.now.limit c.args.shared.now c.args.self.now.stream c.front-bytes.result.now c.args.fin (c.receive-received.result.consumed, told_of c.receive-received.result.event, c.receive-received.new.self, c.receive-received.new.stream) c.receive-received.ensures.received in
    let P : List ℕ → Type 0 = λ b. length b ≤ c.args.len in
    let short : length c.front-bytes.result.now ≤ c.args.len =
    subst P (sym c.front-bytes.ensures) (take_short c.args.len c.after-kept.result.now) in
    omega (arith, fits, short, c.requires.room)
