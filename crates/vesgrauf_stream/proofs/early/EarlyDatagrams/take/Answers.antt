use Rattle.std.proofs.Common.{rules, sym, ap, ◌∙◌, ◌<◌, length}
use Rattle.std.proofs.lemmas.List.{get_or_default}
use Rattle.vesgrauf_stream.specs.declared.early.Datagram.{Datagram}
use Rattle.vesgrauf_stream.proofs.EarlyLemmas.{taken_here, none_taken}
use Rattle.vesgrauf_stream.proofs.early.EarlyDatagrams.take.Goals as goal

pub returns-then-index-session : goal.returns-then-index-session
returns-then-index-session c =
    let xs = c.loop-i.self-inside.datagrams.items in
    let inside : c.loop-i.i < length xs = search rules in
    let read =
    c.remove.ensures.value
    ∙ get_or_default xs c.loop-i.i c.remove.result c.index.result.now inside
    ∙ sym c.index.ensures in
    let same = ap (λ (d : Datagram). d.session) read ∙ c.if-index-session.true in
    let found =
    taken_here xs c.loop-i.i c.args.session c.remove.result inside c.remove.ensures.value same in
    rw (c.remove.ensures.items) (sym found ∙ sym c.loop-i.invariant)

pub returns : goal.returns
returns c =
    sym (none_taken c.loop-i.self-inside.datagrams.items c.loop-i.i c.args.session (search rules))
    ∙ sym c.loop-i.invariant
