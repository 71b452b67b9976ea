use Rattle.std.proofs.Common.{sym, ◌∙◌, ap}
use Rattle.wtp_messages.specs.Length.{without_end}
use Rattle.wtp_messages.proofs.LengthLemmas.{end_blank, end_not_blank}
use Rattle.wtp_messages.proofs.length.trim_end.Goals as goal

pub returns-then-not-is_blank : goal.returns-then-not-is_blank
returns-then-not-is_blank c =
    let e = c.in-Some.ensures.cases.0 in
    e ∙ sym (end_not_blank c.in-Some.others.now c.in-Some.last.now (sym c.if-not-is_blank.ensures)) ∙ ap without_end (sym e) ∙ c.loop-last.invariant

pub loop-last-preserved : goal.loop-last-preserved
loop-last-preserved c = sym (end_blank c.in-Some.others.now c.in-Some.last.now (sym c.if-not-is_blank.ensures)) ∙ ap without_end (sym c.in-Some.ensures.cases.0) ∙ c.loop-last.invariant
