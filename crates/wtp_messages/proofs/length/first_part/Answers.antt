use Rattle.std.proofs.Common.{rules, arith, refl, sym, ◌∙◌}
use Rattle.wtp_messages.proofs.LengthLemmas.{no_comma, at_comma, whole_text}
use Rattle.wtp_messages.proofs.length.first_part.Goals as goal

pub returns-then-text-i-eq44-clause-parts : goal.returns-then-text-i-eq44-clause-parts
returns-then-text-i-eq44-clause-parts c =
    rw (c.split_at.ensures.front, c.split_at-then-text-i-eq44.ensures.back) (sym c.loop-i.invariant ∙ at_comma c.args.text.now c.loop-i.i c.loop-i-test.true (rw c.if-text-i-eq44.true refl))

pub loop-i-preserved : goal.loop-i-preserved
loop-i-preserved c = sym (no_comma c.args.text.now c.loop-i.i c.loop-i-test.true (search rules)) ∙ c.loop-i.invariant

pub returns-clause-parts : goal.returns-clause-parts
returns-clause-parts c = sym c.loop-i.invariant ∙ whole_text c.args.text.now c.loop-i.i (omega (arith, c.loop-i-test.false))
