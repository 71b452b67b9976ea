use Rattle.std.proofs.Common.{arith, sym, subst, List}
use Rattle.std.proofs.lemmas.List.{take_more}
use Rattle.wtp_dynamic_encoder.specs.declared.proposal.Proposal.{Proposal}
use Rattle.wtp_dynamic_encoder.specs.Encoding.{AreLines}
use Rattle.wtp_dynamic_encoder.proofs.KeyLists.{key_here}
use Rattle.wtp_dynamic_encoder.proofs.Sections.{lines_fit}
use Rattle.wtp_dynamic_encoder.proofs.section.write_lines.Goals as goal

pub loop-i-preserved : goal.loop-i-preserved
loop-i-preserved c =
    subst (λ (z : List Proposal). AreLines c.args.table.now c.args.low c.args.bound z c.add_line.new.lines.bytes.items c.add_line.new.lines.required c.add_line.new.lines.lowest)
    (sym (take_more c.args.proposals.now c.loop-i.i _ c.loop-i-test.true))
    (c.in_ok-add_line.ensures _ c.loop-i.invariant)

pub returns-clause-room : goal.returns-clause-room
returns-clause-room c = λ some.
    lines_fit c.args.table.now c.args.low c.args.bound _ _ _ _ c.args.table.now.capacity c.loop-i.invariant c.requires.bound (omega (arith, c.size.ensures.value, c.size.ensures.fits)) (omega (arith, c.capacity.ensures.value, c.capacity.ensures.within)) some

pub key_at-key-requires : goal.key_at-key-requires
key_at-key-requires c = key_here c.args.keys.now c.args.proposals.now c.loop-i.i _ c.requires.keys c.loop-i-test.true
