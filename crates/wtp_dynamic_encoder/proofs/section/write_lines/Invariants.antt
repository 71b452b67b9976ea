use Rattle.std.proofs.Common.{take}
use Rattle.wtp_dynamic_encoder.specs.Encoding.{AreLines}
use Rattle.wtp_dynamic_encoder.proofs.section.write_lines.Given as goal

abbrev pub invariant-loop-i : goal.invariant-loop-i
invariant-loop-i l =
    AreLines l.table l.low l.bound (take l.i l.proposals) l.lines.bytes.items l.lines.required l.lines.lowest
