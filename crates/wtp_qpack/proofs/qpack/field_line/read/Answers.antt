use Rattle.std.proofs.Common.{arith}
use Rattle.wtp_qpack.proofs.LineReading.{line_none, line_form, coded_form}
use Rattle.wtp_qpack.proofs.qpack.field_line.read.Goals as goal

pub returns-in-empty-clause-read : goal.returns-in-empty-clause-read
returns-in-empty-clause-read c = λ other. line_none c.args.texts _ c.in-empty.len_below

pub returns-in-len1-up-clause-read : goal.returns-in-len1-up-clause-read
returns-in-len1-up-clause-read c = rw (line_form c.args.texts c.args.bytes.now c.in-len1-up.len_at_least, ← c.representation_of.ensures) c.read_as.ensures.read

pub returns-in-len1-up-clause-once : goal.returns-in-len1-up-clause-once
returns-in-len1-up-clause-once c = rw (coded_form c.args.texts c.args.bytes.now c.in-len1-up.len_at_least, ← c.representation_of.ensures, ← c.clear.ensures.capacity) c.read_as.ensures.once

pub returns-in-len1-up-clause-memory : goal.returns-in-len1-up-clause-memory
returns-in-len1-up-clause-memory c = λ memory.
    let lacks = c.read_as.ensures.memory memory in
    (rw (coded_form c.args.texts c.args.bytes.now c.in-len1-up.len_at_least, ← c.representation_of.ensures) lacks.0, omega (arith, lacks.1, c.clear.ensures.capacity))
