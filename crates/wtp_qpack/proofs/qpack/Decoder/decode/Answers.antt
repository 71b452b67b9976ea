use Rattle.wtp_qpack.specs.Field.{fields_of}
use Rattle.wtp_qpack.proofs.SectionReading.{section_given, map_no_lines, prefix_not_memory}
use Rattle.wtp_qpack.proofs.qpack.Decoder.decode.Goals as goal

pub returns-in-Ok-clause-read : goal.returns-in-Ok-clause-read
returns-in-Ok-clause-read c = section_given fields_of c.read_lines.result _ _ c.in-Ok.ensures c.read_lines.ensures.found c.read_lines.ensures.fault

pub returns-in-Ok-clause-memory : goal.returns-in-Ok-clause-memory
returns-in-Ok-clause-memory c = λ memory.
    let found = c.read_lines.ensures.memory memory in
    record {
      reached = record { lines = c.in-Ok.lines.now; fields = found.0; rest = found.1; prefix = c.in-Ok.ensures; good = found.2; some = found.3 };
      needs = found.4;
    }

pub returns-in-Err-clause-read : goal.returns-in-Err-clause-read
returns-in-Err-clause-read c = λ other. map_no_lines _ _ c.in-Err.ensures

pub returns-in-Err-clause-memory : goal.returns-in-Err-clause-memory
returns-in-Err-clause-memory c = λ memory. absurd (prefix_not_memory c.args.section.now (cc (c.in-Err.ensures, memory)))
