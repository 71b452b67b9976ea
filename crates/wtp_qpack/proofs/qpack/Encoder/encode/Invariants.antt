use Rattle.std.proofs.Common.{◌≡◌}
use Rattle.wtp_qpack.specs.Field.{AreTexts, fields_of_texts}
use Rattle.wtp_qpack.specs.FieldSection.{section_of}
use Rattle.wtp_qpack.proofs.qpack.Encoder.encode.Given as goal

abbrev pub invariant-loop-name : goal.invariant-loop-name
invariant-loop-name g l =
    record {
      texts : AreTexts (fields_of_texts l.yielded);
      so_far : l.out.items ≡ section_of (fields_of_texts l.yielded);
    }
