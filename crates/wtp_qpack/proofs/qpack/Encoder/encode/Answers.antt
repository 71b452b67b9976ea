use Rattle.std.proofs.Common.{◌∙◌, sym, ap, ◌++◌}
use Rattle.wtp_qpack.specs.Field.{field_of_texts}
use Rattle.wtp_qpack.specs.FieldLine.{encoded_line}
use Rattle.wtp_qpack.specs.FieldSection.{section_of}
use Rattle.wtp_qpack.proofs.SectionWriting.{section_push, texts_push}
use Rattle.wtp_qpack.proofs.qpack.Encoder.encode.Goals as goal

pub loop-name-init : goal.loop-name-init
unfolding section_of
loop-name-init g c = record { texts = tt; so_far = c.in_ok-out.ensures }

pub loop-name-preserved : goal.loop-name-preserved
loop-name-preserved g c = record {
  texts = texts_push field_of_texts c.loop-name.yielded (c.in-Some.name, c.in-Some.value) c.loop-name.invariant.texts c.in_ok-write.ensures.texts;
  so_far =
      c.in_ok-write.ensures.ok ∙ ap (λ z. z ++ encoded_line (c.in-Some.name.now, c.in-Some.value.now)) c.loop-name.invariant.so_far
      ∙ sym (section_push field_of_texts c.loop-name.yielded (c.in-Some.name, c.in-Some.value));
}

pub returns : goal.returns
returns g c = rw (← c.into_iter-name-iterator.ensures.into_iter_gives) (c.loop-name.yielded, (c.next.new.self, (c.loop-name.name-iterator, c.loop-name.yielded_by, c.in-None.ensures.steps)), c.loop-name.invariant.texts, c.loop-name.invariant.so_far)
