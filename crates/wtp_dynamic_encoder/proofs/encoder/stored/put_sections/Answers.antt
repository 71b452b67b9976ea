use Rattle.std.proofs.Common.{ap, ◌∙◌, arith}
use Rattle.wtp_dynamic_encoder.proofs.Storing.{one_section, one_stream, section_there}
use Rattle.wtp_dynamic_encoder.proofs.encoder.stored.put_sections.Goals as goal
use Rattle.wtp_dynamic_encoder.proofs.encoder.stored.put_sections.Goals.{in-Some+in_ok-put_section, in_default}

pub loop-place-preserved : goal.loop-place-preserved
loop-place-preserved c =
    elim c.match-get.branch [
      | in-Some+in_ok-put_section w ↦ record {
        bytes = one_section c.args.ledger.now.1 c.loop-place.place w.in-Some.sent c.args.out.now.items c.loop-place.out.items c.match-get.out.items w.in-Some.ensures c.loop-place.invariant.bytes (ap (λ x. x.items) w.out-is ∙ w.in_ok-put_section.ensures.bytes);
        streams = one_stream c.args.ledger.now.1 c.loop-place.place w.in-Some.sent w.in-Some.ensures c.loop-place.invariant.streams w.put_section.ensures.stream;
      }
      | in_default w ↦ absurd (section_there c.args.ledger.now.1 c.loop-place.place (omega arith) w.in_default.ensures)
    ]
