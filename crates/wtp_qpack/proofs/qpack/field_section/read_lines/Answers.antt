use Rattle.std.proofs.Common.{[], ◌∷◌, ◌++◌, ◌∙◌, sym, ap, refl, map}
use Rattle.wtp_qpack.specs.Field.{field_map, field_of}
use Rattle.wtp_qpack.proofs.SectionReading.{put_entry, line_shorter, lines_more, map_push}
use Rattle.wtp_qpack.proofs.qpack.field_section.read_lines.Goals as goal

pub loop-rest-init : goal.loop-rest-init
unfolding field_map
loop-rest-init c = ([], refl, ap (map field_of) c.new-fields.ensures.empty)

pub loop-rest-smaller : goal.loop-rest-smaller
loop-rest-smaller c = line_shorter _ _ _ _ c.in_ok-line.ensures.read

pub loop-rest-preserved : goal.loop-rest-preserved
loop-rest-preserved c =
    let kept = c.loop-rest.invariant in
    let put_in = ap (map field_of) c.in_ok-insert.ensures.entries ∙ put_entry c.loop-rest.fields.entries c.in_ok-line.line.name c.in_ok-line.line.value in
    let named = rw kept.2 at put_in in
    (kept.0 ++ _ ∷ [], lines_more _ kept.0 _ _ _ kept.1 c.in_ok-line.ensures.read, named ∙ sym (map_push kept.0 _))
