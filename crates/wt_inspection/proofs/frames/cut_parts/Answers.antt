use Rattle.std.proofs.Common.{◌≡◌, true, false, Err, sym, ◌∙◌}
use Rattle.wt_inspection_model.specs.Names.{frame_name_of}
use Rattle.wt_inspection.specs.Recording.{is_data}
use Rattle.wt_inspection.proofs.WalkLemmas.{ok_map}
use Rattle.wt_inspection.proofs.MessageLemmas.{cut_part, opaque_leads}
use Rattle.wt_inspection.proofs.frames.cut_parts.Goals as goal

pub returns-then-is_data-clause-parts : goal.returns-then-is_data-clause-parts
returns-then-is_data-clause-parts c =
    let is : is_data (frame_name_of c.args.number) ≡ true = sym c.is_data.ensures ∙ c.if-is_data.true in
    ok_map _ _ c.data_parts.result
    (λ f h. cut_part (frame_name_of c.args.number) f.parts 0 c.args.present.now (Err c.args.end) f.after is (h 0))
    c.data_parts.ensures.parts

pub returns-clause-stage : goal.returns-clause-stage
returns-clause-stage c =
    let other : is_data (frame_name_of c.args.number) ≡ false = sym c.is_data.ensures ∙ c.if-is_data.false in
    opaque_leads c.args.role (frame_name_of c.args.number) c.args.reading.now.phase c.args.at c.args.present.now (Err c.args.end) (Err c.args.end) other
