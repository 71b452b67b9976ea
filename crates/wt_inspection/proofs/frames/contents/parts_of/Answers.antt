use Rattle.std.proofs.Common.{◌≡◌, true, Ok, sym, ◌∙◌}
use Rattle.wt_inspection_model.specs.Names.{frame_name_of}
use Rattle.wt_inspection.specs.Recording.{is_data}
use Rattle.wt_inspection.proofs.WalkLemmas.{ok_map}
use Rattle.wt_inspection.proofs.MessageLemmas.{data_has}
use Rattle.wt_inspection.proofs.frames.contents.parts_of.Goals as goal

pub returns-then-is_data-clause-parts : goal.returns-then-is_data-clause-parts
returns-then-is_data-clause-parts c =
    let is : is_data (frame_name_of c.args.number) ≡ true = sym c.is_data.ensures ∙ c.if-is_data.true in
    ok_map _ _ c.data_parts.result
    (λ f h. data_has (frame_name_of c.args.number) c.args.place.at c.args.payload.now f.parts (Ok c.args.next) f.after is (h c.args.place.at))
    c.data_parts.ensures.parts
