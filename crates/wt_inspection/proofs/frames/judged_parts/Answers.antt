use Rattle.std.proofs.Common.{◌+◌, Ok}
use Rattle.wt_inspection_model.specs.Names.{frame_name_of}
use Rattle.wt_inspection.specs.Recording.{name_fault, still_first}
use Rattle.wt_inspection.specs.declared.reading.Next.TheVariants.{Frames}
use Rattle.wt_inspection.proofs.MessageLemmas.{any_after, refused_takes}
use Rattle.wt_inspection.proofs.frames.judged_parts.Goals as goal

pub returns-in-Some-clause-stage : goal.returns-in-Some-clause-stage
returns-in-Some-clause-stage c = λ stage h.
    let name = frame_name_of c.args.number in
    (stage, refused_takes (name_fault c.args.role c.args.first name) c.in-Some.code c.args.role name (c.args.place.at + c.args.place.head) c.args.payload.now c.refused.result.parts (Ok (Frames c.args.role (still_first c.args.first name))) c.refused.result.after stage (cc), any_after c.refused.result.after c.args.reading.now.phase stage h)
