use Rattle.std.proofs.Common.{◌+◌}
use Rattle.wt_inspection_model.specs.Names.{frame_name_of}
use Rattle.wt_inspection.specs.Recording.{name_fault}
use Rattle.wt_inspection.proofs.MessageLemmas.{any_after, refused_cut_takes}
use Rattle.wt_inspection.proofs.frames.judged_cut.Goals as goal

pub returns-in-Some-clause-stage : goal.returns-in-Some-clause-stage
returns-in-Some-clause-stage c = λ stage h.
    let name = frame_name_of c.args.number in
    (stage, refused_cut_takes (name_fault c.args.role c.args.first name) c.in-Some.code c.args.role name c.args.place.at c.args.missing (c.args.place.at + c.args.place.head) c.args.present.now c.refused.result.parts c.refused.result.after stage (cc), any_after c.refused.result.after c.args.reading.now.phase stage h)
