use Rattle.std.proofs.Common.{[], Ok, refl, ap, arith}
use Rattle.wt_inspection.specs.DataCapsules.{Opening}
use Rattle.wt_inspection.proofs.MessageLemmas.{stage_start}
use Rattle.wt_inspection.proofs.RecordingLemmas.{reads_none}
use Rattle.wt_inspection.proofs.items.Inspecting.new.Goals as goal

pub returns-clause-none : goal.returns-clause-none
returns-clause-none c = record {
  within = omega arith;
  tiles = refl;
  stage = Opening;
  reads = reads_none [] _ _ Opening c.args.bytes.now 0 refl refl (ap Ok c.start_of.ensures);
  holds = stage_start c.new.result.phase c.new.ensures;
  sections = tt;
}
