use Rattle.std.proofs.Common.{refl, ap, ◌∙◌, arith}
use Rattle.wt_inspection.specs.FlowLimits.{limit_of}
use Rattle.wt_inspection.proofs.WalkLemmas.{lacks_none, still_lacks}
use Rattle.wt_inspection.proofs.capsules.CapsuleWalk.go_on.Goals as goal

pub returns-then-self-gt0 : goal.returns-then-self-gt0
returns-then-self-gt0 c = λ came none lacks. (still_lacks c.args.unknown _ _ _ came (omega (arith, c.if-self-gt0.true)) none lacks, refl)

pub returns : goal.returns
returns c = λ came none lacks.
    let (whole, holds) = lacks_none c.args.unknown _ _ _ came c.capsule_of.result (omega (arith, c.if-self-gt0.false)) none
    c.capsule_of.ensures.number c.capsule_of.ensures.name (c.capsule_of.ensures.announced ∙ c.into_inner.ensures.value) c.capsule_of.ensures.close (c.capsule_of.ensures.limit ∙ c.limit_of-limit.ensures ∙ ap (limit_of c.args.unknown.number) c.as_slice.ensures.value) lacks in
    (whole, holds, c.capsule_of.ensures.at)
