use Rattle.std.proofs.Common.{◌≡◌, ◌<◌, ◌^◌, true, length, rules, arith, ◌∙◌, to_z, of_z, w64}
use Rattle.wtp_core.specs.declared.bytes.error.IoReadError.TheVariants as io
use Rattle.wtransport_proto.specs.declared.stream.error.IoReadError.TheVariants.{IO}
use Rattle.wtransport_proto.specs.Rule.{RemoteBi}
use Rattle.wtransport_proto.specs.Run.{Ended}
use Rattle.wt_bench.proofs.CountLemmas.{counted_none, counted_more, counted_few, counted_end, ended_few, all_driven, run_ahead}
use Rattle.wt_bench.proofs.frames.wt_bench_drive.Goals as goal

pub loop-turn-init : goal.loop-turn-init
loop-turn-init c = rw (c.upgrade-stream.ensures, c.new-reading.ensures, run_ahead RemoteBi true c.args.bytes.now) (counted_none _)

pub overflow_add-frames : goal.overflow_add-frames
overflow_add-frames c =
    let small : length c.args.bytes.now < 2 ^ 63 = search rules in
    let counted : length c.drive.new.out.items ≡ c.len-frames.result = search rules in
    let all = all_driven c.clear.new.self.items c.drive.new.out.items c.len-frames.result c.clear.ensures.items counted in
    omega (arith, small, counted_few _ _ RemoteBi true c.args.bytes.now Ended (counted_more c.loop-turn.frames c.len-frames.result _ _ _ _ c.in-Spent.ensures.did.0 all c.loop-turn.invariant))

pub loop-turn-preserved : goal.loop-turn-preserved
loop-turn-preserved c =
    let counted : length c.drive.new.out.items ≡ c.len-frames.result = search rules in
    let all = all_driven c.clear.new.self.items c.drive.new.out.items c.len-frames.result c.clear.ensures.items counted in
    counted_more c.loop-turn.frames c.len-frames.result _ _ _ _ c.in-Spent.ensures.did.0 all c.loop-turn.invariant

pub overflow_add-frames-in-Ended-IO-ImmediateFin : goal.overflow_add-frames-in-Ended-IO-ImmediateFin
overflow_add-frames-in-Ended-IO-ImmediateFin c =
    let small : length c.args.bytes.now < 2 ^ 63 = search rules in
    let counted : length c.drive.new.out.items ≡ c.len.result = search rules in
    let all = all_driven c.clear.new.self.items c.drive.new.out.items c.len.result c.clear.ensures.items counted in
    let did = c.in-Ended-IO-ImmediateFin.ensures.did in
    omega (arith, small, ended_few c.loop-turn.frames c.len.result _ _ _ RemoteBi true c.args.bytes.now Ended did.0 all c.loop-turn.invariant)

pub answer-requires : goal.answer-requires
answer-requires c =
    let small : length c.args.bytes.now < 2 ^ 63 = search rules in
    let counted : length c.drive.new.out.items ≡ c.len.result = search rules in
    let all = all_driven c.clear.new.self.items c.drive.new.out.items c.len.result c.clear.ensures.items counted in
    let did = c.in-Ended-IO-ImmediateFin.ensures.did in
    omega (arith, small, ended_few c.loop-turn.frames c.len.result _ _ _ RemoteBi true c.args.bytes.now Ended did.0 all c.loop-turn.invariant)

pub returns-in-Ended-IO-ImmediateFin : goal.returns-in-Ended-IO-ImmediateFin
returns-in-Ended-IO-ImmediateFin c = λ _.
    let same : to_z w64 (of_z w64 c.answer.result) ≡ c.answer.result = search rules in
    let counted : length c.drive.new.out.items ≡ c.len.result = search rules in
    let all = all_driven c.clear.new.self.items c.drive.new.out.items c.len.result c.clear.ensures.items counted in
    let did = c.in-Ended-IO-ImmediateFin.ensures.did in
    let fin : c.in-Ended-IO-ImmediateFin.field-0 ≡ IO io.ImmediateFin = search rules in
    same ∙ c.answer.ensures ∙ counted_end c.loop-turn.frames c.len.result _ _ _ _ did.0 fin all c.loop-turn.invariant
