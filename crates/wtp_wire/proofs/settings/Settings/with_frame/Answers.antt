use Rattle.std.proofs.Common.{rules}
use Rattle.std.proofs.lemmas.Result.{err_from_is_err_and}
use Rattle.wtp_wire.specs.Content.{payload_in}
use Rattle.wtp_wire.proofs.PairLemmas.{pair_at-some, pair_at-no_number, pair_at-no_value, pair_at-shorter, so_far-none, so_far-cut, so_far-pair, so_far-refused}
use Rattle.wtp_wire.proofs.settings.Settings.with_frame.Goals as goal

pub loop-payload-init : goal.loop-payload-init
loop-payload-init c = rw (c.payload-payload.ensures.payload, c.new-settings.ensures) (so_far-none (payload_in c.args.frame.now))

pub returns-in_default : goal.returns-in_default
returns-in_default c = so_far-cut _ _ _ c.loop-payload.invariant (search rules) (pair_at-no_number _ c.in_default.ensures.found)

pub returns-in_default-get_varint : goal.returns-in_default-get_varint
returns-in_default-get_varint c = so_far-cut _ _ _ c.loop-payload.invariant (search rules) (pair_at-no_value _ _ _ c.in-Some.ensures.found c.in_default-get_varint.ensures.found)

pub loop-payload-smaller : goal.loop-payload-smaller
loop-payload-smaller c = pair_at-shorter _ _ _ _ (pair_at-some _ _ _ _ _ c.in-Some.ensures.found c.in-Some-get_varint.ensures.found)

pub loop-payload-preserved : goal.loop-payload-preserved
loop-payload-preserved c = so_far-pair _ _ _ _ _ _ _ c.loop-payload.invariant (pair_at-some _ _ _ _ _ c.in-Some.ensures.found c.in-Some-get_varint.ensures.found) c.in_ok-keep.ensures

pub returns-in_err-keep : goal.returns-in_err-keep
returns-in_err-keep c =
    let p = err_from_is_err_and c.from_residual.result c.from_residual.ensures.1 in
    rw (p.1, p.2) (so_far-refused _ _ _ _ _ _ _ _ c.loop-payload.invariant (pair_at-some _ _ _ _ _ c.in-Some.ensures.found c.in-Some-get_varint.ensures.found) c.in_err-keep.ensures)
