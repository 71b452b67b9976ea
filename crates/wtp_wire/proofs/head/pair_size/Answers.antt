use Rattle.std.proofs.Common.{◌≡◌, ℕ, drop, ap, ◌∙◌, arith}
use Rattle.std.proofs.lemmas.Grind.{common_steps}
use Rattle.wtp_core.specs.VarintLenNeeded.{varint_len_needed, varint_need_most}
use Rattle.wtp_wire.specs.FrameNeed.{frame_need_is}
use Rattle.wtp_wire.proofs.head.pair_size.Goals as goal

pub returns-clause-size : goal.returns-clause-size
returns-clause-size c =
    let rest : c.unwrap_or.result.now ≡ drop c.varint_len_needed-first.result c.args.bytes.now = grind (arith, common_steps) in
    let second : varint_len_needed c.unwrap_or.result.now ≡ varint_len_needed (drop (varint_len_needed c.args.bytes.now) c.args.bytes.now) = ap varint_len_needed (rest ∙ ap (λ (n : ℕ). drop n c.args.bytes.now) c.varint_len_needed-first.ensures) in
    omega (arith, frame_need_is c.args.bytes.now, c.varint_len_needed-first.ensures, c.varint_len_needed.ensures, second)

pub overflow_add-result : goal.overflow_add-result
overflow_add-result c = omega (arith, varint_need_most c.args.bytes.now, varint_need_most c.unwrap_or.result.now, c.varint_len_needed-first.ensures, c.varint_len_needed.ensures)
