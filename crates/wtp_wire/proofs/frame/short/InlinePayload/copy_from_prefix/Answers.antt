use Rattle.std.proofs.Common.{take, ap, ◌∙◌, arith}
use Rattle.std.proofs.lemmas.List.{take-take}
use Rattle.wtp_wire.proofs.frame.short.InlinePayload.copy_from_prefix.Goals as goal

pub returns-clause-front : goal.returns-clause-front
returns-clause-front c = ap (λ l. take c.args.len l) c.in_ok-front.ensures.cases.same ∙ take-take c.args.len 40 c.args.bytes.now (omega (arith, c.if-len-gt-MAX_SHORT.false))
