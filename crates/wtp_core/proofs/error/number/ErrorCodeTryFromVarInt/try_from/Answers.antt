use Rattle.std.proofs.Common.{◌∙◌, sym, below_more, arith}
use Rattle.std.proofs.lemmas.Bool.{eqb-false}
use Rattle.wtp_core.proofs.CodeLemmas.{no_code}
use Rattle.wtp_core.proofs.error.number.ErrorCodeTryFromVarInt.try_from.Goals as goal

pub loop-code-preserved : goal.loop-code-preserved
loop-code-preserved c =
    below_more _ _ c.loop-code.invariant (λ e. eqb-false c.to_code.result c.args.number (sym c.eq.ensures ∙ c.if-eq.false) (c.to_code.ensures ∙ sym e))

pub returns : goal.returns
returns c = no_code c.args.number (λ j h. c.loop-code.invariant j (omega arith))
