use Rattle.std.proofs.Common.{◌∙◌, refl, sym}
use Rattle.wtp_fields.proofs.ResponseLemmas.{bad_status, has_status, parsed_good, parsed_bad}
use Rattle.wtp_fields.proofs.session.response.SessionResponse.of_map.Goals as goal

pub returns-then-is_err : goal.returns-then-is_err
returns-then-is_err c =
    bad_status c.args.headers c.in_ok-text.text.now (sym c.in_ok-text.ensures)
    (parsed_bad c.parse.result _ c.parse.ensures.value (sym c.is_err.ensures.value ∙ c.if-is_err.true))

pub invariant_of-result : goal.invariant_of-result
invariant_of-result c =
    has_status c.args.headers c.in_ok-text.text.now (sym c.in_ok-text.ensures)
    (parsed_good c.parse.result _ c.parse.ensures.value (sym c.is_err.ensures.value ∙ c.if-is_err.false))

pub returns : goal.returns
returns c = (invariant_of-result c, refl)
