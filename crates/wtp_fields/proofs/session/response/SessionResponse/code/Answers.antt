use Rattle.std.proofs.Common.{sym, ◌∙◌, ap}
use Rattle.std.specs.Option.{option_copied}
use Rattle.wtp_fields.proofs.RequestLemmas.{lent_some}
use Rattle.wtp_fields.proofs.ResponseLemmas.{status_there, status_good, good_parses}
use Rattle.wtp_fields.proofs.session.response.SessionResponse.code.Goals as goal

pub unwrap-text-requires : goal.unwrap-text-requires
unwrap-text-requires c = lent_some c.get.result _ c.get.ensures (status_there c.self.inside.headers c.self.invariant)

pub unwrap-requires : goal.unwrap-requires
unwrap-requires c =
    good_parses c.parse.result _ c.parse.ensures.value
    (status_good c.self.inside.headers c.unwrap-text.result.now c.self.invariant (sym c.get.ensures ∙ ap option_copied c.unwrap-text.ensures))
