use Rattle.std.proofs.Common.{◌∙◌}
use Rattle.wtp_fields.proofs.RequestLemmas.{authority_text}
use Rattle.wtp_fields.proofs.session.request.authority.Goals as goal

pub returns : goal.returns
returns c = c.authority.ensures ∙ authority_text c.args.url.now
