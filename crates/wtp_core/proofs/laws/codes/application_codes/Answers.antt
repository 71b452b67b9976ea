use Rattle.wtp_core.proofs.CodeLemmas.{application-range, application-not_reserved, application-every, application-one}
use Rattle.wtp_core.proofs.laws.codes.application_codes.Goals as goal

pub returns : goal.returns
returns c = record { range = application-range; not_reserved = application-not_reserved; every = application-every; one = application-one }
