use Rattle.wtp_core.proofs.CodeLemmas.{number-one, number-not_reserved}
use Rattle.wtp_core.proofs.laws.codes.codes_have_numbers.Goals as goal

pub returns : goal.returns
returns c = record { one = number-one; not_reserved = number-not_reserved }
