use Rattle.std.proofs.Common.{refl, None}
use Rattle.wtp_frames.specs.declared.fault.Fault.TheVariants as fault
use Rattle.wtp_frames.specs.Grammar.{last_goaway, last_push}
use Rattle.wtp_frames.proofs.GoAwayLemmas.{goaway_given, goaway_greater}
use Rattle.wtp_frames.proofs.RowLemmas.{id_row, no_request}
use Rattle.wtp_frames.proofs.laws.goaways_never_rise.Goals as goal

pub returns-clause-given : goal.returns-clause-given
returns-clause-given c = goaway_given

pub returns-clause-greater : goal.returns-clause-greater
returns-clause-greater c = goaway_greater

pub returns-clause-of_no_request : goal.returns-clause-of_no_request
returns-clause-of_no_request c = λ e settings f ids n s is enc side h. id_row e settings f ids 0x07 n fault.Id s is enc refl (no_request e.side (last_goaway None ids) (last_push None ids) n side h)
