use Rattle.wtp_sending.proofs.AlikeLemmas.{line_alike, never_in_table}
use Rattle.wtp_sending.proofs.laws.lines_are_alike.Goals as goal

pub returns : goal.returns
returns c = record { line = line_alike; sensitive = never_in_table }
