use Rattle.wtp_transcripts.proofs.OnceLemmas.{once}
use Rattle.wtp_transcripts.proofs.OrderLemmas.{all_once}
use Rattle.wtp_transcripts.proofs.laws.streams_give_their_bytes.Goals as goal

pub returns-clause-alone : goal.returns-clause-alone
returns-clause-alone c = once

pub returns-clause-all : goal.returns-clause-all
returns-clause-all c = all_once
