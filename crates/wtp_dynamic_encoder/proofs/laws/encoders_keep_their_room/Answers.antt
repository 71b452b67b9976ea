use Rattle.wtp_dynamic_encoder.proofs.Rooms.{capacity_stays, sent_few, stands_fewer, reaches_fewer}
use Rattle.wtp_dynamic_encoder.proofs.laws.encoders_keep_their_room.Goals as goal

pub returns-clause-capacity : goal.returns-clause-capacity
returns-clause-capacity c = capacity_stays

pub returns-clause-sent : goal.returns-clause-sent
returns-clause-sent c = sent_few

pub returns-clause-read : goal.returns-clause-read
returns-clause-read c = stands_fewer

pub returns-clause-failed : goal.returns-clause-failed
returns-clause-failed c = reaches_fewer
