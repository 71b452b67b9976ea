use Rattle.wtp_qpack.proofs.FieldMaps.{map_ordered, map_last, map_kept}
use Rattle.wtp_qpack.proofs.RoundTrip.{map_again}
use Rattle.wtp_qpack.proofs.laws.qpack.field_maps.Goals as goal

pub returns-clause-ordered : goal.returns-clause-ordered
returns-clause-ordered c = map_ordered

pub returns-clause-last : goal.returns-clause-last
returns-clause-last c = map_last

pub returns-clause-kept : goal.returns-clause-kept
returns-clause-kept c = map_kept

pub returns-clause-sent : goal.returns-clause-sent
returns-clause-sent c = map_again
