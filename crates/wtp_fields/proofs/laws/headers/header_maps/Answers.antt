use Rattle.wtp_qpack.proofs.FieldMaps.{ascends_from, ascends_to, ascends_put, value_put}
use Rattle.wtp_qpack.specs.Field.{put}
use Rattle.wtp_fields.proofs.laws.headers.header_maps.Goals as goal

pub returns-clause-value : goal.returns-clause-value
returns-clause-value c = λ m field name. value_put name field m

pub returns-clause-ordered : goal.returns-clause-ordered
returns-clause-ordered c = λ m field h. ascends_to (put m field) (ascends_put field m (ascends_from m h))
