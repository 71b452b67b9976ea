use Rattle.wtp_wire.specs.Front.{BadId, TooBig, Short}
use Rattle.wtransport_proto.proofs.PlaceLemmas.{place-allowed, place-refused, place-unknown, place_case}
use Rattle.wtransport_proto.proofs.laws.place.place_by_front.Goals as goal

pub returns : goal.returns
returns c = record {
  allowed = place-allowed;
  refused = place-refused;
  unknown = place-unknown;
  bad_id = λ role first h ahead rest e. place_case role first h ahead (BadId rest) e;
  too_big = λ role first h ahead rest e. place_case role first h ahead (TooBig rest) e;
  short = λ role first h ahead e. place_case role first h ahead Short e;
}
