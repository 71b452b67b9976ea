use Rattle.wtransport_proto.proofs.AcceptLemmas.{opening-session, opening-request, opening-reserved, opening-unknown, opening-data, opening-refused, opening-bad_id, opening-too_big, opening-short}
use Rattle.wtransport_proto.proofs.laws.opening.opening_by_front.Goals as goal

pub returns : goal.returns
returns c = record {
  session = opening-session;
  request = opening-request;
  reserved = opening-reserved;
  unknown = opening-unknown;
  data_first = opening-data;
  refused = opening-refused;
  bad_id = opening-bad_id;
  too_big = opening-too_big;
  short = opening-short;
}
