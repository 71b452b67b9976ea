use Rattle.wtp_qpack.specs.FieldSection.{shortest_section}
use Rattle.std.specs.Prelude.{None}
use Rattle.wtp_pairs.proofs.ConnectLemmas.{accepted}
use Rattle.wtp_pairs.proofs.EncodedLemmas.{alone, head_alone, trailers_alone}
use Rattle.wtp_pairs.proofs.StartLemmas.{opened, asked, answered}
use Rattle.wtp_pairs.proofs.HeadLemmas.{request_read, session_read, interim_read, response_read, connect_read}
use Rattle.wtp_pairs.proofs.DataLemmas.{trailers_read}
use Rattle.wtp_pairs.proofs.laws.sections_are_received.Goals as goal

pub returns-clause-opened : goal.returns-clause-opened
returns-clause-opened c = opened

pub returns-clause-asked : goal.returns-clause-asked
returns-clause-asked c = asked

pub returns-clause-answered : goal.returns-clause-answered
returns-clause-answered c = answered

pub returns-clause-request : goal.returns-clause-request
returns-clause-request c = λ limit e d old new fields t extended going within a is h plain.
    let x = request_read limit e d old new (shortest_section fields) fields None t extended going (alone e limit d fields within) a is (head_alone old new fields h) plain in
    (x.0, x.1.read, x.2)

pub returns-clause-session : goal.returns-clause-session
returns-clause-session c = λ limit e d old new fields t extended going within a is h connects asks allows.
    let x = session_read limit e d old new (shortest_section fields) fields None t extended going (alone e limit d fields within) a is (head_alone old new fields h) connects asks allows in
    (x.0, x.1.read, x.2)

pub returns-clause-interim : goal.returns-clause-interim
returns-clause-interim c = λ limit e d old new fields t asked status k going within client a is h s head.
    let x = interim_read limit e d old new (shortest_section fields) fields None t asked status k going (alone e limit d fields within) client a is (head_alone old new fields h) s head in
    (x.0, x.1.read, x.2)

pub returns-clause-response : goal.returns-clause-response
returns-clause-response c = λ limit e d old new fields t asked status going within a is h s final.
    let x = response_read limit e d old new (shortest_section fields) fields None t asked status going (alone e limit d fields within) a is (head_alone old new fields h) s final in
    (x.0, x.1.read, x.2)

pub returns-clause-trailers : goal.returns-clause-trailers
returns-clause-trailers c = λ limit e d old new fields t going within a h.
    let x = trailers_read limit e d old new (shortest_section fields) fields None t going (alone e limit d fields within) a (trailers_alone old new fields h) in
    (x.0, x.1.read, x.2)

pub returns-clause-connect : goal.returns-clause-connect
returns-clause-connect c = λ limit e d old new fields t extended going within a is h connects asks.
    let x = connect_read limit e d old new (shortest_section fields) fields None t extended going (alone e limit d fields within) a is (head_alone old new fields h) connects asks in
    (x.0, x.1.read, x.2)

pub returns-clause-accepted : goal.returns-clause-accepted
returns-clause-accepted c = accepted
