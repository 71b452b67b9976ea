use Rattle.wtp_pairs.proofs.EncodedLemmas.{readable, ahead}
use Rattle.wtp_pairs.proofs.HeadLemmas.{request_read, session_read, interim_read, response_read, connect_read}
use Rattle.wtp_pairs.proofs.DataLemmas.{trailers_read}
use Rattle.wtp_pairs.proofs.laws.encoded_sections_are_received.Goals as goal

pub returns-clause-readable : goal.returns-clause-readable
returns-clause-readable c = λ limit stream e d x fields old new before after section encoded now is u received size small.
    record { encoded = size; has = readable limit stream fields old new before after section encoded now d.decoder x is u received small }

pub returns-clause-ahead : goal.returns-clause-ahead
returns-clause-ahead c = λ stream e d x fields old new before after section encoded now is u lacks size.
    ahead e d x stream fields old new before after section encoded now is u lacks size

pub returns-clause-request : goal.returns-clause-request
returns-clause-request c = request_read

pub returns-clause-session : goal.returns-clause-session
returns-clause-session c = session_read

pub returns-clause-connect : goal.returns-clause-connect
returns-clause-connect c = connect_read

pub returns-clause-interim : goal.returns-clause-interim
returns-clause-interim c = interim_read

pub returns-clause-response : goal.returns-clause-response
returns-clause-response c = response_read

pub returns-clause-trailers : goal.returns-clause-trailers
returns-clause-trailers c = trailers_read
