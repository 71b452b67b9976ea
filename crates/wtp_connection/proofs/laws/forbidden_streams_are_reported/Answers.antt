use Rattle.wtp_connection.proofs.PurposeLemmas.{uni_no_session, bi_no_session, push_to_client, push_to_server, second_control, second_encoder, second_decoder, foreign, forbidden_run, forbidden_end, forbidden_reset, empty_end}
use Rattle.wtp_connection.proofs.laws.forbidden_streams_are_reported.Goals as goal

pub returns-clause-session : goal.returns-clause-session
returns-clause-session c = uni_no_session

pub returns-clause-bidirectional : goal.returns-clause-bidirectional
returns-clause-bidirectional c = bi_no_session

pub returns-clause-push_to_client : goal.returns-clause-push_to_client
returns-clause-push_to_client c = push_to_client

pub returns-clause-push_to_server : goal.returns-clause-push_to_server
returns-clause-push_to_server c = push_to_server

pub returns-clause-control : goal.returns-clause-control
returns-clause-control c = second_control

pub returns-clause-encoder : goal.returns-clause-encoder
returns-clause-encoder c = second_encoder

pub returns-clause-decoder : goal.returns-clause-decoder
returns-clause-decoder c = second_decoder

pub returns-clause-of_a_server : goal.returns-clause-of_a_server
returns-clause-of_a_server c = foreign

pub returns-clause-first_byte : goal.returns-clause-first_byte
returns-clause-first_byte c = forbidden_run

pub returns-clause-end : goal.returns-clause-end
returns-clause-end c = forbidden_end

pub returns-clause-reset : goal.returns-clause-reset
returns-clause-reset c = forbidden_reset

pub returns-clause-empty : goal.returns-clause-empty
returns-clause-empty c = empty_end
