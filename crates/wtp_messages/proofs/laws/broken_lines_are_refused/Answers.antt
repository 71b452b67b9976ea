use Rattle.wtp_messages.proofs.BrokenLemmas as broken
use Rattle.wtp_messages.proofs.laws.broken_lines_are_refused.Goals as goal

pub returns-clause-empty_name : goal.returns-clause-empty_name
returns-clause-empty_name c = broken.empty_name

pub returns-clause-upper_case : goal.returns-clause-upper_case
returns-clause-upper_case c = broken.upper_case

pub returns-clause-no_token : goal.returns-clause-no_token
returns-clause-no_token c = broken.no_token

pub returns-clause-control : goal.returns-clause-control
returns-clause-control c = broken.control

pub returns-clause-blank_first : goal.returns-clause-blank_first
returns-clause-blank_first c = broken.blank_first

pub returns-clause-blank_last : goal.returns-clause-blank_last
returns-clause-blank_last c = broken.blank_last

pub returns-clause-connection : goal.returns-clause-connection
returns-clause-connection c = broken.connection

pub returns-clause-keep_alive : goal.returns-clause-keep_alive
returns-clause-keep_alive c = broken.keep_alive

pub returns-clause-proxy_connection : goal.returns-clause-proxy_connection
returns-clause-proxy_connection c = broken.proxy_connection

pub returns-clause-transfer_encoding : goal.returns-clause-transfer_encoding
returns-clause-transfer_encoding c = broken.transfer_encoding

pub returns-clause-upgrade : goal.returns-clause-upgrade
returns-clause-upgrade c = broken.upgrade

pub returns-clause-te : goal.returns-clause-te
returns-clause-te c = broken.te

pub returns-clause-te_elsewhere : goal.returns-clause-te_elsewhere
returns-clause-te_elsewhere c = broken.te_elsewhere

pub returns-clause-unknown_in_request : goal.returns-clause-unknown_in_request
returns-clause-unknown_in_request c = broken.unknown_in_request

pub returns-clause-unknown_in_response : goal.returns-clause-unknown_in_response
returns-clause-unknown_in_response c = broken.unknown_in_response

pub returns-clause-unknown_in_tunnel : goal.returns-clause-unknown_in_tunnel
returns-clause-unknown_in_tunnel c = broken.unknown_in_tunnel

pub returns-clause-pseudo_in_trailers : goal.returns-clause-pseudo_in_trailers
returns-clause-pseudo_in_trailers c = broken.pseudo_in_trailers
