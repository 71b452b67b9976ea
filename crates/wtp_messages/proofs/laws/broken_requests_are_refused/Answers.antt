use Rattle.wtp_messages.proofs.BrokenLemmas as broken
use Rattle.wtp_messages.proofs.laws.broken_requests_are_refused.Goals as goal

pub returns-clause-no_method : goal.returns-clause-no_method
returns-clause-no_method c = broken.no_method

pub returns-clause-method : goal.returns-clause-method
returns-clause-method c = broken.method

pub returns-clause-no_scheme : goal.returns-clause-no_scheme
returns-clause-no_scheme c = broken.no_scheme

pub returns-clause-no_scheme_extended : goal.returns-clause-no_scheme_extended
returns-clause-no_scheme_extended c = broken.no_scheme_extended

pub returns-clause-no_path : goal.returns-clause-no_path
returns-clause-no_path c = broken.no_path

pub returns-clause-no_path_extended : goal.returns-clause-no_path_extended
returns-clause-no_path_extended c = broken.no_path_extended

pub returns-clause-scheme : goal.returns-clause-scheme
returns-clause-scheme c = broken.scheme

pub returns-clause-session_scheme : goal.returns-clause-session_scheme
returns-clause-session_scheme c = broken.session_scheme

pub returns-clause-no_slash : goal.returns-clause-no_slash
returns-clause-no_slash c = broken.no_slash

pub returns-clause-path_byte : goal.returns-clause-path_byte
returns-clause-path_byte c = broken.path_byte

pub returns-clause-asterisk : goal.returns-clause-asterisk
returns-clause-asterisk c = broken.asterisk

pub returns-clause-no_authority : goal.returns-clause-no_authority
returns-clause-no_authority c = broken.no_authority

pub returns-clause-host_of_tunnel : goal.returns-clause-host_of_tunnel
returns-clause-host_of_tunnel c = broken.host_of_tunnel

pub returns-clause-authority : goal.returns-clause-authority
returns-clause-authority c = broken.authority

pub returns-clause-host : goal.returns-clause-host
returns-clause-host c = broken.host

pub returns-clause-no_port : goal.returns-clause-no_port
returns-clause-no_port c = broken.no_port

pub returns-clause-two_hosts : goal.returns-clause-two_hosts
returns-clause-two_hosts c = broken.two_hosts

pub returns-clause-another_host : goal.returns-clause-another_host
returns-clause-another_host c = broken.another_host

pub returns-clause-tunnel_scheme : goal.returns-clause-tunnel_scheme
returns-clause-tunnel_scheme c = broken.tunnel_scheme

pub returns-clause-tunnel_path : goal.returns-clause-tunnel_path
returns-clause-tunnel_path c = broken.tunnel_path

pub returns-clause-protocol_without_connect : goal.returns-clause-protocol_without_connect
returns-clause-protocol_without_connect c = broken.protocol_without_connect

pub returns-clause-protocol_not_allowed : goal.returns-clause-protocol_not_allowed
returns-clause-protocol_not_allowed c = broken.protocol_not_allowed

pub returns-clause-protocol : goal.returns-clause-protocol
returns-clause-protocol c = broken.protocol

pub returns-clause-session_length : goal.returns-clause-session_length
returns-clause-session_length c = broken.session_length

pub returns-clause-session_type : goal.returns-clause-session_type
returns-clause-session_type c = broken.session_type
