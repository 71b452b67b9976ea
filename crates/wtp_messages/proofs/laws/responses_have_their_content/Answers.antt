use Rattle.wtp_messages.proofs.PlainLemmas as plain
use Rattle.wtp_messages.proofs.laws.responses_have_their_content.Goals as goal

pub returns-clause-tunnel : goal.returns-clause-tunnel
returns-clause-tunnel c = plain.content_of_tunnel

pub returns-clause-session : goal.returns-clause-session
returns-clause-session c = plain.content_of_session

pub returns-clause-head : goal.returns-clause-head
returns-clause-head c = plain.content_of_head

pub returns-clause-interim : goal.returns-clause-interim
returns-clause-interim c = plain.content_of_interim

pub returns-clause-no_content : goal.returns-clause-no_content
returns-clause-no_content c = plain.content_of_204

pub returns-clause-not_modified : goal.returns-clause-not_modified
returns-clause-not_modified c = plain.content_of_304

pub returns-clause-announced : goal.returns-clause-announced
returns-clause-announced c = plain.content_announced
