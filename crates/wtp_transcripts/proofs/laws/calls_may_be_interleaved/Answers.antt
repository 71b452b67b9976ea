use Rattle.std.proofs.Common.{sym}
use Rattle.wtp_transcripts.specs.Calls.{calls_on}
use Rattle.wtp_transcripts.proofs.ScheduleLemmas.{interleaved, session_calls, waiting_found, waiting_left}
use Rattle.wtp_transcripts.proofs.laws.calls_may_be_interleaved.Goals as goal

pub returns-clause-seen : goal.returns-clause-seen
returns-clause-seen c = λ steps c d t u n q l o a i. sym (interleaved steps c d t u n q l o a i).seen

pub returns-clause-stream : goal.returns-clause-stream
returns-clause-stream c = λ steps c d t u n q l o a i. sym (interleaved steps c d t u n q l o a i).stream

pub returns-clause-waiting : goal.returns-clause-waiting
returns-clause-waiting c = λ steps c d t u n s q l o a i e. (
  waiting_found c (t n) (calls_on n steps) (u n) s (interleaved steps c d t u n q l o a i) e,
  waiting_left c (t n) (calls_on n steps) (u n) s (interleaved steps c d t u n q l o a i) e,
)

pub returns-clause-session : goal.returns-clause-session
returns-clause-session c = λ steps c d t u n s q l o a i e. session_calls c (t n) (calls_on n steps) (u n) s (interleaved steps c d t u n q l o a i) e
