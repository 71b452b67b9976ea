use Rattle.std.proofs.Common.{refl}
use Rattle.wtp_webtransport.specs.Streams.{stream_of, asking_stream, session_stream}
use Rattle.wtp_webtransport.proofs.SoundLemmas.{none_sound, call_sound, join_sound, reset_sound, stop_sound, abandon_sound, overflow_sound, reject_sound, answer_sound}
use Rattle.wtp_webtransport.proofs.laws.streams_are_sound.Goals as goal

pub returns-clause-accepted : goal.returns-clause-accepted
returns-clause-accepted c = λ t. none_sound (stream_of t) refl

pub returns-clause-opened : goal.returns-clause-opened
returns-clause-opened c = λ t a. none_sound (asking_stream t a) refl

pub returns-clause-own : goal.returns-clause-own
returns-clause-own c = λ id. none_sound (session_stream id) refl

pub returns-clause-receive : goal.returns-clause-receive
returns-clause-receive c = call_sound

pub returns-clause-join : goal.returns-clause-join
returns-clause-join c = join_sound

pub returns-clause-reset : goal.returns-clause-reset
returns-clause-reset c = reset_sound

pub returns-clause-stop : goal.returns-clause-stop
returns-clause-stop c = stop_sound

pub returns-clause-abandon : goal.returns-clause-abandon
returns-clause-abandon c = abandon_sound

pub returns-clause-overflow : goal.returns-clause-overflow
returns-clause-overflow c = overflow_sound

pub returns-clause-reject : goal.returns-clause-reject
returns-clause-reject c = reject_sound

pub returns-clause-answer : goal.returns-clause-answer
returns-clause-answer c = answer_sound
