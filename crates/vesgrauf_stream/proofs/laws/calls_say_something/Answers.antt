use Rattle.vesgrauf_stream.proofs.CallLemmas.{request_said, response_said, send_said, trailers_said, finish_said, push_said, drain_said, close_said}
use Rattle.vesgrauf_stream.proofs.laws.calls_say_something.Goals as goal

pub returns : goal.returns
returns c = record {
  request = request_said;
  respond = response_said;
  send = send_said;
  trailers = trailers_said;
  finish = finish_said;
  push = push_said;
  drain = drain_said;
  close = close_said;
}
