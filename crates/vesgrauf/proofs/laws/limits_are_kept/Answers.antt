use Rattle.vesgrauf.proofs.LimitLemmas.{accepted_most}
use Rattle.vesgrauf.proofs.laws.limits_are_kept.Goals as goal

pub returns : goal.returns
returns a = record {
  datagrams = λ c. c.within.datagrams_fit;
  sessions = λ c side. accepted_most c.config c.sessions side c.within.sessions_fit;
  held = λ c. c.within.held_fit;
  resets = λ c. c.within.resets_fit.resets;
  unopened = λ c. (c.few.bidirectional, c.few.unidirectional);
}
