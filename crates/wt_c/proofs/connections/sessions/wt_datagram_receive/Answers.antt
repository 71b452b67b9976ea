use Rattle.std.proofs.Common.{ℕ, List, length, Bor, Option, option_map, sym}
use Rattle.wtp_webtransport.specs.Joining.{takes}
use Rattle.wt_c.proofs.DatagramLemmas.{event_taken, payload_is_end}
use Rattle.wt_c.proofs.connections.sessions.wt_datagram_receive.Goals as goal

pub returns-clause-taken : goal.returns-clause-taken
returns-clause-taken c = λ _. (
  c.in-Some.common,
  c.in-Some.ensures,
  event_taken c.datagram.result (λ (o : Option (ℕ × Bor (List ℕ))). option_map (λ p. (p.0, p.1.now)) o) (takes c.in-Some.common c.args.bytes.now) c.event_of.result (length c.args.bytes.now) c.datagram.ensures.taken c.event_of.ensures,
  rw (← c.datagram.ensures.connection) (sym c.set.ensures),
  payload_is_end c.in-Some.common c.args.bytes.now,
)
