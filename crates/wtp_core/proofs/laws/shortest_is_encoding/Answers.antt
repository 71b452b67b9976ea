use Rattle.wtp_core.proofs.ShortLemmas.{shortest-encodes}
use Rattle.wtp_core.proofs.LeastLemmas.{shortest-least, shortest-only}
use Rattle.wtp_core.proofs.laws.shortest_is_encoding.Goals as goal

pub returns : goal.returns
returns c = record { encoding = shortest-encodes; least = shortest-least; only = shortest-only }
