-- What is done to the state of a stream without reading bytes of it.
use Rattle.std.specs.Prelude.{◌≡◌, ℕ, Option}
use Rattle.wtp_connection.specs.declared.connection.Known.{Known}
use Rattle.wtp_webtransport.specs.declared.connection.Connection.{Connection}
use Rattle.wtp_webtransport.specs.declared.stream.Stream.{Stream}
use Rattle.wtp_webtransport.specs.Joining.{joins, resets, stops_half, abandons, overflows, rejects}
use Rattle.wtp_webtransport.specs.Streams.{answered}

-- Answers: the CONNECT request on it is answered with this status. Joins: it joins its session, of which this is known.
-- Resets: the peer reset it. Stops: the peer asked to stop the own half. Abandons: it is read no further. Rejects: a request
-- after the own GOAWAY is rejected. Overflows: more of it waits than is kept.
pub data Moves : Stream → Stream → Type 0 where
  Answers : {s t : Stream} → (status : ℕ) → t ≡ answered s status → Moves s t
  Joins : {s t : Stream} → (c : Connection) → (known : Known) → t ≡ (joins c s known).2 → Moves s t
  Resets : {s t : Stream} → (c : Connection) → t ≡ (resets c s).2 → Moves s t
  Stops : {s t : Stream} → (c : Connection) → t ≡ (stops_half c s).2 → Moves s t
  Abandons : {s t : Stream} → (c : Connection) → t ≡ (abandons c s).2 → Moves s t
  Rejects : {s t : Stream} → (c : Connection) → (id : ℕ) → (goaway : Option ℕ) → t ≡ (rejects c s id goaway).2 → Moves s t
  Overflows : {s t : Stream} → (c : Connection) → t ≡ (overflows c s).2 → Moves s t
