-- Sessions: what the settings of both ends allow, what a request asks for, and what is known of a
-- session (draft-ietf-webtrans-http3-02, sections 3.1, 3.3 and 4; RFC 9220, section 3; RFC 9297,
-- sections 2 and 2.1).
use Rattle.std.specs.Prelude.{nat_lt, ◌&&◌, ◌||◌, Bool, true, false, List, Option, Some, None}
use Rattle.wtp_qpack.specs.Field.{Field}
use Rattle.wtp_frames.specs.declared.endpoint.Endpoint.{Endpoint}
use Rattle.wtp_frames.specs.declared.endpoint.Side.{Side}
use Rattle.wtp_frames.specs.declared.endpoint.Side.TheVariants.{Client, Server}
use Rattle.wtp_connection.specs.declared.connection.Known.{Known}
use Rattle.wtp_connection.specs.declared.connection.Known.TheVariants as known
use Rattle.wtp_connection.specs.declared.settings.PeerSettings.{PeerSettings}
use Rattle.wtp_connection.specs.declared.stream.Stream.{Stream as Frames}
use Rattle.wtp_connection.specs.declared.stream.Stream.TheVariants as frames
use Rattle.wtp_messages.specs.declared.response.Asked.{Asked}
use Rattle.wtp_messages.specs.declared.response.Asked.TheVariants as asked
use Rattle.wtp_messages.specs.Request.{is_connect, asks_for_session}
use Rattle.wtp_webtransport.specs.Capsules.{Place}
use Rattle.wtp_webtransport.specs.declared.connection.Connection.{Connection}
use Rattle.wtp_webtransport.specs.declared.connection.messages.Asks.{Asks}
use Rattle.wtp_webtransport.specs.declared.connection.messages.Asks.TheVariants as asks
use Rattle.wtp_webtransport.specs.declared.stream.Stream.{Stream}
use Rattle.wtp_webtransport.specs.declared.stream.Part.{Part}
use Rattle.wtp_webtransport.specs.declared.stream.Part.TheVariants as part

-- ---- settings

-- the peer enables WebTransport, in one of the drafts
abbrev pub enables_webtransport : PeerSettings → Bool
enables_webtransport v =
    v.enable_webtransport || nat_lt 0 v.webtransport_max_sessions || nat_lt 0 v.wt_max_sessions

-- the server has to allow extended CONNECT
abbrev pub allows_connect : Side → Bool → PeerSettings → Bool
allows_connect Client own v = v.enable_connect_protocol
allows_connect Server own v = own

-- the own settings enable WebTransport and datagrams
abbrev pub enables_sessions : Endpoint → Bool
enables_sessions e = e.webtransport && e.datagrams

-- The settings of both ends allow sessions: both enable WebTransport and datagrams, and the server
-- extended CONNECT.
abbrev pub allows_sessions : Connection → Bool
allows_sessions c =
    c.configured
    && (enables_sessions c.endpoint
    && (c.streams.peer.h3_datagram
    && (enables_webtransport c.streams.peer
    && allows_connect c.endpoint.side c.extended c.streams.peer)))

-- ---- requests

-- a request for a session: the settings of the peer decide, once they came
abbrev pub asks_session : Bool → Bool → Asks
asks_session false allowed = asks.TooEarly
asks_session true true = asks.Session
asks_session true false = asks.Tunnel

abbrev pub asks_connect : Connection → Bool → Asks
asks_connect c false = asks.Tunnel
asks_connect c true = asks_session c.configured (allows_sessions c)

abbrev pub asks_by : Connection → Bool → Bool → Asks
asks_by c false session = asks.Plain
asks_by c true session = asks_connect c (c.endpoint.webtransport && session)

-- what a request asks for
abbrev pub asks_of : Connection → List Field → Asks
asks_of c fields = asks_by c (is_connect fields) (asks_for_session fields)

-- ---- what is known of the session whose ID is that of a stream

-- A message goes on that is no session's. If its request asked for a session, that was refused: at a
-- server its capsules have begun, and a client knows what it asked for. Any other request has no use
-- for datagrams (RFC 9297, section 2).
abbrev pub message_at_server : Option Place → Known
message_at_server None = known.Other
message_at_server (Some p) = known.Refused

abbrev pub message_at_client : Option Asked → Known
message_at_client None = known.Impossible
message_at_client (Some asked.Session) = known.Refused
message_at_client (Some _) = known.Other

abbrev pub known_at_message : Side → Stream → Known
known_at_message Server s = message_at_server s.capsules
known_at_message Client s = message_at_client s.asked

abbrev pub known_of_message : Connection → Stream → Known
known_of_message c s = known_at_message c.endpoint.side s

-- A stream without a message, or whose message is over: at a server its request was refused, ended or
-- asked for something else; a client knows which sessions it asked for. Datagrams are dropped once the
-- receiving half is over (RFC 9297, section 2.1).
abbrev pub none_at_client : Option Asked → Known
none_at_client (Some asked.Session) = known.Refused
none_at_client _ = known.Impossible

abbrev pub none_at : Side → Option Asked → Known
none_at Server a = known.Refused
none_at Client a = none_at_client a

abbrev pub before_bytes : Side → Option Asked → Known
before_bytes Server a = known.Coming
before_bytes Client a = none_at Client a

abbrev pub known_by_frames : Frames → Side → Option Asked → Known
known_by_frames frames.Bi side a = before_bytes side a
known_by_frames _ side a = none_at side a

abbrev pub known_of_other : Connection → Stream → Known
known_of_other c s = known_by_frames s.frames c.endpoint.side s.asked

-- before its header section a request, or the response to one for a session, may be one
abbrev pub head_at_client : Option Asked → Known
head_at_client (Some asked.Session) = known.Coming
head_at_client a = message_at_client a

abbrev pub known_of_head : Side → Option Asked → Known
known_of_head Server a = known.Coming
known_of_head Client a = head_at_client a

abbrev pub known_of_request : Bool → Connection → Stream → Known
known_of_request true c s = known.Coming
known_of_request false c s = known_of_message c s

abbrev pub known_by_part : Part → Connection → Stream → Known
known_by_part (part.Session size) c s = known.Open
known_by_part (part.Closed more) c s = known.Over
known_by_part part.Ending c s = known.Over
known_by_part part.Losing c s = known.Over
known_by_part part.Past c s = known.Over
known_by_part (part.Unanswered session m) c s = known_of_request session c s
known_by_part (part.Head m) c s = known_of_head c.endpoint.side s.asked
-- a stream of a session is no session's own
known_by_part part.OfSession c s = known.Impossible
known_by_part part.NoMessage c s = known_of_other c s
known_by_part _ c s = known_of_message c s

abbrev pub known_of : Connection → Stream → Known
known_of c s = known_by_part s.part c s
