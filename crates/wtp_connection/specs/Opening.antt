-- What a stream of the peer is for, by its first bytes (RFC 9114, sections 6.1 and 6.2;
-- draft-ietf-webtrans-http3-02, sections 4.1 and 4.2).
use Rattle.std.specs.Prelude.{ℕ, ◌%◌, nat_le, ◌==◌, ◌&&◌, not, if◌then◌else◌, List, [], ◌∷◌, Bool, true, false, Option, Some, None, Result, Ok, Err}
use Rattle.wtp_core.specs.Varint.{number_at}
use Rattle.wtp_frames.specs.declared.endpoint.Endpoint.{Endpoint}
use Rattle.wtp_frames.specs.declared.endpoint.Side.{Side}
use Rattle.wtp_frames.specs.declared.endpoint.Side.TheVariants.{Client, Server}
use Rattle.wtp_frames.specs.declared.fault.Fault.{Fault}
use Rattle.wtp_frames.specs.declared.fault.Fault.TheVariants as fault
use Rattle.wtp_frames.specs.declared.reader.Place.{Place}
use Rattle.wtp_frames.specs.declared.reader.Place.TheVariants.{BeforeSettings, AfterSettings}
use Rattle.wtp_frames.specs.Tunnel.{after_connect}
use Rattle.wtp_connection.specs.declared.stream.Purpose.{Purpose}
use Rattle.wtp_connection.specs.declared.stream.Purpose.TheVariants as «for»
use Rattle.wtp_connection.specs.declared.stream.Stream.{Stream}
use Rattle.wtp_connection.specs.declared.stream.Stream.TheVariants.{Uni, Bi, Frames, Waiting, Encoder, Decoder, Incomplete, Over}

-- the second bit of an ID says that the stream is unidirectional (RFC 9000, section 2.1)
abbrev pub stream_of : ℕ → Stream
stream_of id = if nat_le 2 (id % 4) then Uni else Bi

-- the session that a stream waits for
abbrev pub waits_for : Stream → Option ℕ
waits_for (Waiting s) = Some s
waits_for other = None

-- a control stream
abbrev pub is_control : Place → Bool
is_control BeforeSettings = true
is_control (AfterSettings goaway push) = true
is_control other = false

-- the stream of a CONNECT request that is answered with a 2xx status (RFC 9114, section 4.4)
abbrev pub connected : Stream → Stream
connected (Frames r given) = Frames (after_connect r) given
connected other = other

-- how many bytes of the payload of a frame that is given in pieces, or skipped, are still to come
abbrev pub remaining_of : Stream → ℕ
remaining_of (Frames r given) = r.remaining
remaining_of other = 0

-- a stream that may not be closed while the connection lasts (RFC 9114, section 6.2.1; RFC 9204,
-- section 4.2)
abbrev pub is_critical : Stream → Bool
is_critical (Frames r given) = is_control r.place
is_critical Encoder = true
is_critical (Decoder place) = true
is_critical other = false

-- what such a stream is for
abbrev pub is_for_critical : Purpose → Bool
is_for_critical «for».Control = true
is_for_critical «for».Encoder = true
is_for_critical «for».Decoder = true
is_for_critical other = false

-- a bidirectional stream of which no HEADERS came
abbrev pub has_no_headers : Stream → Bool
has_no_headers Bi = true
has_no_headers (Frames r false) = true
has_no_headers other = false

-- The state of a stream that is over. Of a message of which no HEADERS came it stays known that they
-- will not.
abbrev pub over_from : Stream → Stream
over_from Bi = Incomplete
over_from (Frames r false) = Incomplete
over_from Incomplete = Incomplete
over_from other = Over

-- the same after this error at its end
abbrev pub over_by : Fault → Stream
over_by fault.RequestIncomplete = Incomplete
over_by other = Over

-- Whether the peer may open bidirectional streams. A client may. A server may not, unless an extension
-- that was negotiated lets it (RFC 9114, section 6.1): so WebTransport does, if the own settings enable
-- it.
abbrev pub may_open : Side → Bool → Bool
may_open Client webtransport = webtransport
may_open Server webtransport = true

abbrev pub allows_bidirectional : Endpoint → Bool
allows_bidirectional e = may_open e.side e.webtransport

-- a bidirectional stream that the peer may not open
abbrev pub is_forbidden : Endpoint → Stream → Bool
is_forbidden e Bi = not (allows_bidirectional e)
is_forbidden e other = false

-- A bidirectional stream that ends before it is known what it is for. Within the ID of a session it is
-- a frame that is not complete (RFC 9114, section 7.1). Before its first number is whole, one of a
-- server has nothing, or part of a number that is none of a session; and one of a client is a request
-- without HEADERS (section 4.1) or part of a frame.
abbrev pub end_by_number : Side → List ℕ → Option (ℕ × List ℕ) → Result (Unit {0}) Fault
end_by_number side left (Some x) = Err fault.Frame
end_by_number Client [] None = Ok tt
end_by_number Client (b ∷ left) None = Err fault.StreamCreation
end_by_number Server [] None = Err fault.RequestIncomplete
end_by_number Server (b ∷ left) None = Err fault.Frame

abbrev pub end_unopened : Endpoint → List ℕ → Result (Unit {0}) Fault
end_unopened e left =
    if allows_bidirectional e
    then end_by_number e.side left (number_at left)
    else Err fault.StreamCreation

-- whether the error of an end says that the stream is a critical one
abbrev pub is_closed : Result (Unit {0}) Fault → Bool
is_closed (Err fault.ClosedCriticalStream) = true
is_closed other = false

-- the session of an ID, and the bytes after it
abbrev pub with_session : Option (ℕ × List ℕ) → Option (Purpose × List ℕ)
with_session None = None
with_session (Some s) =
    if s.0 % 4 == 0
    then Some («for».Session s.0, s.1)
    else Some («for».InvalidSession, s.1)

abbrev pub type_purpose : ℕ → Purpose
type_purpose n =
    if n == 0x00 then «for».Control
    else (if n == 0x01 then «for».Push
    else (if n == 0x02 then «for».Encoder
    else (if n == 0x03 then «for».Decoder
    else «for».Ignored)))

-- 0x54 has its meaning if the own settings enable WebTransport
abbrev pub uni_by : Endpoint → Option (ℕ × List ℕ) → Option (Purpose × List ℕ)
uni_by e None = None
uni_by e (Some x) =
    if x.0 == 0x54 && e.webtransport
    then with_session (number_at x.1)
    else Some (type_purpose x.0, x.1)

-- what a unidirectional stream is for, and the bytes after what says so
unfoldable pub uni_at : Endpoint → List ℕ → Option (Purpose × List ℕ)
uni_at e bytes = uni_by e (number_at bytes)

-- a client's bidirectional stream has a request; a server opens none but for sessions (RFC 9114, section
-- 6.1)
abbrev pub frames_purpose : Side → Purpose
frames_purpose Client = «for».Foreign
frames_purpose Server = «for».Message

abbrev pub bi_by : Endpoint → List ℕ → Option (ℕ × List ℕ) → Option (Purpose × List ℕ)
bi_by e bytes None = None
bi_by e bytes (Some x) =
    if x.0 == 0x41 && e.webtransport
    then with_session (number_at x.1)
    else Some (frames_purpose e.side, bytes)

-- a stream that may not be opened is one from its first byte on, whatever it is
abbrev pub forbidden_at : List ℕ → Option (Purpose × List ℕ)
forbidden_at [] = None
forbidden_at (b ∷ bytes) = Some («for».Foreign, b ∷ bytes)

-- the same of a bidirectional stream; a request begins with its first byte
unfoldable pub bi_at : Endpoint → List ℕ → Option (Purpose × List ℕ)
bi_at e bytes =
    if allows_bidirectional e then bi_by e bytes (number_at bytes) else forbidden_at bytes
