-- Connections, streams and their messages (RFC 9114, sections 4.1, 4.4 and 6;
-- draft-ietf-webtrans-http3-02, sections 4 and 5).
use Rattle.std.specs.Prelude.{◌≡◌, ℕ, nat_le, nat_lt, ◌||◌, not, if◌then◌else◌, Bool, true, false, List, Option, Some, None, Err}
use Rattle.wtp_frames.specs.declared.endpoint.Endpoint.{Endpoint}
use Rattle.wtp_frames.specs.declared.endpoint.Side.{Side}
use Rattle.wtp_frames.specs.declared.endpoint.Side.TheVariants.{Client}
use Rattle.wtp_frames.specs.Start.{message_reader}
use Rattle.wtp_connection.specs.declared.connection.Connection.{Connection as Streams}
use Rattle.wtp_connection.specs.declared.settings.PeerSettings.{PeerSettings}
use Rattle.wtp_connection.specs.declared.stream.Stream.{Stream as Frames}
use Rattle.wtp_connection.specs.declared.stream.Stream.TheVariants as frames
use Rattle.wtp_connection.specs.Opening.{waits_for as session_waited_for, connected}
use Rattle.wtp_connection.specs.Streams.{connection_of as streams_of, resuming_of as resuming_streams, without_resumption, accepts}
use Rattle.wtp_messages.specs.declared.message.Message.{Message}
use Rattle.wtp_messages.specs.declared.message.Role.{Role}
use Rattle.wtp_messages.specs.declared.message.Role.TheVariants as role
use Rattle.wtp_messages.specs.declared.response.Asked.{Asked}
use Rattle.wtp_messages.specs.Message.{message_of}
use Rattle.wtp_messages.specs.Response.{is_success}
use Rattle.wtp_wire.specs.declared.capsule.CapsuleError.TheVariants as capsule_error
use Rattle.wtp_webtransport.specs.Capsules.{Place, between, Found, CapsuleIs}
use Rattle.wtp_webtransport.specs.declared.connection.Connection.{Connection}
use Rattle.wtp_webtransport.specs.declared.stream.Stream.{Stream}
use Rattle.wtp_webtransport.specs.declared.stream.Part.{Part}
use Rattle.wtp_webtransport.specs.declared.stream.Part.TheVariants as part
use Rattle.wtp_webtransport.specs.declared.stream.Unread.{Unread}
use Rattle.wtp_webtransport.specs.declared.stream.Unread.TheVariants as unread
use Rattle.wtp_webtransport.specs.declared.stream.Delay.{Delay}
use Rattle.wtp_webtransport.specs.declared.stream.Delay.TheVariants as delay
use Rattle.wtp_webtransport.specs.declared.stream.Due.{Due}
use Rattle.wtp_webtransport.specs.declared.stream.Due.TheVariants as due
use Rattle.wtp_webtransport.specs.declared.event.Waits.{Waits}
use Rattle.wtp_webtransport.specs.declared.event.Waits.TheVariants as wait

-- ---- connections

-- a connection before its first byte
abbrev pub connection_of : Endpoint → Bool → Connection
connection_of e extended = record {
  streams = streams_of e;
  endpoint = e;
  extended = extended;
  configured = false;
  goaway = None;
  over = false;
  decoder = None;
  read = None;
}

-- One of a client that resumes a session and sends 0-RTT data: the server has the settings of that
-- session until its SETTINGS come (RFC 9114, section 7.2.4.2). A request for a session still waits for
-- these.
abbrev pub resuming_connection : Endpoint → Bool → PeerSettings → Connection
resuming_connection e extended v =
    record (connection_of e extended) { streams = resuming_streams e v }

-- the server did not accept 0-RTT
abbrev pub without_early_data : Connection → Connection
without_early_data c = record c { streams = without_resumption c.streams }

-- the connection and a stream, with this state of all streams and of the frames of that one
abbrev pub with_streams : Connection → Streams → Connection
with_streams c d = record c { streams = d }

abbrev pub with_frames : Stream → Frames → Stream
with_frames s t = record s { frames = t }

-- a server does not process the requests from the ID of its GOAWAY on (RFC 9114, section 5.2)
abbrev pub is_unprocessed_by : Side → Option ℕ → ℕ → Bool
is_unprocessed_by Client (Some first) id = nat_le first id
is_unprocessed_by _ goaway id = false

-- ---- streams

-- a stream without a message
abbrev pub stream_of : Frames → Stream
stream_of t = record {
  frames = t;
  part = part.NoMessage;
  asked = None;
  unread = unread.Nothing;
  capsules = None;
}

abbrev pub with_part : Stream → Part → Stream
with_part s p = record s { part = p }

-- a message in this role, of which nothing has come; a stream has one message
abbrev pub head_if : Part → Role → Part
head_if part.NoMessage r = part.Head (message_of r)
head_if p r = p

abbrev pub with_head : Stream → Role → Stream
with_head s r = with_part s (head_if s.part r)

-- a request of which no header section was read, though one may have come that waits
abbrev pub is_head_of_request : Part → Option Asked → Bool
is_head_of_request (part.Head m) None = true
is_head_of_request p asked = false

abbrev pub is_request_head : Stream → Bool
is_request_head s = is_head_of_request s.part s.asked

-- a stream of a session, which has no message
abbrev pub member_if : Part → Part
member_if part.NoMessage = part.OfSession
member_if p = p

abbrev pub with_session_id : Stream → Stream
with_session_id s = with_part s (member_if s.part)

abbrev pub IsOfSession : Part → Type 0
IsOfSession part.OfSession = Unit {0}
IsOfSession p = ⊥

-- the response to a request that asked for this
abbrev pub asking_stream : Frames → Asked → Stream
asking_stream t a = record {
  frames = t;
  part = part.Head (message_of (role.Response a));
  asked = Some a;
  unread = unread.Nothing;
  capsules = None;
}

abbrev pub request_stream : Endpoint → Asked → Stream
request_stream e a = asking_stream (frames.Frames (message_reader e) false) a

-- the peer's half of a bidirectional stream that was opened here for a session
abbrev pub session_stream : ℕ → Stream
session_stream id = with_session_id (stream_of (frames.Session id))

-- a stream that the peer opened
abbrev pub with_accepted : Connection → Streams × Frames → Connection × Stream
with_accepted c x = (with_streams c x.0, stream_of x.1)

abbrev pub accepted : Connection → ℕ → Connection × Stream
accepted c id = with_accepted c (accepts c.streams id)

-- the state of the message changes
abbrev pub with_message : Part → Message → Part
with_message (part.Head before) m = part.Head m
with_message _ m = part.Body m

-- ---- the end of a stream

-- a session is over after its stream, and stays so
abbrev pub after_end : Part → Part
after_end (part.Session size) = part.Past
after_end (part.Closed more) = part.Past
after_end part.Ending = part.Past
after_end part.Losing = part.Past
after_end part.Past = part.Past
after_end part.OfSession = part.OfSession
after_end _ = part.NoMessage

abbrev pub ended : Stream → Stream
ended s = record s { part = after_end s.part; unread = unread.Nothing; capsules = None }

-- an error of its own stream ends a session that is open
abbrev pub after_error : Part → Part
after_error (part.Session size) = part.Losing
after_error part.Losing = part.Losing
after_error (part.Closed more) = part.Past
after_error part.Ending = part.Past
after_error part.Past = part.Past
after_error part.OfSession = part.OfSession
after_error _ = part.NoMessage

-- the stream has a session whose end is still to be given
abbrev pub is_held : Part → Bool
is_held (part.Session size) = true
is_held part.Losing = true
is_held _ = false

-- the stream is over, and none of its events is still to be given
abbrev pub is_done : Part → Frames → Bool
is_done (part.Session size) t = false
is_done part.Ending t = false
is_done part.Losing t = false
is_done p frames.Incomplete = true
is_done p frames.Over = true
is_done p t = false

-- ---- CONNECT (RFC 9114, section 4.4)

abbrev pub after_success : Bool → Part
after_success true = part.Session 0
after_success false = part.Tunnel

-- after 2xx there is a session or a tunnel, and the stream has DATA alone
abbrev pub connects : Stream → Bool → Stream
connects s session = record s { frames = connected s.frames; part = after_success session }

-- a request that is answered with this status: 1xx is no answer yet
abbrev pub answered_with : Stream → Bool → Message → ℕ → Stream
answered_with s session m status =
    if is_success (Some status)
    then connects s session
    else (if nat_le 300 status then with_part s (part.Body m) else s)

abbrev pub answered_by : Stream → Part → ℕ → Stream
answered_by s (part.Unanswered session m) status = answered_with s session m status
answered_by s _ status = s

abbrev pub answered : Stream → ℕ → Stream
answered s status = answered_by s s.part status

-- ---- what a stream waits for

abbrev pub session_wait : Option ℕ → Option Waits
session_wait None = None
session_wait (Some id) = Some (wait.Session id)

abbrev pub waits_by : Part → Option Waits → Option Waits
waits_by (part.Unanswered session m) w = Some wait.Answer
waits_by _ w = w

-- what a section that came too early waits for
abbrev pub wait_for : Delay → Waits
wait_for delay.Settings = wait.Settings
wait_for (delay.Table required) = wait.Table required

abbrev pub waits_early : Unread → Option Waits → Option Waits
waits_early (unread.Early size why) w = Some (wait_for why)
waits_early _ w = w

abbrev pub waits_for : Stream → Option Waits
waits_for s = waits_early s.unread (waits_by s.part (session_wait (session_waited_for s.frames)))

-- ---- what is to be given before more of a stream is read

abbrev pub spoiled_if : Bool → Due
spoiled_if true = due.Spoiled
spoiled_if false = due.Nothing

abbrev pub content_due : ℕ → Due
content_due size = if nat_lt 0 size then due.Content size else due.Nothing

-- nothing may follow the capsule that closes a session
abbrev pub due_by : Part → Bool → Due
due_by (part.Unanswered session m) empty = due.Wait
due_by (part.Closed more) empty = spoiled_if (more || not empty)
due_by (part.Session size) empty = content_due size
due_by part.Ending empty = due.End
due_by part.Losing empty = due.Lost
due_by _ empty = due.Nothing

-- ---- capsules

-- the capsules of a session begin
abbrev pub with_session : Stream → Stream
with_session s = record s { capsules = Some between }

-- what comes of the bytes a of the content of a session, with the bytes b left
abbrev pub GivesNext : Option Place → Found → Stream → List ℕ → Stream → List ℕ → Type 0
GivesNext None r s a t b = (r ≡ Err capsule_error.TooLong) × (t ≡ s) × (b ≡ a)
GivesNext (Some p) r s a t b =
    (q : Place) × CapsuleIs r p a q b × (t ≡ record s { capsules = Some q })

abbrev pub GivesCapsule : Found → Stream → List ℕ → Stream → List ℕ → Type 0
GivesCapsule r s a t b = GivesNext s.capsules r s a t b

-- no capsule has begun
abbrev pub EndsBetween : Option Place → Type 0
EndsBetween None = ⊥
EndsBetween (Some p) = p ≡ between
