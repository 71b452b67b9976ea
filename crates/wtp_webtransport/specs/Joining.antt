-- Streams of sessions, streams that end before their last byte, and datagrams (RFC 9114, sections
-- 4.1.1 and 6.2.1; draft-ietf-webtrans-http3-02, section 4; RFC 9297, section 2).
use Rattle.std.specs.Prelude.{ℕ, nat_le, ◌||◌, ◌&&◌, not, if◌then◌else◌, Bool, true, false, List, Option, Some, None, Result, Ok, Err}
use Rattle.wtp_core.specs.declared.error.scope.ErrorScope.{ErrorScope}
use Rattle.wtp_core.specs.declared.error.scope.ErrorScope.TheVariants as scope
use Rattle.wtp_connection.specs.declared.connection.Connection.{Connection as Streams}
use Rattle.wtp_connection.specs.declared.connection.Known.{Known}
use Rattle.wtp_connection.specs.declared.fault.Fault.{Fault as StreamsFault}
use Rattle.wtp_connection.specs.declared.stream.Stream.{Stream as Frames}
use Rattle.wtp_connection.specs.declared.stream.Stream.TheVariants as frames
use Rattle.wtp_connection.specs.declared.stream.Purpose.{Purpose}
use Rattle.wtp_connection.specs.Datagrams.{Taken as StreamsTaken, taken as streams_taken, after_taken as streams_after}
use Rattle.wtp_connection.specs.Fault.{scope_of as streams_scope}
use Rattle.wtp_connection.specs.Streams.{Joined as After, joins as joins_streams, resets as resets_frames, abandons as abandons_frames, overflows as overflows_frames, stops as stops_streams}
use Rattle.wtp_webtransport.specs.declared.fault.Fault.{Fault}
use Rattle.wtp_webtransport.specs.declared.fault.Fault.TheVariants as fault
use Rattle.wtp_webtransport.specs.declared.event.Waits.TheVariants as wait
use Rattle.wtp_webtransport.specs.declared.connection.Connection.{Connection}
use Rattle.wtp_webtransport.specs.declared.stream.Stream.{Stream}
use Rattle.wtp_webtransport.specs.Events.{Told, Joined, Reset, SessionLost, StreamError, Waits, More}
use Rattle.wtp_webtransport.specs.Receiving.{closed_by}
use Rattle.wtp_frames.specs.declared.endpoint.Side.{Side}
use Rattle.wtp_frames.specs.declared.endpoint.Side.TheVariants.{Server}
use Rattle.wtp_webtransport.specs.declared.stream.Part.{Part}
use Rattle.wtp_webtransport.specs.declared.stream.Part.TheVariants as part
use Rattle.wtp_webtransport.specs.Streams.{with_streams, with_frames, ended, is_held, is_done}

abbrev pub Outcome : Type 0
Outcome = Told × Connection × Stream

-- an error that a stream has now
abbrev pub with_error : Stream → Connection × Told → Outcome
with_error s x = (x.1, x.0, s)

-- ---- streams of sessions

-- the session of a stream that is not joined with it yet
abbrev pub joining_of : Frames → Option ℕ
joining_of (frames.Joining id) = Some id
joining_of (frames.Waiting id) = Some id
joining_of other = None

-- what became of a stream of this session
abbrev pub joined_told : Option ℕ → Frames → Told
joined_told (Some id) (frames.Session of) = Joined id
joined_told (Some id) (frames.Waiting for) = Waits (wait.Session id)
joined_told before other = More

abbrev pub joined_by : Connection → Stream → Option ℕ → After → Outcome
joined_by c s before (d, t, None) = (joined_told before t, with_streams c d, with_frames s t)
joined_by c s before (d, t, Some f) =
    with_error (with_frames s t) (closed_by (with_streams c d) (fault.Streams f))

-- a stream is told what is known of its session
abbrev pub joins : Connection → Stream → Known → Outcome
joins c s k =
    if c.over
    then (More, c, s)
    else joined_by c s (joining_of s.frames) (joins_streams c.streams s.frames k)

-- ---- streams that the peer resets, and those that are not read to their end

-- a reset of a stream, or of one with an open session, which is lost
abbrev pub reset_told : Bool → Option Fault → Told
reset_told true f = SessionLost
reset_told false f = Reset f

abbrev pub reset_in : ErrorScope → Bool → Connection → Stream → StreamsFault → Outcome
reset_in scope.Stream held c s f = (reset_told held (Some (fault.Streams f)), c, ended s)
reset_in other held c s f = with_error s (closed_by c (fault.Streams f))

abbrev pub reset_by : Bool → Connection → Stream → After → Outcome
reset_by held c s (d, t, None) =
    (reset_told held None, with_streams c d, ended (with_frames s t))
reset_by held c s (d, t, Some f) =
    reset_in (streams_scope f) held (with_streams c d) (with_frames s t) f

-- nothing is given after the last event of a stream
abbrev pub resets : Connection → Stream → Outcome
resets c s =
    if c.over || is_done s.part s.frames
    then (More, c, s)
    else reset_by (is_held s.part) c s (resets_frames c.streams s.frames)

-- a stream with an open session that is read no further loses it
abbrev pub lost_if : Bool → Told
lost_if true = SessionLost
lost_if false = More

abbrev pub abandoned_by : Connection → Stream → Streams × Frames → Outcome
abandoned_by c s x = (lost_if (is_held s.part), with_streams c x.0, with_frames (ended s) x.1)

abbrev pub abandons : Connection → Stream → Outcome
abandons c s =
    if c.over then (More, c, s) else abandoned_by c s (abandons_frames c.streams s.frames)

-- more bytes of a stream are left over than the caller keeps
abbrev pub overflowed_by : Connection → Stream → After → Outcome
overflowed_by c s (d, t, None) = (More, with_streams c d, with_frames s t)
overflowed_by c s (d, t, Some f) =
    with_error (with_frames s t) (closed_by (with_streams c d) (fault.Streams f))

abbrev pub overflows : Connection → Stream → Outcome
overflows c s =
    if c.over then (More, c, s) else overflowed_by c s (overflows_frames c.streams s.frames)

-- A request that goes on: its end was not given. Whether it was answered is known of a CONNECT that was
-- accepted alone.
abbrev pub is_request : Side → Part → Bool
is_request Server (part.Head m) = true
is_request Server (part.Unanswered session m) = true
is_request Server (part.Body m) = true
is_request _ p = false

-- the ID in the own GOAWAY is that of this request or of one before it
abbrev pub is_beyond : Option ℕ → ℕ → Bool
is_beyond None id = false
is_beyond (Some first) id = nat_le first id

abbrev pub rejected_by : Connection → Stream → Streams × Frames → Outcome
rejected_by c s x =
    (StreamError fault.Rejected, with_streams c x.0, with_frames (ended s) x.1)

-- A request from the ID of the own GOAWAY on is rejected (RFC 9114, sections 4.1.1 and 5.2). A stream of
-- a session is no request.
abbrev pub rejects : Connection → Stream → ℕ → Option ℕ → Outcome
rejects c s id goaway =
    if not c.over && (is_request c.endpoint.side s.part && is_beyond goaway id)
    then rejected_by c s (abandons_frames c.streams s.frames)
    else (More, c, s)

-- the peer asks to stop the own half of a stream: a session whose own stream it is ends by that
abbrev pub stops_half : Connection → Stream → Outcome
stops_half c s = if is_held s.part then abandons c s else (More, c, s)

-- ---- own streams that the peer asks to stop

abbrev pub stopped_by : Connection → Streams × Option StreamsFault → Connection × Option Fault
stopped_by c (d, None) = (with_streams c d, None)
stopped_by c (d, Some f) =
    ((closed_by (with_streams c d) (fault.Streams f)).0, Some (fault.Streams f))

-- the peer asks to stop an own stream for this purpose
abbrev pub stops : Connection → Purpose → Connection × Option Fault
stops c own = if c.over then (c, None) else stopped_by c (stops_streams c.streams own)

-- ---- datagrams

-- a session's ID and a payload, or nothing; or an error
abbrev pub Taken : Type 0
Taken = Result (Option (ℕ × List ℕ)) Fault

abbrev pub taken_of : StreamsTaken → Taken
taken_of (Ok d) = Ok d
taken_of (Err f) = Err (fault.Streams f)

-- the payload of a QUIC datagram; nothing is taken after an error of the connection
abbrev pub takes : Connection → List ℕ → Taken
takes c bytes = if c.over then Ok None else taken_of (streams_taken c.streams bytes)

abbrev pub after_taken : Connection → Taken → Connection
after_taken c (Ok d) = c
after_taken c (Err f) = (closed_by c f).0

abbrev pub taken_by : Connection → StreamsTaken → Connection
taken_by c t = after_taken (with_streams c (streams_after c.streams t)) (taken_of t)

-- the connection after a datagram
abbrev pub after_datagram : Connection → List ℕ → Connection
after_datagram c bytes = if c.over then c else taken_by c (streams_taken c.streams bytes)
