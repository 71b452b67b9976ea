-- The events of a connection as structs of C.
use Rattle.std.specs.Prelude.{◌≡◌, ℕ, ◌+◌, ◌-◌, nat_lt, if◌then◌else◌, List, [], length, Option, Some, None, replicate}
use Rattle.wtp_qpack.specs.Field.{Field}
use Rattle.wtp_frames.specs.declared.frame_type.FrameType.{FrameType}
use Rattle.wtp_frames.specs.declared.frame_type.FrameType.TheVariants as kind
use Rattle.wtp_connection.specs.declared.stream.Purpose.{Purpose}
use Rattle.wtp_connection.specs.declared.stream.Purpose.TheVariants as purpose
use Rattle.wtp_messages.specs.declared.malformed.Malformed.{Malformed as Rule}
use Rattle.wtp_messages.specs.declared.malformed.Malformed.TheVariants as rule
use Rattle.wtp_webtransport.specs.declared.event.HeadersKind.{HeadersKind}
use Rattle.wtp_webtransport.specs.declared.event.HeadersKind.TheVariants as headers
use Rattle.wtp_webtransport.specs.declared.event.Waits.{Waits as Wait}
use Rattle.wtp_webtransport.specs.declared.event.Waits.TheVariants as wait
use Rattle.wtp_webtransport.specs.Events.{Told, Inserted, Opened, Joins, Joined, Settings, GoAway, Frame, Headers, SessionRequested, SessionReady, Rejected, SessionClosed, SessionLost, Datagram, Draining, Skipped, Data, StreamData, TooLarge, Malformed, StreamError, ConnectionError, Reset, End, NoMemory, Waits, More}
use Rattle.wtp_webtransport.specs.Fault.{code_of}
use Rattle.wt_c.specs.Fields.{texts_size, capped}
use Rattle.wt_c.specs.declared.connections.events.WtEvent.{WtEvent}

-- ---- numbers

abbrev pub purpose_number : Purpose → ℕ
purpose_number purpose.Control = 0
purpose_number purpose.Push = 1
purpose_number purpose.Encoder = 2
purpose_number purpose.Decoder = 3
purpose_number (purpose.Session id) = 4
purpose_number purpose.InvalidSession = 5
purpose_number purpose.Message = 6
purpose_number purpose.Foreign = 7
purpose_number purpose.Ignored = 8

-- the type of a frame, or the largest number where there are several
abbrev pub frame_number : FrameType → ℕ
frame_number kind.Data = 0x00
frame_number kind.Headers = 0x01
frame_number kind.CancelPush = 0x03
frame_number kind.Settings = 0x04
frame_number kind.PushPromise = 0x05
frame_number kind.GoAway = 0x07
frame_number kind.MaxPushId = 0x0d
frame_number kind.WebTransport = 0x41
frame_number kind.Http2 = 0xffffffff
frame_number kind.Unknown = 0xffffffff

-- the rules of messages, from 1 on
abbrev pub rule_number : Rule → ℕ
rule_number rule.InvalidName = 1
rule_number rule.InvalidValue = 2
rule_number rule.ConnectionField = 3
rule_number rule.InvalidTe = 4
rule_number rule.UnknownPseudoHeader = 5
rule_number rule.LatePseudoHeader = 6
rule_number rule.RepeatedPseudoHeader = 7
rule_number rule.InvalidContentLength = 8
rule_number rule.MissingMethod = 9
rule_number rule.InvalidMethod = 10
rule_number rule.MissingScheme = 11
rule_number rule.InvalidScheme = 12
rule_number rule.MissingPath = 13
rule_number rule.InvalidPath = 14
rule_number rule.MissingAuthority = 15
rule_number rule.InvalidAuthority = 16
rule_number rule.ConnectWithTarget = 17
rule_number rule.UnexpectedProtocol = 18
rule_number rule.InvalidProtocol = 19
rule_number rule.ContentField = 20
rule_number rule.MissingStatus = 21
rule_number rule.InvalidStatus = 22
rule_number rule.UnexpectedStatus = 23
rule_number rule.MissingHead = 24
rule_number rule.ContentTooLong = 25
rule_number rule.ContentTooShort = 26

-- what a stream waits for, and the session, or how many insertions
abbrev pub wait_number : Option Wait → ℕ
wait_number None = 0
wait_number (Some (wait.Session id)) = 1
wait_number (Some wait.Settings) = 2
wait_number (Some wait.Answer) = 3
wait_number (Some (wait.Table required)) = 4

abbrev pub wait_session : Option Wait → ℕ
wait_session (Some (wait.Session id)) = id
wait_session (Some (wait.Table required)) = required
wait_session other = 0

-- ---- events

-- an event without bytes
abbrev pub plain : ℕ → ℕ → ℕ → WtEvent
plain k d n = record {
  kind = k;
  detail = d;
  number = n;
  consumed = 0;
  offset = 0;
  len = 0;
  count = 0;
  used = 0;
  kept = 0;
  reserved = replicate 4 0;
}

-- one with bytes that are the last of so many
abbrev pub with_bytes : ℕ → ℕ → List ℕ → ℕ → WtEvent
with_bytes k d piece end =
    record (plain k d 0) { offset = end - length piece; len = length piece }

abbrev pub headers_event : HeadersKind → WtEvent
headers_event headers.Request = plain 8 0 0
headers_event (headers.Interim status) = plain 8 1 status
headers_event (headers.Response status) = plain 8 2 status
headers_event headers.Trailers = plain 8 3 0

-- an event with which the first `end` bytes are consumed
abbrev pub c_event : Told → ℕ → WtEvent
c_event More end = plain 0 0 0
c_event (Waits w) end = plain 1 (wait_number (Some w)) (wait_session (Some w))
c_event (Opened p) end = plain 2 (purpose_number p) 0
c_event (Joins id) end = plain 3 0 id
c_event (Joined id) end = plain 4 0 id
c_event (Settings v payload) end = with_bytes 5 0 payload end
c_event (GoAway id) end = plain 6 0 id
c_event (Frame k payload) end = with_bytes 7 (frame_number k) payload end
c_event (Headers k fields) end = headers_event k
c_event (SessionRequested fields) end = plain 9 0 0
c_event (SessionReady status fields) end = plain 10 0 status
c_event (Rejected status fields) end = plain 11 0 status
c_event (SessionClosed close) end = plain 12 0 close.0
c_event SessionLost end = plain 13 0 0
c_event (Datagram payload) end = plain 14 0 0
c_event Draining end = plain 15 0 0
c_event Skipped end = plain 16 0 0
c_event (Data piece) end = with_bytes 17 0 piece end
c_event (StreamData piece) end = with_bytes 18 0 piece end
c_event (TooLarge (Some size)) end = plain 19 1 size
c_event (TooLarge None) end = plain 19 0 0
c_event (Malformed rule) end = plain 20 (rule_number rule) 0x010e
c_event (StreamError f) end = plain 21 0 (code_of f)
c_event (ConnectionError f) end = plain 22 0 (code_of f)
c_event (Reset (Some f)) end = plain 23 1 (code_of f)
c_event (Reset None) end = plain 23 0 0
c_event End end = plain 24 0 0
c_event NoMemory end = plain 25 0 0
c_event (Inserted count) end = plain 26 0 count

-- ---- what an event has beside its bytes in the input

abbrev pub fields_of : Told → List Field
fields_of (Headers k fields) = fields
fields_of (SessionRequested fields) = fields
fields_of (SessionReady status fields) = fields
fields_of (Rejected status fields) = fields
fields_of other = []

-- the reason of a close, or a datagram of a capsule
abbrev pub bytes_of : Told → List ℕ
bytes_of (SessionClosed close) = close.1
bytes_of (Datagram payload) = payload
bytes_of other = []

abbrev pub size_beside : Told → ℕ
size_beside told = texts_size (fields_of told) + length (bytes_of told)

-- the event with the bytes consumed, the room that is used, and the bytes that are held
abbrev pub whole_event : Told → ℕ → ℕ → WtEvent
whole_event told consumed kept = record (c_event told consumed) {
  consumed = consumed;
  count = length (fields_of told);
  used = capped (size_beside told);
  kept = kept;
}

-- ---- datagrams in capsules

-- one that is longer than the limit is dropped
abbrev pub told_within : ℕ → Told → Told
told_within max (Datagram payload) =
    if nat_lt max (length payload) then Skipped else Datagram payload
told_within max other = other
