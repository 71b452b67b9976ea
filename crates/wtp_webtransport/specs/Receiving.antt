-- What one call of a connection gives: how many bytes are consumed, the event, and the connection
-- and the stream after it (RFC 9114, sections 4.1, 4.1.2, 4.2.2, 4.4 and 8).
use Rattle.std.specs.Prelude.{◌≡◌, ℕ, ◌+◌, ◌-◌, ◌==◌, nat_lt, Bool, true, false, List, [], length, take, Option, Some, None, Result, Ok, Err}
use Rattle.wtp_core.specs.Varint.{number_at}
use Rattle.wtp_core.specs.declared.error.scope.ErrorScope.{ErrorScope}
use Rattle.wtp_core.specs.declared.error.scope.ErrorScope.TheVariants as scope
use Rattle.wtp_qpack.specs.Field.{Field}
use Rattle.wtp_frames.specs.declared.frame_type.FrameType.TheVariants as kind
use Rattle.wtp_frames.specs.Reading.{slice}
use Rattle.wtp_connection.specs.declared.connection.Connection.{Connection as Streams}
use Rattle.wtp_connection.specs.declared.connection.Found.{Found}
use Rattle.wtp_connection.specs.declared.connection.Found.TheVariants as found
use Rattle.wtp_connection.specs.declared.stream.Stream.{Stream as Frames}
use Rattle.wtp_connection.specs.declared.stream.Stream.TheVariants as frames
use Rattle.wtp_connection.specs.declared.stream.Purpose.{Purpose}
use Rattle.wtp_connection.specs.declared.stream.Purpose.TheVariants as «for»
use Rattle.wtp_connection.specs.Opening.{remaining_of}
use Rattle.wtp_connection.specs.Receiving.{FoundIs, IsNearer}
use Rattle.wtp_connection.specs.First.{found_by, first_found}
use Rattle.wtp_connection.specs.Streams.{Joined, tells_interim, abandons}
use Rattle.wtp_fields.specs.declared.fields.FieldSectionError.{FieldSectionError}
use Rattle.wtp_fields.specs.declared.fields.FieldSectionError.TheVariants as section_error
use Rattle.wtp_fields.specs.FieldList.{DecodesTo}
use Rattle.wtp_dynamic_decoder.specs.Decoder.{Decoder}
use Rattle.wtp_dynamic_fields.specs.declared.section.Decoded.{Decoded}
use Rattle.wtp_dynamic_fields.specs.declared.section.Decoded.TheVariants as decoded
use Rattle.wtp_dynamic_fields.specs.declared.section.TableSectionError.{TableSectionError}
use Rattle.wtp_dynamic_fields.specs.declared.section.TableSectionError.TheVariants as table_error
use Rattle.wtp_dynamic_fields.specs.Reading.{TableGives as SectionReads}
use Rattle.wtp_messages.specs.declared.malformed.Malformed.{Malformed}
use Rattle.wtp_messages.specs.declared.malformed.Malformed.TheVariants.{ContentTooLong}
use Rattle.wtp_messages.specs.declared.message.Message.{Message}
use Rattle.wtp_messages.specs.declared.message.Role.TheVariants as role
use Rattle.wtp_messages.specs.declared.message.Section.{Section}
use Rattle.wtp_messages.specs.declared.message.Section.TheVariants as section
use Rattle.wtp_messages.specs.Content.{fits, left_after}
use Rattle.wtp_messages.specs.Message.{SectionComes, end_of}
use Rattle.wtp_messages.specs.Response.{is_success}
use Rattle.wtp_messages.specs.declared.response.Asked.{Asked}
use Rattle.wtp_messages.specs.declared.response.Asked.TheVariants as asked
use Rattle.wtp_wire.specs.declared.capsule.CapsuleError.TheVariants as capsule_error
use Rattle.wtp_wire.specs.CloseSession.{close_in}
use Rattle.wtp_webtransport.specs.declared.capsules.CapsuleType.{CapsuleType}
use Rattle.wtp_webtransport.specs.declared.capsules.CapsuleType.TheVariants as capsule
use Rattle.wtp_webtransport.specs.Capsules.{Found as Capsules}
use Rattle.wtp_webtransport.specs.declared.fault.Fault.{Fault}
use Rattle.wtp_webtransport.specs.declared.fault.Fault.TheVariants as fault
use Rattle.wtp_webtransport.specs.declared.event.HeadersKind.{HeadersKind}
use Rattle.wtp_webtransport.specs.declared.event.HeadersKind.TheVariants as headers
use Rattle.wtp_webtransport.specs.declared.event.Waits.TheVariants as wait
use Rattle.wtp_webtransport.specs.declared.connection.Connection.{Connection}
use Rattle.wtp_webtransport.specs.declared.connection.messages.Taken.{Taken}
use Rattle.wtp_webtransport.specs.declared.connection.messages.Taken.TheVariants as taken
use Rattle.wtp_webtransport.specs.declared.connection.messages.Asks.{Asks}
use Rattle.wtp_webtransport.specs.declared.connection.messages.Asks.TheVariants as asks
use Rattle.wtp_webtransport.specs.declared.connection.messages.Span.{Span}
use Rattle.wtp_webtransport.specs.declared.stream.Stream.{Stream}
use Rattle.wtp_webtransport.specs.declared.stream.Unread.{Unread}
use Rattle.wtp_webtransport.specs.declared.stream.Unread.TheVariants as unread
use Rattle.wtp_webtransport.specs.declared.stream.Delay.{Delay}
use Rattle.wtp_webtransport.specs.declared.stream.Delay.TheVariants as delay
use Rattle.wtp_webtransport.specs.declared.stream.Due.{Due}
use Rattle.wtp_webtransport.specs.declared.stream.Due.TheVariants as due
use Rattle.wtp_webtransport.specs.declared.stream.Part.{Part}
use Rattle.wtp_webtransport.specs.declared.stream.Part.TheVariants as part
use Rattle.wtp_webtransport.specs.Fault.{scope_of}
use Rattle.wtp_webtransport.specs.Prefix.{names_table}
use Rattle.wtp_webtransport.specs.Events.{Told, Opened, Joins, Settings, GoAway, Frame, Headers, SessionRequested, SessionReady, Rejected, SessionClosed, SessionLost, Datagram, Draining, Skipped, Data, StreamData, TooLarge, Malformed as MalformedBy, StreamError, ConnectionError, End, NoMemory, Waits, More}
use Rattle.wtp_webtransport.specs.Sessions.{asks_of}
use Rattle.wtp_webtransport.specs.Unacknowledged.{just_read}
use Rattle.wtp_webtransport.specs.Streams.{with_streams, with_frames, with_part, with_head, with_session_id, with_message, with_session, connects, ended, after_error, wait_for, due_by, GivesCapsule, EndsBetween}

abbrev pub Outcome : Type 0
Outcome = ℕ × Told × Connection × Stream

-- ---- errors

-- an error of this scope, and the connection after it
abbrev pub closed_in : Connection → Fault → ErrorScope → Connection × Told
closed_in c f scope.Stream = (c, StreamError f)
closed_in c f other = (record c { over = true }, ConnectionError f)

abbrev pub closed_by : Connection → Fault → Connection × Told
closed_by c f = closed_in c f (scope_of f)

abbrev pub failed_by : Stream → ℕ → Connection × Told → Outcome
failed_by s len x = (len, x.1, x.0, with_part s (after_error s.part))

-- an error with all bytes consumed
abbrev pub fails : Connection → Stream → Fault → ℕ → Outcome
fails c s f len = failed_by s len (closed_by c f)

-- the last event of a message or of a session
abbrev pub last_in : Stream → Told → ℕ → ℕ × Told × Stream
last_in s told len = (len, told, ended s)

abbrev pub last : Connection → Stream → Told → ℕ → Outcome
last c s told len = (len, told, c, ended s)

-- the stream is read no further
abbrev pub left_by : Connection → Stream → Streams × Frames → Connection × Stream
left_by c s x = (with_streams c x.0, with_frames s x.1)

abbrev pub leaves : Connection → Stream → Connection × Stream
leaves c s = left_by c s (abandons c.streams s.frames)

-- the message of the stream breaks a rule: its stream is read no further
abbrev pub malformed : Connection → Stream → Malformed → ℕ → Outcome
malformed c s rule len =
    (len, MalformedBy rule, (leaves c s).0, with_part (leaves c s).1 part.NoMessage)

-- ---- what a stream is for

abbrev pub found_opened : Connection → Stream → Purpose → ℕ → Outcome
found_opened c s («for».Session id) n = (n, Joins id, c, with_session_id s)
found_opened c s «for».Message n =
    (n, Opened «for».Message, c, with_head s (role.Request c.extended))
found_opened c s p n = (n, Opened p, c, s)

-- ---- GOAWAY

abbrev pub goaway_in : Option (ℕ × List ℕ) → Connection → ℕ → List ℕ → ℕ × Told × Connection
goaway_in None c end payload = (end, Frame kind.GoAway payload, c)
goaway_in (Some x) c end payload = (end, GoAway x.0, record c { goaway = Some x.0 })

-- a GOAWAY, whose payload from start to end is an ID
abbrev pub goaway_found : Connection → ℕ → ℕ → List ℕ → ℕ × Told × Connection
goaway_found c start end bytes =
    goaway_in (number_at (slice start end bytes)) c end (slice start end bytes)

abbrev pub in_stream : Stream → ℕ × Told × Connection → Outcome
in_stream s x = (x.0, x.1, x.2, s)

-- ---- content

-- the message after so many bytes of its content
abbrev pub counted : Message → ℕ → Message
counted m n = record m { content = record { left = left_after m.content.left n } }

-- A piece of content, by whether all of its DATA frame that is still to come, the piece and what
-- remains after it, is within the announced length. So the frame that exceeds it is found by its head,
-- however it is cut (RFC 9114, section 4.1.2).
abbrev pub content_by : Bool → Connection → Stream → Message → ℕ → ℕ → List ℕ → Outcome
content_by true c s m start end bytes =
    (end, Data (slice start end bytes), c, with_part s (with_message s.part (counted m (end - start))))
content_by false c s m start end bytes = malformed c s ContentTooLong (length bytes)

abbrev pub content_found : Connection → Stream → Message → ℕ → ℕ → List ℕ → Outcome
content_found c s m start end bytes =
    content_by (fits m.content.left ((end - start) + remaining_of s.frames)) c s m start end bytes

-- ---- the content of a session

-- a capsule is invalid, or something follows the one that closes the session
abbrev pub spoiled : Connection → Stream → ℕ → Outcome
spoiled c s len = fails (leaves c s).0 (leaves c s).1 fault.Capsule len

abbrev pub closed_if : Option (ℕ × List ℕ) → Connection → Stream → Bool → ℕ → ℕ → Outcome
closed_if None c s more end len = spoiled c s len
closed_if (Some close) c s more end len =
    (end, SessionClosed close, c, with_part s (part.Closed more))

-- the session goes on, with so many bytes left of its content, which are next in the bytes
abbrev pub goes_on_with : Stream → Told → ℕ → ℕ → ℕ × Told × Stream
goes_on_with s told left end = (end - left, told, with_part s (part.Session left))

abbrev pub goes_on : Connection → Stream → Told → ℕ → ℕ → Outcome
goes_on c s told left end = (end - left, told, c, with_part s (part.Session left))

-- a capsule with this value, with so many bytes left of the content
abbrev pub complete : CapsuleType → Connection → Stream → List ℕ → ℕ → ℕ → ℕ → Outcome
complete capsule.Close c s value left end len =
    closed_if (close_in value) c s (nat_lt 0 left) end len
complete capsule.Datagram c s value left end len = goes_on c s (Datagram value) left end
complete capsule.Drain c s value left end len = goes_on c s Draining left end

-- what comes of the content of a session, with so many bytes of it left
abbrev pub capsule_found : Capsules → Connection → Stream → ℕ → ℕ → ℕ → Outcome
capsule_found (Ok None) c s left end len = goes_on c s Skipped left end
capsule_found (Ok (Some x)) c s left end len = complete x.0 c s x.1 left end len
capsule_found (Err capsule_error.TooLong) c s left end len = spoiled c s len
capsule_found (Err capsule_error.Memory) c s left end len = goes_on c s NoMemory left end

abbrev pub CapsulesGive : Connection → Stream → List ℕ → ℕ → ℕ → Outcome → Type 0
CapsulesGive c s piece end len o =
    (r : Capsules)
    × (t : Stream)
    × (b : List ℕ)
    × GivesCapsule r s piece t b
    × (o ≡ capsule_found r c t (length b) end len)

-- content of this size that could not be read before is next
abbrev pub ContentBy : Bool → Connection → Stream → ℕ → List ℕ → Outcome → Type 0
ContentBy true c s size bytes o = o ≡ (0, More, c, s)
ContentBy false c s size bytes o =
    CapsulesGive c s (take size bytes) size (length bytes) o

abbrev pub ContentGives : Connection → Stream → ℕ → List ℕ → Outcome → Type 0
ContentGives c s size bytes o = ContentBy (nat_lt (length bytes) size) c s size bytes o

-- ---- a piece of the content of a message, of a session or of a tunnel, or of a stream of a session

abbrev pub DataBy : Part → Connection → Stream → ℕ → ℕ → List ℕ → Outcome → Type 0
DataBy (part.Head m) c s start end bytes o = o ≡ content_found c s m start end bytes
DataBy (part.Body m) c s start end bytes o = o ≡ content_found c s m start end bytes
DataBy (part.Session size) c s start end bytes o =
    CapsulesGive c s (slice start end bytes) end (length bytes) o
DataBy part.OfSession c s start end bytes o =
    o ≡ (end, StreamData (slice start end bytes), c, s)
DataBy _ c s start end bytes o = o ≡ (end, Data (slice start end bytes), c, s)

abbrev pub DataGives : Connection → Stream → ℕ → ℕ → List ℕ → Outcome → Type 0
DataGives c s start end bytes o = DataBy s.part c s start end bytes o

-- ---- the end

abbrev pub ends_by : Connection → Stream → ℕ → Result (Unit {0}) Malformed → Outcome
ends_by c s len (Ok u) = last c s End len
ends_by c s len (Err rule) = malformed c s rule len

-- The end of a session's own stream closes the session, with the code 0 and no reason, unless it is
-- within a capsule.
pub data SessionEndGives (c : Connection) (s : Stream) (len : ℕ) (o : Outcome) : Type 0 where
  Between : EndsBetween s.capsules
      → o ≡ (len, SessionClosed (0, []), c, with_part s part.Ending)
      → SessionEndGives c s len o
  Within : (EndsBetween s.capsules → ⊥) → o ≡ spoiled c s len → SessionEndGives c s len o

abbrev pub EndBy : Part → Connection → Stream → ℕ → Outcome → Type 0
EndBy (part.Head m) c s len o = o ≡ ends_by c s len (end_of m.stage m.content.left)
EndBy (part.Body m) c s len o = o ≡ ends_by c s len (end_of m.stage m.content.left)
EndBy (part.Session size) c s len o = SessionEndGives c s len o
EndBy _ c s len o = o ≡ last c s End len

abbrev pub EndGives : Connection → Stream → ℕ → Outcome → Type 0
EndGives c s len o = EndBy s.part c s len o

-- ---- field sections

-- A section that is larger than the limits, after n of all bytes. The trailers can be left out;
-- without its header section nothing more of a message is given.
abbrev pub too_large_by : Part → Connection → Stream → Option ℕ → ℕ → Outcome
too_large_by (part.Head m) c s size n =
    (n, TooLarge size, (leaves c s).0, with_part (leaves c s).1 part.NoMessage)
too_large_by _ c s size n = (n, TooLarge size, c, s)

abbrev pub too_large : Connection → Stream → Option ℕ → ℕ → Outcome
too_large c s size n = too_large_by s.part c s size n

-- what a section of a message is
abbrev pub taken_of : Result Section Malformed → Taken
taken_of (Ok (section.Request request)) = taken.Request
taken_of (Ok (section.Interim response)) = taken.Interim response.status
taken_of (Ok (section.Response response)) = taken.Response response.status
taken_of (Ok section.Trailers) = taken.Trailers
taken_of (Err rule) = taken.Malformed rule

-- there was no memory for a section, which is not consumed
abbrev pub lacking_in : Stream → Span → ℕ × Told × Stream
lacking_in s at =
    (at.start, NoMemory, record s { unread = unread.Section (at.end - at.start) })

-- a section that came too early is not consumed, and waits for this
abbrev pub early_in : Stream → Span → Delay → ℕ × Told × Stream
early_in s at why =
    (at.start, Waits (wait_for why), record s { unread = unread.Early (at.end - at.start) why })

abbrev pub early : Connection → Stream → Span → Delay → Outcome
early c s at why =
    (at.start, Waits (wait_for why), c, record s { unread = unread.Early (at.end - at.start) why })

abbrev pub headers_given : HeadersKind → List Field → ℕ → ℕ × Told
headers_given k fields end = (end, Headers k fields)

-- the section of an interim response: the next one is that of another response, unless there were
-- too many
abbrev pub interim_by : Connection → Stream → ℕ → List Field → Span → Joined → Outcome
interim_by c s status fields at (d, t, None) =
    (at.end, Headers (headers.Interim status) fields, with_streams c d, with_frames s t)
interim_by c s status fields at (d, t, Some f) =
    fails (with_streams c d) (with_frames s t) (fault.Streams f) at.len

abbrev pub interim_found : Connection → Stream → ℕ → List Field → Span → Outcome
interim_found c s status fields at =
    interim_by c s status fields at (tells_interim c.streams s.frames)

-- The header section of a request. The server reads nothing of a CONNECT until it is answered, and of
-- one for a session not even this section before the settings of the peer.
abbrev pub request_by : Asks → Connection → Stream → Message → List Field → Span → Outcome
request_by asks.Plain c s m fields at =
    (at.end, Headers headers.Request fields, c, with_part s (part.Body m))
request_by asks.Tunnel c s m fields at =
    (at.end, Headers headers.Request fields, c, with_part s (part.Unanswered false m))
request_by asks.TooEarly c s m fields at = early c s at delay.Settings
request_by asks.Session c s m fields at =
    (at.end, SessionRequested fields, c, with_session (with_part s (part.Unanswered true m)))

abbrev pub request_found : Connection → Stream → Message → List Field → Span → Outcome
request_found c s m fields at = request_by (asks_of c fields) c s m fields at

-- the header section of a final response: one of success to a CONNECT opens a session or a tunnel
abbrev pub response_in : Option Asked → Bool → Stream → Message → ℕ → List Field → Span → ℕ × Told × Stream
response_in (Some asked.Session) true s m status fields at =
    (at.end, SessionReady status fields, with_session (connects s true))
response_in (Some asked.Session) false s m status fields at =
    (at.end, Rejected status fields, with_part s (part.Body m))
response_in (Some asked.Connect) true s m status fields at =
    (at.end, Headers (headers.Response status) fields, connects s false)
response_in _ success s m status fields at =
    (at.end, Headers (headers.Response status) fields, with_part s (part.Body m))

abbrev pub response_found : Stream → Message → ℕ → List Field → Span → ℕ × Told × Stream
response_found s m status fields at =
    response_in s.asked (is_success (Some status)) s m status fields at

abbrev pub in_connection : Connection → ℕ × Told × Stream → Outcome
in_connection c x = (x.0, x.1, c, x.2)

-- a section of a message, and the message after it
abbrev pub takes : Connection → Stream → Message → List Field → Span → Taken → Outcome
takes c s m fields at taken.Request = request_found c s m fields at
takes c s m fields at (taken.Interim status) = interim_found c s status fields at
takes c s m fields at (taken.Response status) =
    in_connection c (response_found s m status fields at)
takes c s m fields at taken.Trailers =
    (at.end, Headers headers.Trailers fields, c, with_part s (part.Body m))
takes c s m fields at (taken.Malformed rule) = malformed c s rule at.len

-- the fields of a message's next section
abbrev pub ReadGives : Connection → Stream → Message → List Field → Span → Outcome → Type 0
ReadGives c s m fields at o =
    (x : Result Section Malformed)
    × (n : Message)
    × SectionComes m.stage m fields x n
    × (o ≡ takes c s n fields at (taken_of x))

-- the result of decoding it
abbrev pub ResultGives :
    Connection → Stream → Message → Span → Result (List Field) FieldSectionError → Outcome → Type 0
ResultGives c s m at (Ok fields) o = ReadGives c s m fields at o
ResultGives c s m at (Err section_error.TooLarge) o = o ≡ too_large c s None at.end
ResultGives c s m at (Err section_error.Memory) o =
    o ≡ (at.start, NoMemory, c, record s { unread = unread.Section (at.end - at.start) })
ResultGives c s m at (Err (section_error.Decoding e)) o = o ≡ fails c s (fault.Section e) at.len

-- The connection after an event of a section that needed so many insertions: it was read, unless the event
-- says that it waits.
abbrev pub read_after : Told → ℕ → Connection → Connection
read_after (Waits why) required c = c
read_after told required c = record c { read = Some (just_read required) }

abbrev pub noted : ℕ → Outcome → Outcome
noted required o = (o.0, o.1, read_after o.1 required o.2, o.3)

-- the fields of a section that needed so many insertions
abbrev pub HasRead :
    Connection → Stream → Message → Span → List Field → ℕ → Outcome → Type 0
HasRead c s m at fields required o =
    (p : Outcome) × ReadGives c s m fields at p × (o ≡ noted required p)

-- the result of decoding it with the dynamic table
abbrev pub OverGives :
    Connection → Stream → Message → Span → Result Decoded TableSectionError → Outcome → Type 0
OverGives c s m at (Ok (decoded.Fields fields required)) o = HasRead c s m at fields required o
OverGives c s m at (Ok (decoded.Blocked required)) o = o ≡ early c s at (delay.Table required)
OverGives c s m at (Err table_error.TooLarge) o = o ≡ too_large c s None at.end
OverGives c s m at (Err table_error.Memory) o =
    o ≡ (at.start, NoMemory, c, record s { unread = unread.Section (at.end - at.start) })
OverGives c s m at (Err (table_error.Section e)) o = o ≡ fails c s (fault.TableSection e) at.len

-- what the table makes of a section, if there is one
abbrev pub DecodedBy :
    Option Decoder → ℕ → List ℕ → Option (Result Decoded TableSectionError) → Type 0
DecodedBy None limit section r = r ≡ None
DecodedBy (Some d) limit section r =
    (x : Result Decoded TableSectionError) × SectionReads limit d.table section x × (r ≡ Some x)

-- One whose prefix refers to a table is decoded with it (RFC 9204, section 2.2), and cannot be decoded
-- where none is allowed.
abbrev pub TableGives :
    Option Decoder → ℕ → Connection → Stream → Message → Span → List ℕ → Outcome → Type 0
TableGives None limit c s m at bytes o = o ≡ fails c s fault.SectionPrefix at.len
TableGives (Some d) limit c s m at bytes o =
    (r : Result Decoded TableSectionError)
    × SectionReads limit d.table (slice at.start at.end bytes) r
    × OverGives c s m at r o

abbrev pub PrefixGives : Bool → ℕ → Connection → Stream → Message → Span → List ℕ → Outcome → Type 0
PrefixGives true limit c s m at bytes o = TableGives c.decoder limit c s m at bytes o
PrefixGives false limit c s m at bytes o =
    (r : Result (List Field) FieldSectionError)
    × DecodesTo limit (slice at.start at.end bytes) r
    × ResultGives c s m at r o

abbrev pub DecodedGives : ℕ → Connection → Stream → Message → Span → List ℕ → Outcome → Type 0
DecodedGives limit c s m at bytes o =
    PrefixGives (names_table (slice at.start at.end bytes)) limit c s m at bytes o

abbrev pub span_in : ℕ → ℕ → List ℕ → Span
span_in start end bytes = record { start = start; end = end; len = length bytes }

-- HEADERS whose payload is from start to end
abbrev pub SectionBy : Part → ℕ → Connection → Stream → ℕ → ℕ → List ℕ → Outcome → Type 0
SectionBy (part.Head m) limit c s start end bytes o =
    DecodedGives limit c s m (span_in start end bytes) bytes o
SectionBy (part.Body m) limit c s start end bytes o =
    DecodedGives limit c s m (span_in start end bytes) bytes o
SectionBy _ limit c s start end bytes o =
    o ≡ (end, Frame kind.Headers (slice start end bytes), c, s)

abbrev pub SectionGives : ℕ → Connection → Stream → ℕ → ℕ → List ℕ → Outcome → Type 0
SectionGives limit c s start end bytes o = SectionBy s.part limit c s start end bytes o

-- ---- one call

-- nothing more is found in the bytes that came: a stream whose session is to come waits for it
abbrev pub told_more : Frames → Told
told_more (frames.Waiting id) = Waits (wait.Session id)
told_more other = More

-- what was found on a stream
abbrev pub FoundGives : ℕ → Found → Connection → Stream → List ℕ → Outcome → Type 0
FoundGives limit (found.Opened p n) c s bytes o = o ≡ found_opened c s p n
FoundGives limit (found.Settings v start end) c s bytes o =
    o ≡ (end, Settings v (slice start end bytes), record c { configured = true }, s)
FoundGives limit (found.Frame kind.Headers start end) c s bytes o =
    SectionGives limit c s start end bytes o
FoundGives limit (found.Frame kind.GoAway start end) c s bytes o =
    o ≡ in_stream s (goaway_found c start end bytes)
FoundGives limit (found.Frame k start end) c s bytes o =
    o ≡ (end, Frame k (slice start end bytes), c, s)
FoundGives limit (found.Data start end) c s bytes o = DataGives c s start end bytes o
FoundGives limit (found.TooLarge size n) c s bytes o =
    o ≡ too_large c s (Some size) n
FoundGives limit (found.More n) c s bytes o = o ≡ (n, told_more s.frames, c, s)
FoundGives limit (found.Fault f) c s bytes o = o ≡ fails c s (fault.Streams f) (length bytes)
FoundGives limit found.End c s bytes o = EndGives c s (length bytes) o

-- a section of this size that could not be read before is next
abbrev pub UnreadBy : Bool → ℕ → Connection → Stream → ℕ → List ℕ → Outcome → Type 0
UnreadBy true limit c s size bytes o = o ≡ (0, More, c, s)
UnreadBy false limit c s size bytes o =
    SectionGives limit c (record s { unread = unread.Nothing }) 0 size bytes o

abbrev pub UnreadGives : ℕ → Connection → Stream → ℕ → List ℕ → Outcome → Type 0
UnreadGives limit c s size bytes o =
    UnreadBy (nat_lt (length bytes) size) limit c s size bytes o

-- the stream goes on
pub record GoesOn (limit : ℕ) (c : Connection) (s : Stream) (bytes : List ℕ) (fin : Bool)
    (o : Outcome) : Type 0 where
  pub x : Found
  pub d : Streams
  pub t : Frames
  pub found : FoundIs x c.streams s.frames bytes fin d t
  pub first : found_by x bytes d t ≡ first_found fin c.streams s.frames bytes
  pub nearer : IsNearer x s.frames bytes t
  pub gives : FoundGives limit x (with_streams c d) (with_frames s t) bytes o

-- what is due comes first
abbrev pub DueGives : Due → ℕ → Connection → Stream → List ℕ → Bool → Outcome → Type 0
DueGives due.Wait limit c s bytes fin o = o ≡ (0, Waits wait.Answer, c, s)
DueGives (due.Content size) limit c s bytes fin o = ContentGives c s size bytes o
DueGives due.Spoiled limit c s bytes fin o = o ≡ spoiled c s (length bytes)
DueGives due.End limit c s bytes fin o = o ≡ last c s End (length bytes)
DueGives due.Lost limit c s bytes fin o = o ≡ last c s SessionLost (length bytes)
DueGives due.Nothing limit c s bytes fin o = GoesOn limit c s bytes fin o

abbrev pub StreamGives : Unread → ℕ → Connection → Stream → List ℕ → Bool → Outcome → Type 0
StreamGives (unread.Early size why) limit c s bytes fin o = UnreadGives limit c s size bytes o
StreamGives (unread.Section size) limit c s bytes fin o = UnreadGives limit c s size bytes o
StreamGives unread.Nothing limit c s bytes fin o =
    DueGives (due_by s.part (length bytes == 0)) limit c s bytes fin o

-- after an error of the connection nothing is given
abbrev pub ReceivesIf : Bool → ℕ → Connection → Stream → List ℕ → Bool → Outcome → Type 0
ReceivesIf true limit c s bytes fin o = o ≡ (length bytes, More, c, s)
ReceivesIf false limit c s bytes fin o = StreamGives s.unread limit c s bytes fin o

abbrev pub Receives : ℕ → Connection → Stream → List ℕ → Bool → Outcome → Type 0
Receives limit c s bytes fin o = ReceivesIf c.over limit c s bytes fin o
