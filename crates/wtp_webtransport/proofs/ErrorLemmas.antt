-- An error of the connection is marked in it, and is the last event of its streams.
use Rattle.std.proofs.Common.{◌≡◌, ℕ, refl, subst, ◌∙◌, cond, Bool, ◌||◌, not, true, false, List, Option, Some, None, Result, Ok, Err, length, nat_lt, ◌==◌, ◌-◌, ◌+◌}
use Rattle.wtp_core.specs.Varint.{number_at}
use Rattle.wtp_core.specs.declared.error.scope.ErrorScope.{ErrorScope}
use Rattle.wtp_core.specs.declared.error.scope.ErrorScope.TheVariants as scope
use Rattle.wtp_qpack.specs.Field.{Field}
use Rattle.wtp_frames.specs.declared.frame_type.FrameType.TheVariants as kind
use Rattle.wtp_frames.specs.Reading.{slice}
use Rattle.wtp_connection.specs.declared.connection.Found.{Found}
use Rattle.wtp_connection.specs.declared.connection.Found.TheVariants as found
use Rattle.wtp_connection.specs.declared.stream.Stream.{Stream as Frames}
use Rattle.wtp_connection.specs.declared.stream.Stream.TheVariants as frames
use Rattle.wtp_connection.specs.declared.stream.Purpose.{Purpose}
use Rattle.wtp_connection.specs.declared.stream.Purpose.TheVariants as «for»
use Rattle.wtp_connection.specs.Streams.{Joined, tells_interim}
use Rattle.wtp_fields.specs.declared.fields.FieldSectionError.{FieldSectionError}
use Rattle.wtp_fields.specs.declared.fields.FieldSectionError.TheVariants as section_error
use Rattle.wtp_messages.specs.declared.malformed.Malformed.{Malformed}
use Rattle.wtp_messages.specs.Content.{fits}
use Rattle.wtp_connection.specs.Opening.{remaining_of}
use Rattle.wtp_dynamic_decoder.specs.Decoder.{Decoder}
use Rattle.wtp_dynamic_fields.specs.declared.section.Decoded.{Decoded}
use Rattle.wtp_dynamic_fields.specs.declared.section.Decoded.TheVariants as decoded
use Rattle.wtp_dynamic_fields.specs.declared.section.TableSectionError.{TableSectionError}
use Rattle.wtp_dynamic_fields.specs.declared.section.TableSectionError.TheVariants as table_error
use Rattle.std.specs.Prelude.{MatchResult}
use Rattle.wtp_dynamic.specs.declared.error.EncoderStreamError.{EncoderStreamError}
use Rattle.wtp_dynamic.specs.Table.{insert_count}
use Rattle.wtp_webtransport.specs.Prefix.{names_table}
use Rattle.wtp_messages.specs.declared.message.Message.{Message}
use Rattle.wtp_messages.specs.declared.response.Asked.{Asked}
use Rattle.wtp_messages.specs.declared.response.Asked.TheVariants as asked
use Rattle.wtp_messages.specs.Message.{end_of}
use Rattle.wtp_messages.specs.Response.{is_success}
use Rattle.wtp_wire.specs.declared.capsule.CapsuleError.TheVariants as capsule_error
use Rattle.wtp_wire.specs.CloseSession.{close_in}
use Rattle.wtp_webtransport.specs.declared.capsules.CapsuleType.{CapsuleType}
use Rattle.wtp_webtransport.specs.declared.capsules.CapsuleType.TheVariants as capsule
use Rattle.wtp_webtransport.specs.Capsules.{Found as Capsules}
use Rattle.wtp_webtransport.specs.declared.fault.Fault.{Fault}
use Rattle.wtp_webtransport.specs.declared.fault.Fault.TheVariants as fault
use Rattle.wtp_webtransport.specs.declared.connection.Connection.{Connection}
use Rattle.wtp_webtransport.specs.declared.connection.messages.Asks.{Asks}
use Rattle.wtp_webtransport.specs.declared.connection.messages.Asks.TheVariants as asks
use Rattle.wtp_webtransport.specs.declared.connection.messages.Span.{Span}
use Rattle.wtp_webtransport.specs.declared.connection.messages.Taken.{Taken}
use Rattle.wtp_webtransport.specs.declared.connection.messages.Taken.TheVariants as taken
use Rattle.wtp_webtransport.specs.declared.stream.Stream.{Stream}
use Rattle.wtp_webtransport.specs.declared.stream.Part.{Part}
use Rattle.wtp_webtransport.specs.declared.stream.Part.TheVariants as part
use Rattle.wtp_webtransport.specs.declared.stream.Unread.{Unread}
use Rattle.wtp_webtransport.specs.declared.stream.Unread.TheVariants as unread
use Rattle.wtp_webtransport.specs.declared.stream.Due.TheVariants as due
use Rattle.wtp_webtransport.specs.Events.{Told}
use Rattle.wtp_webtransport.specs.Events as told
use Rattle.wtp_webtransport.specs.Fault.{scope_of}
use Rattle.wtp_webtransport.specs.Sessions.{asks_of}
use Rattle.wtp_webtransport.specs.Streams.{with_streams, with_frames, spoiled_if, due_by}
use Rattle.wtp_webtransport.specs.Receiving.{Outcome, closed_in, fails, goaway_in, in_stream, leaves, spoiled, found_opened, content_by, closed_if, complete, capsule_found, CapsulesGive, ContentBy, DataBy, ends_by, SessionEndGives, Between, Within, EndBy, too_large_by, interim_by, request_by, response_in, takes, taken_of, ResultGives, PrefixGives, span_in, SectionBy, told_more, FoundGives, UnreadBy, GoesOn, DueGives, StreamGives, ReceivesIf, Receives, read_after, noted, OverGives, TableGives}
use Rattle.wtp_webtransport.specs.Tables.{with_decoder, InstructionsGive}
use Rattle.wtp_webtransport.specs.Endings.{is_error, Marks}

-- ---- events that are no errors

pub no : (b : Bool) → b ≡ (b || false)
no true = refl
no false = refl

yes : (b : Bool) → true ≡ (b || true)
yes true = refl
yes false = refl

pub calm : (c d : Connection) (told : Told)
    → is_error told ≡ false
    → d.over ≡ c.over
    → d.over ≡ (c.over || is_error told)
calm c d told e k = rw (e, k) (no c.over)

-- the outcome is another one
at : (c : Connection) (o x : Outcome) → o ≡ x → Marks c x → Marks c o
at c o x e k = rw e k

-- ---- errors

pub fault_marks : (c : Connection) (f : Fault) (k : ErrorScope)
    → (closed_in c f k).0.over ≡ (c.over || is_error (closed_in c f k).1)
fault_marks c f scope.Stream = no c.over
fault_marks c f _ = yes c.over

fails_mark : (c : Connection) (s : Stream) (f : Fault) (len : ℕ) → Marks c (fails c s f len)
fails_mark c s f len = fault_marks c f (scope_of f)

spoiled_marks : (c : Connection) (s : Stream) (len : ℕ) → Marks c (spoiled c s len)
spoiled_marks c s len = fails_mark (leaves c s).0 (leaves c s).1 fault.Capsule len

-- ---- capsules

closed_marks : (x : Option (ℕ × List ℕ)) (c : Connection) (s : Stream) (more : Bool) (end len : ℕ)
    → Marks c (closed_if x c s more end len)
closed_marks None c s more end len = spoiled_marks c s len
closed_marks (Some close) c s more end len = no c.over

complete_marks : (k : CapsuleType) (c : Connection) (s : Stream) (value : List ℕ) (left end len : ℕ)
    → Marks c (complete k c s value left end len)
complete_marks capsule.Close c s value left end len =
    closed_marks (close_in value) c s (nat_lt 0 left) end len
complete_marks capsule.Datagram c s value left end len = no c.over
complete_marks capsule.Drain c s value left end len = no c.over

capsule_marks : (r : Capsules) (c : Connection) (s : Stream) (left end len : ℕ)
    → Marks c (capsule_found r c s left end len)
capsule_marks (Ok None) c s left end len = no c.over
capsule_marks (Ok (Some x)) c s left end len = complete_marks x.0 c s x.1 left end len
capsule_marks (Err capsule_error.TooLong) c s left end len = spoiled_marks c s len
capsule_marks (Err capsule_error.Memory) c s left end len = no c.over

capsules_mark : (c : Connection) (s : Stream) (piece : List ℕ) (end len : ℕ) (o : Outcome)
    → CapsulesGive c s piece end len o
    → Marks c o
capsules_mark c s piece end len o g =
    at c o (capsule_found g.0 c g.1 (length g.2) end len) g.4
    (capsule_marks g.0 c g.1 (length g.2) end len)

content_marks : (b : Bool) (c : Connection) (s : Stream) (size : ℕ) (bytes : List ℕ) (o : Outcome)
    → ContentBy b c s size bytes o
    → Marks c o
content_marks true c s size bytes o g = at c o _ g (no c.over)
content_marks false c s size bytes o g = capsules_mark c s _ size (length bytes) o g

-- ---- messages

piece_marks : (fit : Bool) (c : Connection) (s : Stream) (m : Message) (start end : ℕ) (bytes : List ℕ)
    → Marks c (content_by fit c s m start end bytes)
piece_marks true c s m start end bytes = no c.over
piece_marks false c s m start end bytes = no c.over

data_marks : (p : Part) (c : Connection) (s : Stream) (start end : ℕ) (bytes : List ℕ) (o : Outcome)
    → DataBy p c s start end bytes o
    → Marks c o
data_marks (part.Head m) c s start end bytes o g =
    at c o _ g (piece_marks (fits m.content.left ((end - start) + remaining_of s.frames)) c s m start end bytes)
data_marks (part.Body m) c s start end bytes o g =
    at c o _ g (piece_marks (fits m.content.left ((end - start) + remaining_of s.frames)) c s m start end bytes)
data_marks (part.Session n) c s start end bytes o g = capsules_mark c s _ end (length bytes) o g
data_marks part.OfSession c s start end bytes o g = at c o _ g (no c.over)
data_marks _ c s start end bytes o g = at c o _ g (no c.over)

opened_marks : (p : Purpose) (c : Connection) (s : Stream) (n : ℕ) → Marks c (found_opened c s p n)
opened_marks («for».Session id) c s n = no c.over
opened_marks «for».Message c s n = no c.over
opened_marks _ c s n = no c.over

finish_marks : (r : Result (Unit {0}) Malformed) (c : Connection) (s : Stream) (len : ℕ)
    → Marks c (ends_by c s len r)
finish_marks (Ok u) c s len = no c.over
finish_marks (Err rule) c s len = no c.over

session_end_marks : (c : Connection) (s : Stream) (len : ℕ) (o : Outcome)
    → SessionEndGives c s len o
    → Marks c o
session_end_marks c s len o (Between b e) = at c o _ e (no c.over)
session_end_marks c s len o (Within cut e) = at c o _ e (spoiled_marks c s len)

end_marks : (p : Part) (c : Connection) (s : Stream) (len : ℕ) (o : Outcome)
    → EndBy p c s len o
    → Marks c o
end_marks (part.Head m) c s len o g =
    at c o _ g (finish_marks (end_of m.stage m.content.left) c s len)
end_marks (part.Body m) c s len o g =
    at c o _ g (finish_marks (end_of m.stage m.content.left) c s len)
end_marks (part.Session n) c s len o g = session_end_marks c s len o g
end_marks _ c s len o g = at c o _ g (no c.over)

too_large_marks : (p : Part) (c : Connection) (s : Stream) (size : Option ℕ) (n : ℕ)
    → Marks c (too_large_by p c s size n)
too_large_marks (part.Head m) c s size n = no c.over
too_large_marks _ c s size n = no c.over

-- ---- field sections

interim_marks : (x : Joined) (c : Connection) (s : Stream) (status : ℕ) (fields : List Field) (span : Span)
    → Marks c (interim_by c s status fields span x)
interim_marks (d, t, None) c s status fields span = no c.over
interim_marks (d, t, Some f) c s status fields span =
    fails_mark (with_streams c d) (with_frames s t) (fault.Streams f) span.len

request_marks : (a : Asks) (c : Connection) (s : Stream) (m : Message) (fields : List Field) (span : Span)
    → Marks c (request_by a c s m fields span)
request_marks asks.Plain c s m fields span = no c.over
request_marks asks.Tunnel c s m fields span = no c.over
request_marks asks.TooEarly c s m fields span = no c.over
request_marks asks.Session c s m fields span = no c.over

response_calm : (a : Option Asked) (success : Bool) (s : Stream) (m : Message) (status : ℕ) (fields : List Field) (span : Span)
    → is_error (response_in a success s m status fields span).1 ≡ false
response_calm (Some asked.Session) true s m status fields span = refl
response_calm (Some asked.Session) false s m status fields span = refl
response_calm (Some asked.Connect) true s m status fields span = refl
response_calm _ success s m status fields span = refl

takes_marks : (k : Taken) (c : Connection) (s : Stream) (m : Message) (fields : List Field) (span : Span)
    → Marks c (takes c s m fields span k)
takes_marks taken.Request c s m fields span = request_marks (asks_of c fields) c s m fields span
takes_marks (taken.Interim status) c s m fields span =
    interim_marks (tells_interim c.streams s.frames) c s status fields span
takes_marks (taken.Response status) c s m fields span =
    calm c c _ (response_calm s.asked (is_success (Some status)) s m status fields span) refl
takes_marks taken.Trailers c s m fields span = no c.over
takes_marks (taken.Malformed rule) c s m fields span = no c.over

result_marks : (r : Result (List Field) FieldSectionError) (c : Connection) (s : Stream) (m : Message) (span : Span) (o : Outcome)
    → ResultGives c s m span r o
    → Marks c o
result_marks (Ok fields) c s m span o g = at c o _ g.3 (takes_marks (taken_of g.0) c s g.1 fields span)
result_marks (Err section_error.TooLarge) c s m span o g =
    at c o _ g (too_large_marks s.part c s None span.end)
result_marks (Err section_error.Memory) c s m span o g = at c o _ g (no c.over)
result_marks (Err (section_error.Decoding x)) c s m span o g =
    at c o _ g (fails_mark c s (fault.Section x) span.len)

-- an error of the connection is the same with a section that was read
noted_over : (t : Told) (required : ℕ) (c : Connection) → (read_after t required c).over ≡ c.over
noted_over (told.Waits why) required c = refl
noted_over t required c = refl

noted_marks : (required : ℕ) (c : Connection) (p : Outcome) → Marks c p → Marks c (noted required p)
noted_marks required c p h = noted_over p.1 required p.2 ∙ h

over_marks : (r : Result Decoded TableSectionError) (c : Connection) (s : Stream) (m : Message) (span : Span) (o : Outcome)
    → OverGives c s m span r o
    → Marks c o
over_marks (Ok (decoded.Fields fields required)) c s m span o g =
    at c o _ g.2 (noted_marks required c g.0 (result_marks (Ok fields) c s m span g.0 g.1))
over_marks (Ok (decoded.Blocked required)) c s m span o g = at c o _ g (no c.over)
over_marks (Err table_error.TooLarge) c s m span o g =
    at c o _ g (too_large_marks s.part c s None span.end)
over_marks (Err table_error.Memory) c s m span o g = at c o _ g (no c.over)
over_marks (Err (table_error.Section x)) c s m span o g =
    at c o _ g (fails_mark c s (fault.TableSection x) span.len)

table_marks : (d : Option Decoder) (limit : ℕ) (c : Connection) (s : Stream) (m : Message) (span : Span) (bytes : List ℕ) (o : Outcome)
    → TableGives d limit c s m span bytes o
    → Marks c o
table_marks None limit c s m span bytes o g = at c o _ g (fails_mark c s fault.SectionPrefix span.len)
table_marks (Some d) limit c s m span bytes o g = over_marks g.0 c s m span o g.2

prefix_marks : (names : Bool) (limit : ℕ) (c : Connection) (s : Stream) (m : Message) (span : Span) (bytes : List ℕ) (o : Outcome)
    → PrefixGives names limit c s m span bytes o
    → Marks c o
prefix_marks true limit c s m span bytes o g = table_marks c.decoder limit c s m span bytes o g
prefix_marks false limit c s m span bytes o g = result_marks g.0 c s m span o g.2

section_marks : (p : Part) (limit : ℕ) (c : Connection) (s : Stream) (start end : ℕ) (bytes : List ℕ) (o : Outcome)
    → SectionBy p limit c s start end bytes o
    → Marks c o
section_marks (part.Head m) limit c s start end bytes o g =
    prefix_marks (names_table (slice start end bytes)) limit c s m (span_in start end bytes) bytes o g
section_marks (part.Body m) limit c s start end bytes o g =
    prefix_marks (names_table (slice start end bytes)) limit c s m (span_in start end bytes) bytes o g
section_marks _ limit c s start end bytes o g = at c o _ g (no c.over)

-- ---- calls

goaway_marks : (x : Option (ℕ × List ℕ)) (c : Connection) (s : Stream) (end : ℕ) (payload : List ℕ)
    → Marks c (in_stream s (goaway_in x c end payload))
goaway_marks None c s end payload = no c.over
goaway_marks (Some x) c s end payload = no c.over

more_calm : (t : Frames) → is_error (told_more t) ≡ false
more_calm (frames.Waiting id) = refl
more_calm _ = refl

found_marks : (x : Found) (limit : ℕ) (c : Connection) (s : Stream) (bytes : List ℕ) (o : Outcome)
    → FoundGives limit x c s bytes o
    → Marks c o
found_marks (found.Opened p n) limit c s bytes o g = at c o _ g (opened_marks p c s n)
found_marks (found.Settings v start end) limit c s bytes o g = at c o _ g (no c.over)
found_marks (found.Frame kind.Headers start end) limit c s bytes o g =
    section_marks s.part limit c s start end bytes o g
found_marks (found.Frame kind.GoAway start end) limit c s bytes o g =
    at c o _ g (goaway_marks (number_at (slice start end bytes)) c s end (slice start end bytes))
found_marks (found.Frame _ start end) limit c s bytes o g = at c o _ g (no c.over)
found_marks (found.Data start end) limit c s bytes o g = data_marks s.part c s start end bytes o g
found_marks (found.TooLarge size n) limit c s bytes o g =
    at c o _ g (too_large_marks s.part c s (Some size) n)
found_marks (found.More n) limit c s bytes o g = at c o _ g (calm c c _ (more_calm s.frames) refl)
found_marks (found.Fault x) limit c s bytes o g =
    at c o _ g (fails_mark c s (fault.Streams x) (length bytes))
found_marks found.End limit c s bytes o g = end_marks s.part c s (length bytes) o g

goes_marks : (limit : ℕ) (c : Connection) (s : Stream) (bytes : List ℕ) (fin : Bool) (o : Outcome)
    → GoesOn limit c s bytes fin o
    → Marks c o
goes_marks limit c s bytes fin o g =
    found_marks g.x limit (with_streams c g.d) (with_frames s g.t) bytes o g.gives

spoiled_due_marks : (b : Bool) (limit : ℕ) (c : Connection) (s : Stream) (bytes : List ℕ) (fin : Bool) (o : Outcome)
    → DueGives (spoiled_if b) limit c s bytes fin o
    → Marks c o
spoiled_due_marks true limit c s bytes fin o g = at c o _ g (spoiled_marks c s (length bytes))
spoiled_due_marks false limit c s bytes fin o g = goes_marks limit c s bytes fin o g

content_due_marks : (b : Bool) (n limit : ℕ) (c : Connection) (s : Stream) (bytes : List ℕ) (fin : Bool) (o : Outcome)
    → DueGives (cond b (due.Content n) due.Nothing) limit c s bytes fin o
    → Marks c o
content_due_marks true n limit c s bytes fin o g = content_marks (nat_lt (length bytes) n) c s n bytes o g
content_due_marks false n limit c s bytes fin o g = goes_marks limit c s bytes fin o g

due_marks : (p : Part) (empty : Bool) (limit : ℕ) (c : Connection) (s : Stream) (bytes : List ℕ) (fin : Bool) (o : Outcome)
    → DueGives (due_by p empty) limit c s bytes fin o
    → Marks c o
due_marks (part.Unanswered session m) empty limit c s bytes fin o g = at c o _ g (no c.over)
due_marks (part.Closed more) empty limit c s bytes fin o g =
    spoiled_due_marks (more || not empty) limit c s bytes fin o g
due_marks (part.Session n) empty limit c s bytes fin o g =
    content_due_marks (nat_lt 0 n) n limit c s bytes fin o g
due_marks part.Ending empty limit c s bytes fin o g = at c o _ g (no c.over)
due_marks part.Losing empty limit c s bytes fin o g = at c o _ g (no c.over)
due_marks _ empty limit c s bytes fin o g = goes_marks limit c s bytes fin o g

unread_marks : (b : Bool) (limit : ℕ) (c : Connection) (s : Stream) (size : ℕ) (bytes : List ℕ) (o : Outcome)
    → UnreadBy b limit c s size bytes o
    → Marks c o
unread_marks true limit c s size bytes o g = at c o _ g (no c.over)
unread_marks false limit c s size bytes o g =
    section_marks s.part limit c (record s { unread = unread.Nothing }) 0 size bytes o g

stream_marks : (u : Unread) (limit : ℕ) (c : Connection) (s : Stream) (bytes : List ℕ) (fin : Bool) (o : Outcome)
    → StreamGives u limit c s bytes fin o
    → Marks c o
stream_marks (unread.Early size why) limit c s bytes fin o g =
    unread_marks (nat_lt (length bytes) size) limit c s size bytes o g
stream_marks (unread.Section size) limit c s bytes fin o g =
    unread_marks (nat_lt (length bytes) size) limit c s size bytes o g
stream_marks unread.Nothing limit c s bytes fin o g =
    due_marks s.part (length bytes == 0) limit c s bytes fin o g

receives_mark : (b : Bool) (limit : ℕ) (c : Connection) (s : Stream) (bytes : List ℕ) (fin : Bool) (o : Outcome)
    → ReceivesIf b limit c s bytes fin o
    → Marks c o
receives_mark true limit c s bytes fin o g = at c o _ g (no c.over)
receives_mark false limit c s bytes fin o g = stream_marks s.unread limit c s bytes fin o g

pub errors_marked : (limit : ℕ) (c : Connection) (s : Stream) (bytes : List ℕ) (fin : Bool) (o : Outcome)
    → Receives limit c s bytes fin o
    → Marks c o
errors_marked limit c s bytes fin o g = receives_mark c.over limit c s bytes fin o g

-- ---- after an error

pub rests : (limit : ℕ) (c : Connection) (s : Stream) (bytes : List ℕ) (fin : Bool) (o : Outcome)
    → c.over ≡ true
    → Receives limit c s bytes fin o
    → o ≡ (length bytes, told.More, c, s)
rests limit c s bytes fin o e g = subst (λ (b : Bool). ReceivesIf b limit c s bytes fin o) e g

-- ---- instructions

read_marks : (r : Result (Unit {0}) EncoderStreamError) (c : Connection) (e : Decoder) (s : Stream) (bytes : List ℕ) (o : Outcome)
    → MatchResult r
    (λ _. o ≡ (length bytes, told.Inserted (insert_count e.table), with_decoder c e, s))
    (λ f. o ≡ fails (with_decoder c e) s (fault.Instructions f) (length bytes))
    → Marks c o
read_marks (Ok u) c e s bytes o g = at c o _ g (no c.over)
read_marks (Err f) c e s bytes o g =
    at c o _ g (fails_mark (with_decoder c e) s (fault.Instructions f) (length bytes))

pub instructions_marked : (d : Decoder) (c : Connection) (s : Stream) (bytes : List ℕ) (o : Outcome)
    → InstructionsGive d c s bytes o
    → Marks c o
instructions_marked d c s bytes o (e, r, read, g) = read_marks r c e s bytes o g
