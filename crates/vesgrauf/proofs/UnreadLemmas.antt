-- A call that gives a piece of content reads no section, and none is one after an error of the connection.
use Rattle.std.proofs.Common.{◌≡◌, ℕ, refl, sym, ap, ◌∙◌, cond, Bool, ◌||◌, ◌&&◌, not, true, false, List, Option, Some, None, Result, Ok, Err, length, nat_lt, ◌==◌, ◌-◌, ◌+◌}
use Rattle.std.specs.Prelude.{MatchResult}
use Rattle.wtp_core.specs.Varint.{number_at}
use Rattle.wtp_core.specs.declared.error.scope.ErrorScope.{ErrorScope}
use Rattle.wtp_core.specs.declared.error.scope.ErrorScope.TheVariants as scope
use Rattle.wtp_qpack.specs.Field.{Field}
use Rattle.wtp_frames.specs.declared.frame_type.FrameType.TheVariants as kind
use Rattle.wtp_frames.specs.Reading.{slice}
use Rattle.wtp_connection.specs.declared.connection.Found.{Found}
use Rattle.wtp_connection.specs.declared.connection.Found.TheVariants as found
use Rattle.wtp_connection.specs.declared.stream.Stream.{Stream as Frames}
use Rattle.wtp_connection.specs.declared.stream.Stream.TheVariants as frames
use Rattle.wtp_connection.specs.declared.stream.Purpose.{Purpose}
use Rattle.wtp_connection.specs.declared.stream.Purpose.TheVariants as «for»
use Rattle.wtp_connection.specs.Streams.{Joined, tells_interim}
use Rattle.wtp_connection.specs.Opening.{remaining_of}
use Rattle.wtp_fields.specs.declared.fields.FieldSectionError.{FieldSectionError}
use Rattle.wtp_fields.specs.declared.fields.FieldSectionError.TheVariants as section_error
use Rattle.wtp_messages.specs.declared.malformed.Malformed.{Malformed}
use Rattle.wtp_messages.specs.Content.{fits}
use Rattle.wtp_messages.specs.declared.message.Message.{Message}
use Rattle.wtp_messages.specs.declared.message.Section.{Section}
use Rattle.wtp_messages.specs.declared.message.Section.TheVariants as section
use Rattle.wtp_messages.specs.Request.{is_connect, asks_for_session}
use Rattle.wtp_messages.specs.declared.response.Asked.{Asked}
use Rattle.wtp_messages.specs.declared.response.Asked.TheVariants as asked
use Rattle.wtp_messages.specs.Message.{end_of}
use Rattle.wtp_messages.specs.Response.{is_success}
use Rattle.wtp_dynamic.specs.declared.error.EncoderStreamError.{EncoderStreamError}
use Rattle.wtp_dynamic.specs.Table.{insert_count}
use Rattle.wtp_dynamic_decoder.specs.Decoder.{Decoder}
use Rattle.wtp_dynamic_fields.specs.declared.section.Decoded.{Decoded}
use Rattle.wtp_dynamic_fields.specs.declared.section.Decoded.TheVariants as decoded
use Rattle.wtp_dynamic_fields.specs.declared.section.TableSectionError.{TableSectionError}
use Rattle.wtp_dynamic_fields.specs.declared.section.TableSectionError.TheVariants as table_error
use Rattle.wtp_wire.specs.declared.capsule.CapsuleError.TheVariants as capsule_error
use Rattle.wtp_wire.specs.CloseSession.{close_in}
use Rattle.wtp_webtransport.specs.Prefix.{names_table}
use Rattle.wtp_webtransport.specs.declared.capsules.CapsuleType.{CapsuleType}
use Rattle.wtp_webtransport.specs.declared.capsules.CapsuleType.TheVariants as capsule
use Rattle.wtp_webtransport.specs.Capsules.{Found as Capsules}
use Rattle.wtp_webtransport.specs.declared.fault.Fault.{Fault}
use Rattle.wtp_webtransport.specs.declared.fault.Fault.TheVariants as fault
use Rattle.wtp_webtransport.specs.declared.connection.Connection.{Connection}
use Rattle.wtp_webtransport.specs.declared.stream.Stream.{Stream}
use Rattle.wtp_webtransport.specs.declared.stream.Part.{Part}
use Rattle.wtp_webtransport.specs.declared.stream.Part.TheVariants as part
use Rattle.wtp_webtransport.specs.declared.stream.Unread.{Unread}
use Rattle.wtp_webtransport.specs.declared.stream.Unread.TheVariants as unread
use Rattle.wtp_webtransport.specs.Events.{Told}
use Rattle.wtp_webtransport.specs.Events as told
use Rattle.wtp_webtransport.specs.Fault.{scope_of}
use Rattle.wtp_webtransport.specs.Sessions.{allows_sessions, asks_session, asks_connect, asks_by}
use Rattle.wtp_webtransport.specs.Streams.{with_streams, with_frames, spoiled_if, due_by}
use Rattle.wtp_webtransport.specs.Receiving.{Outcome, closed_in, fails, goaway_in, in_stream, leaves, spoiled, found_opened, content_by, closed_if, complete, capsule_found, CapsulesGive, ContentBy, DataBy, ends_by, SessionEndGives, Between, Within, EndBy, too_large_by, interim_by, request_by, response_in, takes, taken_of, ResultGives, PrefixGives, span_in, SectionBy, told_more, FoundGives, UnreadBy, GoesOn, DueGives, StreamGives, ReceivesIf, noted, OverGives, TableGives}
use Rattle.wtp_webtransport.specs.Tables.{without_read, with_decoder, instructed, instructed_by, CallBy, Call}
use Rattle.vesgrauf.specs.Instructions.{is_piece}

-- a piece is given, and nothing is to be acknowledged
abbrev IsPlain : Outcome → Type 0
IsPlain o = is_piece o.1 ≡ true → o.2.read ≡ None

-- it is none
other : (o : Outcome) → is_piece o.1 ≡ false → IsPlain o
other o n e = absurd (let bad : false ≡ true = sym n ∙ e in cc)

-- the outcome is another one
at : (o x : Outcome) → o ≡ x → IsPlain x → IsPlain o
at o x e k = rw e k

-- ---- errors

fault_other : (c : Connection) (f : Fault) (k : ErrorScope) → is_piece (closed_in c f k).1 ≡ false
fault_other c f scope.Stream = refl
fault_other c f _ = refl

fails_plain : (c : Connection) (s : Stream) (f : Fault) (len : ℕ) → IsPlain (fails c s f len)
fails_plain c s f len = other (fails c s f len) (fault_other c f (scope_of f))

spoiled_plain : (c : Connection) (s : Stream) (len : ℕ) → IsPlain (spoiled c s len)
spoiled_plain c s len = fails_plain (leaves c s).0 (leaves c s).1 fault.Capsule len

-- ---- capsules

closed_plain : (x : Option (ℕ × List ℕ)) (c : Connection) (s : Stream) (more : Bool) (end len : ℕ)
    → IsPlain (closed_if x c s more end len)
closed_plain None c s more end len = spoiled_plain c s len
closed_plain (Some close) c s more end len = other (closed_if (Some close) c s more end len) refl

complete_plain : (k : CapsuleType) (c : Connection) (s : Stream) (value : List ℕ) (left end len : ℕ)
    → IsPlain (complete k c s value left end len)
complete_plain capsule.Close c s value left end len =
    closed_plain (close_in value) c s (nat_lt 0 left) end len
complete_plain capsule.Datagram c s value left end len =
    other (complete capsule.Datagram c s value left end len) refl
complete_plain capsule.Drain c s value left end len = other (complete capsule.Drain c s value left end len) refl

capsule_plain : (r : Capsules) (c : Connection) (s : Stream) (left end len : ℕ)
    → IsPlain (capsule_found r c s left end len)
capsule_plain (Ok None) c s left end len = other (capsule_found (Ok None) c s left end len) refl
capsule_plain (Ok (Some x)) c s left end len = complete_plain x.0 c s x.1 left end len
capsule_plain (Err capsule_error.TooLong) c s left end len = spoiled_plain c s len
capsule_plain (Err capsule_error.Memory) c s left end len =
    other (capsule_found (Err capsule_error.Memory) c s left end len) refl

capsules_plain : (c : Connection) (s : Stream) (piece : List ℕ) (end len : ℕ) (o : Outcome)
    → CapsulesGive c s piece end len o → IsPlain o
capsules_plain c s piece end len o g =
    at o (capsule_found g.0 c g.1 (length g.2) end len) g.4 (capsule_plain g.0 c g.1 (length g.2) end len)

content_plain : (b : Bool) (c : Connection) (s : Stream) (size : ℕ) (bytes : List ℕ) (o : Outcome)
    → ContentBy b c s size bytes o → IsPlain o
content_plain true c s size bytes o g = at o (0, told.More, c, s) g (other (0, told.More, c, s) refl)
content_plain false c s size bytes o g = capsules_plain c s _ size (length bytes) o g

-- ---- messages

piece_plain : (fit : Bool) (c : Connection) (s : Stream) (m : Message) (start end : ℕ) (bytes : List ℕ)
    → c.read ≡ None → IsPlain (content_by fit c s m start end bytes)
piece_plain true c s m start end bytes r = λ e. r
piece_plain false c s m start end bytes r = other (content_by false c s m start end bytes) refl

data_plain : (p : Part) (c : Connection) (s : Stream) (start end : ℕ) (bytes : List ℕ) (o : Outcome)
    → c.read ≡ None → DataBy p c s start end bytes o → IsPlain o
data_plain (part.Head m) c s start end bytes o r g =
    at o _ g (piece_plain (fits m.content.left ((end - start) + remaining_of s.frames)) c s m start end bytes r)
data_plain (part.Body m) c s start end bytes o r g =
    at o _ g (piece_plain (fits m.content.left ((end - start) + remaining_of s.frames)) c s m start end bytes r)
data_plain (part.Session n) c s start end bytes o r g = capsules_plain c s _ end (length bytes) o g
data_plain part.OfSession c s start end bytes o r g =
    at o (end, told.StreamData (slice start end bytes), c, s) g (λ e. r)
data_plain _ c s start end bytes o r g = at o (end, told.Data (slice start end bytes), c, s) g (λ e. r)

opened_plain : (p : Purpose) (c : Connection) (s : Stream) (n : ℕ) → IsPlain (found_opened c s p n)
opened_plain («for».Session id) c s n = other (found_opened c s («for».Session id) n) refl
opened_plain «for».Message c s n = other (found_opened c s «for».Message n) refl
opened_plain p c s n = other (found_opened c s p n) refl

finish_plain : (r : Result (Unit {0}) Malformed) (c : Connection) (s : Stream) (len : ℕ)
    → IsPlain (ends_by c s len r)
finish_plain (Ok u) c s len = other (ends_by c s len (Ok u)) refl
finish_plain (Err rule) c s len = other (ends_by c s len (Err rule)) refl

session_end_plain : (c : Connection) (s : Stream) (len : ℕ) (o : Outcome) → SessionEndGives c s len o → IsPlain o
session_end_plain c s len o (Between b e) =
    other o (rw e refl)
session_end_plain c s len o (Within cut e) = at o (spoiled c s len) e (spoiled_plain c s len)

end_plain : (p : Part) (c : Connection) (s : Stream) (len : ℕ) (o : Outcome) → EndBy p c s len o → IsPlain o
end_plain (part.Head m) c s len o g = at o _ g (finish_plain (end_of m.stage m.content.left) c s len)
end_plain (part.Body m) c s len o g = at o _ g (finish_plain (end_of m.stage m.content.left) c s len)
end_plain (part.Session n) c s len o g = session_end_plain c s len o g
end_plain _ c s len o g = other o (rw g refl)

too_large_plain : (p : Part) (c : Connection) (s : Stream) (size : Option ℕ) (n : ℕ)
    → IsPlain (too_large_by p c s size n)
too_large_plain (part.Head m) c s size n = other (too_large_by (part.Head m) c s size n) refl
too_large_plain p c s size n = other (too_large_by p c s size n) refl

-- ---- field sections

interim_plain : (x : Joined) (c : Connection) (s : Stream) (status : ℕ) (fields : List Field) (start end : ℕ)
    (bytes : List ℕ) → is_piece (interim_by c s status fields (span_in start end bytes) x).1 ≡ false
interim_plain (d, t, None) c s status fields start end bytes = refl
interim_plain (d, t, Some f) c s status fields start end bytes =
    fault_other (with_streams c d) (fault.Streams f) (scope_of (fault.Streams f))

asked_plain : (x y : Bool) (c : Connection) (s : Stream) (m : Message) (fields : List Field) (start end : ℕ)
    (bytes : List ℕ) → is_piece (request_by (asks_session x y) c s m fields (span_in start end bytes)).1 ≡ false
asked_plain false y c s m fields start end bytes = refl
asked_plain true true c s m fields start end bytes = refl
asked_plain true false c s m fields start end bytes = refl

connect_plain : (x : Bool) (c : Connection) (s : Stream) (m : Message) (fields : List Field) (start end : ℕ)
    (bytes : List ℕ) → is_piece (request_by (asks_connect c x) c s m fields (span_in start end bytes)).1 ≡ false
connect_plain false c s m fields start end bytes = refl
connect_plain true c s m fields start end bytes =
    asked_plain c.configured (allows_sessions c) c s m fields start end bytes

request_plain : (x y : Bool) (c : Connection) (s : Stream) (m : Message) (fields : List Field) (start end : ℕ)
    (bytes : List ℕ) → is_piece (request_by (asks_by c x y) c s m fields (span_in start end bytes)).1 ≡ false
request_plain false y c s m fields start end bytes = refl
request_plain true y c s m fields start end bytes =
    connect_plain (c.endpoint.webtransport && y) c s m fields start end bytes

response_plain : (a : Option Asked) (success : Bool) (s : Stream) (m : Message) (status : ℕ) (fields : List Field)
    (start end : ℕ) (bytes : List ℕ)
    → is_piece (response_in a success s m status fields (span_in start end bytes)).1 ≡ false
response_plain (Some asked.Session) true s m status fields start end bytes = refl
response_plain (Some asked.Session) false s m status fields start end bytes = refl
response_plain (Some asked.Connect) true s m status fields start end bytes = refl
response_plain _ success s m status fields start end bytes = refl

takes_plain : (x : Result Section Malformed) (c : Connection) (s : Stream) (m : Message) (fields : List Field)
    (start end : ℕ) (bytes : List ℕ)
    → is_piece (takes c s m fields (span_in start end bytes) (taken_of x)).1 ≡ false
takes_plain (Ok (section.Request q)) c s m fields start end bytes =
    request_plain (is_connect fields) (asks_for_session fields) c s m fields start end bytes
takes_plain (Ok (section.Interim q)) c s m fields start end bytes =
    interim_plain (tells_interim c.streams s.frames) c s q.status fields start end bytes
takes_plain (Ok (section.Response q)) c s m fields start end bytes =
    response_plain s.asked (is_success (Some q.status)) s m q.status fields start end bytes
takes_plain (Ok section.Trailers) c s m fields start end bytes = refl
takes_plain (Err rule) c s m fields start end bytes = refl

result_plain : (r : Result (List Field) FieldSectionError) (c : Connection) (s : Stream) (m : Message) (start end : ℕ)
    (bytes : List ℕ) (o : Outcome) → ResultGives c s m (span_in start end bytes) r o → IsPlain o
result_plain (Ok fields) c s m start end bytes o g =
    at o _ g.3 (other (takes c s g.1 fields (span_in start end bytes) (taken_of g.0))
    (takes_plain g.0 c s g.1 fields start end bytes))
result_plain (Err section_error.TooLarge) c s m start end bytes o g =
    at o _ g (too_large_plain s.part c s None end)
result_plain (Err section_error.Memory) c s m start end bytes o g = other o (rw g refl)
result_plain (Err (section_error.Decoding x)) c s m start end bytes o g =
    at o _ g (fails_plain c s (fault.Section x) (length bytes))

-- the fields of a section are no piece
section_other : (fields : List Field) (c : Connection) (s : Stream) (m : Message) (start end : ℕ) (bytes : List ℕ)
    (o : Outcome) → ResultGives c s m (span_in start end bytes) (Ok fields) o → is_piece o.1 ≡ false
section_other fields c s m start end bytes o g = rw g.3 (takes_plain g.0 c s g.1 fields start end bytes)

over_plain : (r : Result Decoded TableSectionError) (c : Connection) (s : Stream) (m : Message) (start end : ℕ)
    (bytes : List ℕ) (o : Outcome) → OverGives c s m (span_in start end bytes) r o → IsPlain o
over_plain (Ok (decoded.Fields fields required)) c s m start end bytes o g =
    at o (noted required g.0) g.2
    (other (noted required g.0) (section_other fields c s m start end bytes g.0 g.1))
over_plain (Ok (decoded.Blocked required)) c s m start end bytes o g = other o (rw g refl)
over_plain (Err table_error.TooLarge) c s m start end bytes o g = at o _ g (too_large_plain s.part c s None end)
over_plain (Err table_error.Memory) c s m start end bytes o g = other o (rw g refl)
over_plain (Err (table_error.Section x)) c s m start end bytes o g =
    at o _ g (fails_plain c s (fault.TableSection x) (length bytes))

table_plain : (d : Option Decoder) (limit : ℕ) (c : Connection) (s : Stream) (m : Message) (start end : ℕ)
    (bytes : List ℕ) (o : Outcome) → TableGives d limit c s m (span_in start end bytes) bytes o → IsPlain o
table_plain None limit c s m start end bytes o g = at o _ g (fails_plain c s fault.SectionPrefix (length bytes))
table_plain (Some d) limit c s m start end bytes o g = over_plain g.0 c s m start end bytes o g.2

prefix_plain : (names : Bool) (limit : ℕ) (c : Connection) (s : Stream) (m : Message) (start end : ℕ) (bytes : List ℕ)
    (o : Outcome) → PrefixGives names limit c s m (span_in start end bytes) bytes o → IsPlain o
prefix_plain true limit c s m start end bytes o g = table_plain c.decoder limit c s m start end bytes o g
prefix_plain false limit c s m start end bytes o g = result_plain g.0 c s m start end bytes o g.2

section_plain : (p : Part) (limit : ℕ) (c : Connection) (s : Stream) (start end : ℕ) (bytes : List ℕ) (o : Outcome)
    → SectionBy p limit c s start end bytes o → IsPlain o
section_plain (part.Head m) limit c s start end bytes o g =
    prefix_plain (names_table (slice start end bytes)) limit c s m start end bytes o g
section_plain (part.Body m) limit c s start end bytes o g =
    prefix_plain (names_table (slice start end bytes)) limit c s m start end bytes o g
section_plain _ limit c s start end bytes o g = other o (rw g refl)

-- ---- calls

goaway_plain : (x : Option (ℕ × List ℕ)) (c : Connection) (s : Stream) (end : ℕ) (payload : List ℕ)
    → IsPlain (in_stream s (goaway_in x c end payload))
goaway_plain None c s end payload = other (in_stream s (goaway_in None c end payload)) refl
goaway_plain (Some x) c s end payload = other (in_stream s (goaway_in (Some x) c end payload)) refl

more_other : (t : Frames) → is_piece (told_more t) ≡ false
more_other (frames.Waiting id) = refl
more_other _ = refl

found_plain : (x : Found) (limit : ℕ) (c : Connection) (s : Stream) (bytes : List ℕ) (o : Outcome)
    → c.read ≡ None → FoundGives limit x c s bytes o → IsPlain o
found_plain (found.Opened p n) limit c s bytes o r g = at o _ g (opened_plain p c s n)
found_plain (found.Settings v start end) limit c s bytes o r g = other o (rw g refl)
found_plain (found.Frame kind.Headers start end) limit c s bytes o r g =
    section_plain s.part limit c s start end bytes o g
found_plain (found.Frame kind.GoAway start end) limit c s bytes o r g =
    at o _ g (goaway_plain (number_at (slice start end bytes)) c s end (slice start end bytes))
found_plain (found.Frame _ start end) limit c s bytes o r g = other o (rw g refl)
found_plain (found.Data start end) limit c s bytes o r g = data_plain s.part c s start end bytes o r g
found_plain (found.TooLarge size n) limit c s bytes o r g = at o _ g (too_large_plain s.part c s (Some size) n)
found_plain (found.More n) limit c s bytes o r g = other o (rw g (more_other s.frames))
found_plain (found.Fault x) limit c s bytes o r g = at o _ g (fails_plain c s (fault.Streams x) (length bytes))
found_plain found.End limit c s bytes o r g = end_plain s.part c s (length bytes) o g

goes_plain : (limit : ℕ) (c : Connection) (s : Stream) (bytes : List ℕ) (fin : Bool) (o : Outcome)
    → c.read ≡ None → GoesOn limit c s bytes fin o → IsPlain o
goes_plain limit c s bytes fin o r g =
    found_plain g.x limit (with_streams c g.d) (with_frames s g.t) bytes o r g.gives

spoiled_due_plain : (b : Bool) (limit : ℕ) (c : Connection) (s : Stream) (bytes : List ℕ) (fin : Bool) (o : Outcome)
    → c.read ≡ None → DueGives (spoiled_if b) limit c s bytes fin o → IsPlain o
spoiled_due_plain true limit c s bytes fin o r g = at o _ g (spoiled_plain c s (length bytes))
spoiled_due_plain false limit c s bytes fin o r g = goes_plain limit c s bytes fin o r g

-- one of two
pick : {D : Type 0} (P : D → Type 0) (Q : Type 0) (b : Bool) (x y : D) → P (cond b x y) → (P x → Q) → (P y → Q) → Q
pick P Q true x y h f g = f h
pick P Q false x y h f g = g h

due_plain : (p : Part) (empty : Bool) (limit : ℕ) (c : Connection) (s : Stream) (bytes : List ℕ) (fin : Bool)
    (o : Outcome) → c.read ≡ None → DueGives (due_by p empty) limit c s bytes fin o → IsPlain o
due_plain (part.Unanswered session m) empty limit c s bytes fin o r g = other o (rw g refl)
due_plain (part.Closed more) empty limit c s bytes fin o r g =
    spoiled_due_plain (more || not empty) limit c s bytes fin o r g
due_plain (part.Session n) empty limit c s bytes fin o r g =
    pick (λ k. DueGives k limit c s bytes fin o) (IsPlain o) (nat_lt 0 n) _ _ g
    (λ h. content_plain (nat_lt (length bytes) n) c s n bytes o h) (λ h. goes_plain limit c s bytes fin o r h)
due_plain part.Ending empty limit c s bytes fin o r g = other o (rw g refl)
due_plain part.Losing empty limit c s bytes fin o r g = other o (rw g refl)
due_plain _ empty limit c s bytes fin o r g = goes_plain limit c s bytes fin o r g

unread_plain : (b : Bool) (limit : ℕ) (c : Connection) (s : Stream) (size : ℕ) (bytes : List ℕ) (o : Outcome)
    → UnreadBy b limit c s size bytes o → IsPlain o
unread_plain true limit c s size bytes o g = other o (rw g refl)
unread_plain false limit c s size bytes o g =
    section_plain s.part limit c (record s { unread = unread.Nothing }) 0 size bytes o g

stream_plain : (u : Unread) (limit : ℕ) (c : Connection) (s : Stream) (bytes : List ℕ) (fin : Bool) (o : Outcome)
    → c.read ≡ None → StreamGives u limit c s bytes fin o → IsPlain o
stream_plain (unread.Early size why) limit c s bytes fin o r g =
    unread_plain (nat_lt (length bytes) size) limit c s size bytes o g
stream_plain (unread.Section size) limit c s bytes fin o r g =
    unread_plain (nat_lt (length bytes) size) limit c s size bytes o g
stream_plain unread.Nothing limit c s bytes fin o r g =
    due_plain s.part (length bytes == 0) limit c s bytes fin o r g

receives_plain : (b : Bool) (limit : ℕ) (c : Connection) (s : Stream) (bytes : List ℕ) (fin : Bool) (o : Outcome)
    → c.read ≡ None → ReceivesIf b limit c s bytes fin o → IsPlain o
receives_plain true limit c s bytes fin o r g = other o (rw g refl)
receives_plain false limit c s bytes fin o r g = stream_plain s.unread limit c s bytes fin o r g

-- ---- instructions

read_plain : (r : Result (Unit {0}) EncoderStreamError) (c : Connection) (e : Decoder) (s : Stream) (bytes : List ℕ)
    (o : Outcome)
    → MatchResult r
    (λ _. o ≡ (length bytes, told.Inserted (insert_count e.table), with_decoder c e, s))
    (λ f. o ≡ fails (with_decoder c e) s (fault.Instructions f) (length bytes))
    → IsPlain o
read_plain (Ok u) c e s bytes o g = other o (rw g refl)
read_plain (Err f) c e s bytes o g =
    at o _ g (fails_plain (with_decoder c e) s (fault.Instructions f) (length bytes))

call_by_plain : (d : Option Decoder) (limit : ℕ) (c : Connection) (s : Stream) (bytes : List ℕ) (fin : Bool) (o : Outcome)
    → c.read ≡ None → CallBy d limit c s bytes fin o → IsPlain o
call_by_plain None limit c s bytes fin o r g = receives_plain c.over limit c s bytes fin o r g
call_by_plain (Some d) limit c s bytes fin o r (e, x, read, g) = read_plain x c e s bytes o g

-- a call that gives a piece leaves nothing to be acknowledged
pub pieces_unread : (limit : ℕ) (c : Connection) (s : Stream) (bytes : List ℕ) (fin : Bool) (o : Outcome)
    → Call limit c s bytes fin o → is_piece o.1 ≡ true → o.2.read ≡ None
pieces_unread limit c s bytes fin o g =
    call_by_plain (instructed c s bytes) limit (without_read c) s bytes fin o refl g

-- ---- after an error

silent_by : (b : Bool) (limit : ℕ) (c : Connection) (s : Stream) (bytes : List ℕ) (fin : Bool) (o : Outcome)
    → b ≡ true → ReceivesIf b limit c s bytes fin o → o.1 ≡ told.More
silent_by true limit c s bytes fin o h g = ap (λ (x : Outcome). x.1) g
silent_by false limit c s bytes fin o h g = absurd (let bad : false ≡ true = h in cc)

over_says : (b : Bool) (x : Option Decoder) (limit : ℕ) (c : Connection) (s : Stream) (bytes : List ℕ) (fin : Bool)
    (o : Outcome) → c.over ≡ b → b ≡ true → CallBy (cond b None x) limit c s bytes fin o → o.1 ≡ told.More
over_says true x limit c s bytes fin o h t g = silent_by c.over limit c s bytes fin o h g
over_says false x limit c s bytes fin o h t g = absurd (let bad : false ≡ true = t in cc)

-- a call after an error of the connection says nothing
pub over_is_silent : (limit : ℕ) (c : Connection) (s : Stream) (bytes : List ℕ) (fin : Bool) (o : Outcome)
    → Call limit c s bytes fin o → c.over ≡ true → o.1 ≡ told.More
over_is_silent limit c s bytes fin o g h =
    over_says c.over (instructed_by c.decoder s.frames bytes) limit (without_read c) s bytes fin o refl h g
