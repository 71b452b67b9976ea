-- The bytes of an event are right before those that are left, and no call consumes more than came.
use Rattle.std.proofs.Common.{◌≡◌, ℕ, ◌-◌, ◌+◌, ◌==◌, ◌≤◌, nat_lt, Bool, true, false, List, length, take, drop, Option, Some, None, Result, Ok, Err, refl, sym, subst, ap, ◌∙◌, arith, length-take, length-drop}
use Rattle.std.proofs.lemmas.Bool.{ltb-false}
use Rattle.wtp_core.specs.Varint.{number_at}
use Rattle.wtp_core.specs.declared.error.scope.ErrorScope.{ErrorScope}
use Rattle.wtp_core.specs.declared.error.scope.ErrorScope.TheVariants as scope
use Rattle.wtp_qpack.specs.Field.{Field}
use Rattle.wtp_frames.specs.Reading.{slice}
use Rattle.wtp_frames.specs.declared.frame_type.FrameType.{FrameType}
use Rattle.wtp_frames.specs.declared.frame_type.FrameType.TheVariants as kind
use Rattle.wtp_connection.specs.declared.connection.Connection.{Connection as Streams}
use Rattle.wtp_connection.specs.declared.connection.Found.{Found}
use Rattle.wtp_connection.specs.declared.connection.Found.TheVariants as found
use Rattle.wtp_connection.specs.declared.stream.Purpose.{Purpose}
use Rattle.wtp_connection.specs.declared.stream.Purpose.TheVariants as «for»
use Rattle.wtp_connection.specs.declared.stream.Stream.{Stream as Frames}
use Rattle.wtp_connection.specs.declared.stream.Stream.TheVariants as frames
use Rattle.wtp_connection.specs.Opening.{remaining_of}
use Rattle.wtp_connection.specs.Receiving.{Fits}
use Rattle.wtp_connection.specs.Streams.{Joined, tells_interim}
use Rattle.wtp_fields.specs.declared.fields.FieldSectionError.{FieldSectionError}
use Rattle.wtp_fields.specs.declared.fields.FieldSectionError.TheVariants as section_error
use Rattle.wtp_messages.specs.declared.malformed.Malformed.{Malformed}
use Rattle.wtp_messages.specs.declared.message.Message.{Message}
use Rattle.wtp_messages.specs.declared.response.Asked.{Asked}
use Rattle.wtp_messages.specs.declared.response.Asked.TheVariants as asked
use Rattle.wtp_messages.specs.Content.{fits}
use Rattle.wtp_messages.specs.Message.{end_of}
use Rattle.wtp_messages.specs.Response.{is_success}
use Rattle.wtp_wire.specs.declared.capsule.CapsuleError.TheVariants as capsule_error
use Rattle.wtp_wire.specs.CloseSession.{close_in}
use Rattle.wtp_dynamic_decoder.specs.Decoder.{Decoder}
use Rattle.wtp_dynamic_fields.specs.declared.section.Decoded.{Decoded}
use Rattle.wtp_dynamic_fields.specs.declared.section.Decoded.TheVariants as decoded
use Rattle.wtp_dynamic_fields.specs.declared.section.TableSectionError.{TableSectionError}
use Rattle.wtp_dynamic_fields.specs.declared.section.TableSectionError.TheVariants as table_error
use Rattle.wtp_webtransport.specs.declared.capsules.CapsuleType.{CapsuleType}
use Rattle.wtp_webtransport.specs.declared.capsules.CapsuleType.TheVariants as capsule
use Rattle.wtp_webtransport.specs.Capsules.{Found as Capsules}
use Rattle.wtp_webtransport.specs.declared.fault.Fault.{Fault}
use Rattle.wtp_webtransport.specs.declared.fault.Fault.TheVariants as fault
use Rattle.wtp_webtransport.specs.declared.connection.Connection.{Connection}
use Rattle.wtp_webtransport.specs.declared.connection.messages.Taken.{Taken}
use Rattle.wtp_webtransport.specs.declared.connection.messages.Taken.TheVariants as taken
use Rattle.wtp_webtransport.specs.declared.connection.messages.Asks.{Asks}
use Rattle.wtp_webtransport.specs.declared.connection.messages.Asks.TheVariants as asks
use Rattle.wtp_webtransport.specs.declared.connection.messages.Span.{Span}
use Rattle.wtp_webtransport.specs.declared.stream.Stream.{Stream}
use Rattle.wtp_webtransport.specs.declared.stream.Unread.{Unread}
use Rattle.wtp_webtransport.specs.declared.stream.Unread.TheVariants as unread
use Rattle.wtp_webtransport.specs.declared.stream.Due.{Due}
use Rattle.wtp_webtransport.specs.declared.stream.Due.TheVariants as due
use Rattle.wtp_webtransport.specs.declared.stream.Part.{Part}
use Rattle.wtp_webtransport.specs.declared.stream.Part.TheVariants as part
use Rattle.wtp_webtransport.specs.Fault.{scope_of}
use Rattle.wtp_webtransport.specs.Prefix.{names_table}
use Rattle.wtp_webtransport.specs.Sessions.{asks_of}
use Rattle.wtp_webtransport.specs.Streams.{due_by, with_streams, with_frames}
use Rattle.wtp_webtransport.specs.Receiving.{Outcome, closed_in, fails, leaves, found_opened, goaway_in, content_by, closed_if, complete, capsule_found, CapsulesGive, ContentBy, DataBy, ends_by, SessionEndGives, EndBy, too_large_by, interim_by, request_by, response_in, takes, taken_of, span_in, ReadGives, ResultGives, PrefixGives, SectionBy, told_more, FoundGives, UnreadBy, DueGives, StreamGives, ReceivesIf, Receives, OverGives, TableGives}
use Rattle.wtp_webtransport.specs.Places.{EndsAt, IsPlaced}
use Rattle.wtp_webtransport.specs.Events.{Inserted}
use Rattle.wtp_webtransport.specs.Tables.{with_decoder, without_read, instructed, CallBy, Call}
use Rattle.wtp_dynamic.specs.declared.error.EncoderStreamError.{EncoderStreamError}
use Rattle.wtp_dynamic.specs.Table.{insert_count}
use Rattle.std.specs.Prelude.{MatchResult}

abbrev pub Placed : List ℕ → Outcome → Type 0
Placed bytes o = (o.0 ≤ length bytes) × IsPlaced o.1 o.0 bytes

all_bytes : (bytes : List ℕ) → length bytes ≤ length bytes
all_bytes bytes = omega arith

slice_ends : (start end : ℕ) (bytes : List ℕ) → start ≤ end → end ≤ length bytes → EndsAt end (slice start end bytes) bytes
slice_ends start end bytes ordered within =
    let size : length (slice start end bytes) ≡ end - start = omega (arith, length-take (end - start) (drop start bytes), length-drop start bytes, ordered, within) in
    let back : end - length (slice start end bytes) ≡ start = omega (arith, size, ordered) in
    record {
      within = within;
      size = omega (arith, size);
      piece_is = ap (λ (n : ℕ). take n (drop (end - length (slice start end bytes)) bytes)) size
          ∙ ap (λ (n : ℕ). take (end - start) (drop n bytes)) back;
    }

-- ---- errors

closed_placed : (c : Connection) (f : Fault) (k : ErrorScope) (n : ℕ) (bytes : List ℕ) → IsPlaced (closed_in c f k).1 n bytes
closed_placed c f scope.Stream n bytes = tt
closed_placed c f other n bytes = tt

fails_placed : (c : Connection) (s : Stream) (f : Fault) (n : ℕ) (bytes : List ℕ) → n ≤ length bytes → Placed bytes (fails c s f n)
fails_placed c s f n bytes inside = (inside, closed_placed c f (scope_of f) n bytes)

-- ---- what a stream is for

opened_placed : (c : Connection) (s : Stream) (p : Purpose) (n : ℕ) (bytes : List ℕ) → n ≤ length bytes → Placed bytes (found_opened c s p n)
opened_placed c s («for».Session id) n bytes inside = (inside, tt)
opened_placed c s «for».Message n bytes inside = (inside, tt)
opened_placed c s other n bytes inside = (inside, tt)

-- ---- content

content_placed : (b : Bool) (c : Connection) (s : Stream) (m : Message) (start end : ℕ) (bytes : List ℕ) → start ≤ end → end ≤ length bytes → Placed bytes (content_by b c s m start end bytes)
content_placed true c s m start end bytes ordered within = (within, slice_ends start end bytes ordered within)
content_placed false c s m start end bytes ordered within = (all_bytes bytes, tt)

close_placed : (x : Option (ℕ × List ℕ)) (c : Connection) (s : Stream) (more : Bool) (end len : ℕ) (bytes : List ℕ) → end ≤ length bytes → len ≤ length bytes → Placed bytes (closed_if x c s more end len)
close_placed None c s more end len bytes inside all = fails_placed (leaves c s).0 (leaves c s).1 fault.Capsule len bytes all
close_placed (Some close) c s more end len bytes inside all = (inside, tt)

complete_placed : (k : CapsuleType) (c : Connection) (s : Stream) (value : List ℕ) (left end len : ℕ) (bytes : List ℕ) → end ≤ length bytes → len ≤ length bytes → Placed bytes (complete k c s value left end len)
complete_placed capsule.Close c s value left end len bytes inside all = close_placed (close_in value) c s (nat_lt 0 left) end len bytes inside all
complete_placed capsule.Datagram c s value left end len bytes inside all = (omega (arith, inside), tt)
complete_placed capsule.Drain c s value left end len bytes inside all = (omega (arith, inside), tt)

capsule_placed : (r : Capsules) (c : Connection) (s : Stream) (left end len : ℕ) (bytes : List ℕ) → end ≤ length bytes → len ≤ length bytes → Placed bytes (capsule_found r c s left end len)
capsule_placed (Ok None) c s left end len bytes inside all = (omega (arith, inside), tt)
capsule_placed (Ok (Some x)) c s left end len bytes inside all = complete_placed x.0 c s x.1 left end len bytes inside all
capsule_placed (Err capsule_error.TooLong) c s left end len bytes inside all = fails_placed (leaves c s).0 (leaves c s).1 fault.Capsule len bytes all
capsule_placed (Err capsule_error.Memory) c s left end len bytes inside all = (omega (arith, inside), tt)

capsules_placed : (c : Connection) (s : Stream) (piece : List ℕ) (end len : ℕ) (o : Outcome) (bytes : List ℕ) → end ≤ length bytes → len ≤ length bytes → CapsulesGive c s piece end len o → Placed bytes o
capsules_placed c s piece end len o bytes inside all (r, t, b, gives, e) = subst (Placed bytes) (sym e) (capsule_placed r c t (length b) end len bytes inside all)

again_placed : (b : Bool) (c : Connection) (s : Stream) (size : ℕ) (bytes : List ℕ) (o : Outcome) → b ≡ nat_lt (length bytes) size → ContentBy b c s size bytes o → Placed bytes o
again_placed true c s size bytes o is e = subst (Placed bytes) (sym e) (omega arith, tt)
again_placed false c s size bytes o is gives = capsules_placed c s (take size bytes) size (length bytes) o bytes (ltb-false (length bytes) size (sym is)) (all_bytes bytes) gives

data_placed : (p : Part) (c : Connection) (s : Stream) (start end : ℕ) (bytes : List ℕ) (o : Outcome) → start ≤ end → end ≤ length bytes → DataBy p c s start end bytes o → Placed bytes o
data_placed (part.Head m) c s start end bytes o ordered within e = subst (Placed bytes) (sym e) (content_placed (fits m.content.left ((end - start) + remaining_of s.frames)) c s m start end bytes ordered within)
data_placed (part.Body m) c s start end bytes o ordered within e = subst (Placed bytes) (sym e) (content_placed (fits m.content.left ((end - start) + remaining_of s.frames)) c s m start end bytes ordered within)
data_placed (part.Session size) c s start end bytes o ordered within gives = capsules_placed c s (slice start end bytes) end (length bytes) o bytes within (all_bytes bytes) gives
data_placed other c s start end bytes o ordered within e = subst (Placed bytes) (sym e) (within, slice_ends start end bytes ordered within)

-- ---- the end

ends_placed : (c : Connection) (s : Stream) (len : ℕ) (r : Result (Unit {0}) Malformed) (bytes : List ℕ) → len ≤ length bytes → Placed bytes (ends_by c s len r)
ends_placed c s len (Ok u) bytes all = (all, tt)
ends_placed c s len (Err rule) bytes all = (all, tt)

session_end_placed : (c : Connection) (s : Stream) (len : ℕ) (o : Outcome) (bytes : List ℕ) → len ≤ length bytes → SessionEndGives c s len o → Placed bytes o
session_end_placed c s len o bytes all (SessionEndGives.Between between e) = subst (Placed bytes) (sym e) (all, tt)
session_end_placed c s len o bytes all (SessionEndGives.Within within e) = subst (Placed bytes) (sym e) (fails_placed (leaves c s).0 (leaves c s).1 fault.Capsule len bytes all)

end_placed : (p : Part) (c : Connection) (s : Stream) (len : ℕ) (o : Outcome) (bytes : List ℕ) → len ≤ length bytes → EndBy p c s len o → Placed bytes o
end_placed (part.Head m) c s len o bytes all e = subst (Placed bytes) (sym e) (ends_placed c s len (end_of m.stage m.content.left) bytes all)
end_placed (part.Body m) c s len o bytes all e = subst (Placed bytes) (sym e) (ends_placed c s len (end_of m.stage m.content.left) bytes all)
end_placed (part.Session size) c s len o bytes all gives = session_end_placed c s len o bytes all gives
end_placed other c s len o bytes all e = subst (Placed bytes) (sym e) (all, tt)

-- ---- field sections

large_placed : (p : Part) (c : Connection) (s : Stream) (size : Option ℕ) (n : ℕ) (bytes : List ℕ) → n ≤ length bytes → Placed bytes (too_large_by p c s size n)
large_placed (part.Head m) c s size n bytes inside = (inside, tt)
large_placed other c s size n bytes inside = (inside, tt)

-- a section is in the bytes
record IsIn (at : Span) (bytes : List ℕ) : Type 0 where
  start : at.start ≤ length bytes
  last : at.end ≤ length bytes
  all : at.len ≤ length bytes

interim_placed : (c : Connection) (s : Stream) (status : ℕ) (fields : List Field) (at : Span) (j : Joined) (bytes : List ℕ) → IsIn at bytes → Placed bytes (interim_by c s status fields at j)
interim_placed c s status fields at (d, t, None) bytes i = (i.last, tt)
interim_placed c s status fields at (d, t, Some f) bytes i = fails_placed (with_streams c d) (with_frames s t) (fault.Streams f) at.len bytes i.all

request_placed : (a : Asks) (c : Connection) (s : Stream) (m : Message) (fields : List Field) (at : Span) (bytes : List ℕ) → IsIn at bytes → Placed bytes (request_by a c s m fields at)
request_placed asks.Plain c s m fields at bytes i = (i.last, tt)
request_placed asks.Tunnel c s m fields at bytes i = (i.last, tt)
request_placed asks.TooEarly c s m fields at bytes i = (i.start, tt)
request_placed asks.Session c s m fields at bytes i = (i.last, tt)

response_placed : (a : Option Asked) (success : Bool) (s : Stream) (m : Message) (status : ℕ) (fields : List Field) (at : Span) (bytes : List ℕ) → IsIn at bytes → ((response_in a success s m status fields at).0 ≤ length bytes) × IsPlaced (response_in a success s m status fields at).1 (response_in a success s m status fields at).0 bytes
response_placed (Some asked.Session) true s m status fields at bytes i = (i.last, tt)
response_placed (Some asked.Session) false s m status fields at bytes i = (i.last, tt)
response_placed (Some asked.Connect) true s m status fields at bytes i = (i.last, tt)
response_placed a success s m status fields at bytes i = (i.last, tt)

taken_placed : (c : Connection) (s : Stream) (m : Message) (fields : List Field) (at : Span) (t : Taken) (bytes : List ℕ) → IsIn at bytes → Placed bytes (takes c s m fields at t)
taken_placed c s m fields at taken.Request bytes i = request_placed (asks_of c fields) c s m fields at bytes i
taken_placed c s m fields at (taken.Interim status) bytes i = interim_placed c s status fields at (tells_interim c.streams s.frames) bytes i
taken_placed c s m fields at (taken.Response status) bytes i = response_placed s.asked (is_success (Some status)) s m status fields at bytes i
taken_placed c s m fields at taken.Trailers bytes i = (i.last, tt)
taken_placed c s m fields at (taken.Malformed rule) bytes i = (i.all, tt)

read_placed : (c : Connection) (s : Stream) (m : Message) (fields : List Field) (at : Span) (o : Outcome) (bytes : List ℕ) → IsIn at bytes → ReadGives c s m fields at o → Placed bytes o
read_placed c s m fields at o bytes i (x, n, comes, e) = subst (Placed bytes) (sym e) (taken_placed c s n fields at (taken_of x) bytes i)

result_placed : (c : Connection) (s : Stream) (m : Message) (at : Span) (r : Result (List Field) FieldSectionError) (o : Outcome) (bytes : List ℕ) → IsIn at bytes → ResultGives c s m at r o → Placed bytes o
result_placed c s m at (Ok fields) o bytes i gives = read_placed c s m fields at o bytes i gives
result_placed c s m at (Err section_error.TooLarge) o bytes i e = subst (Placed bytes) (sym e) (large_placed s.part c s None at.end bytes i.last)
result_placed c s m at (Err section_error.Memory) o bytes i e = subst (Placed bytes) (sym e) (i.start, tt)
result_placed c s m at (Err (section_error.Decoding f)) o bytes i e = subst (Placed bytes) (sym e) (fails_placed c s (fault.Section f) at.len bytes i.all)

over_placed : (c : Connection) (s : Stream) (m : Message) (at : Span) (r : Result Decoded TableSectionError) (o : Outcome) (bytes : List ℕ) → IsIn at bytes → OverGives c s m at r o → Placed bytes o
over_placed c s m at (Ok (decoded.Fields fields required)) o bytes i (p, gives, e) = subst (Placed bytes) (sym e) (read_placed c s m fields at p bytes i gives)
over_placed c s m at (Ok (decoded.Blocked required)) o bytes i e = subst (Placed bytes) (sym e) (i.start, tt)
over_placed c s m at (Err table_error.TooLarge) o bytes i e = subst (Placed bytes) (sym e) (large_placed s.part c s None at.end bytes i.last)
over_placed c s m at (Err table_error.Memory) o bytes i e = subst (Placed bytes) (sym e) (i.start, tt)
over_placed c s m at (Err (table_error.Section f)) o bytes i e = subst (Placed bytes) (sym e) (fails_placed c s (fault.TableSection f) at.len bytes i.all)

table_placed : (d : Option Decoder) (limit : ℕ) (c : Connection) (s : Stream) (m : Message) (at : Span) (bytes : List ℕ) (o : Outcome) → IsIn at bytes → TableGives d limit c s m at bytes o → Placed bytes o
table_placed None limit c s m at bytes o i e = subst (Placed bytes) (sym e) (fails_placed c s fault.SectionPrefix at.len bytes i.all)
table_placed (Some d) limit c s m at bytes o i (r, decodes, gives) = over_placed c s m at r o bytes i gives

prefix_placed : (b : Bool) (limit : ℕ) (c : Connection) (s : Stream) (m : Message) (at : Span) (bytes : List ℕ) (o : Outcome) → IsIn at bytes → PrefixGives b limit c s m at bytes o → Placed bytes o
prefix_placed true limit c s m at bytes o i g = table_placed c.decoder limit c s m at bytes o i g
prefix_placed false limit c s m at bytes o i (r, decodes, gives) = result_placed c s m at r o bytes i gives

span_inside : (start end : ℕ) (bytes : List ℕ) → start ≤ end → end ≤ length bytes → IsIn (span_in start end bytes) bytes
span_inside start end bytes ordered within = record { start = omega (arith, ordered, within); last = within; all = all_bytes bytes }

section_placed : (p : Part) (limit : ℕ) (c : Connection) (s : Stream) (start end : ℕ) (bytes : List ℕ) (o : Outcome) → start ≤ end → end ≤ length bytes → SectionBy p limit c s start end bytes o → Placed bytes o
section_placed (part.Head m) limit c s start end bytes o ordered within gives = prefix_placed (names_table (slice start end bytes)) limit c s m (span_in start end bytes) bytes o (span_inside start end bytes ordered within) gives
section_placed (part.Body m) limit c s start end bytes o ordered within gives = prefix_placed (names_table (slice start end bytes)) limit c s m (span_in start end bytes) bytes o (span_inside start end bytes ordered within) gives
section_placed other limit c s start end bytes o ordered within e = subst (Placed bytes) (sym e) (within, slice_ends start end bytes ordered within)

-- ---- one call

more_placed : (t : Frames) (n : ℕ) (bytes : List ℕ) → IsPlaced (told_more t) n bytes
more_placed (frames.Waiting id) n bytes = tt
more_placed other n bytes = tt

goaway_placed : (x : Option (ℕ × List ℕ)) (c : Connection) (start end : ℕ) (bytes : List ℕ) → start ≤ end → end ≤ length bytes → ((goaway_in x c end (slice start end bytes)).0 ≤ length bytes) × IsPlaced (goaway_in x c end (slice start end bytes)).1 (goaway_in x c end (slice start end bytes)).0 bytes
goaway_placed None c start end bytes ordered within = (within, slice_ends start end bytes ordered within)
goaway_placed (Some x) c start end bytes ordered within = (within, tt)

frame_placed : (k : FrameType) (limit : ℕ) (start end : ℕ) (d : Streams) (t : Frames) (c : Connection) (s : Stream) (bytes : List ℕ) (o : Outcome) → start ≤ end → end ≤ length bytes → FoundGives limit (found.Frame k start end) c s bytes o → Placed bytes o
frame_placed kind.Headers limit start end d t c s bytes o ordered within gives = section_placed s.part limit c s start end bytes o ordered within gives
frame_placed kind.GoAway limit start end d t c s bytes o ordered within e = subst (Placed bytes) (sym e) (goaway_placed (number_at (slice start end bytes)) c start end bytes ordered within)
frame_placed other limit start end d t c s bytes o ordered within e = subst (Placed bytes) (sym e) (within, slice_ends start end bytes ordered within)

found_placed : (x : Found) (limit : ℕ) (d : Streams) (t : Frames) (c : Connection) (s : Stream) (bytes : List ℕ) (o : Outcome) → Fits x bytes d t → FoundGives limit x c s bytes o → Placed bytes o
found_placed (found.Opened p n) limit d t c s bytes o fit e = subst (Placed bytes) (sym e) (opened_placed c s p n bytes fit)
found_placed (found.Settings v start end) limit d t c s bytes o fit e = subst (Placed bytes) (sym e) (fit.2, slice_ends start end bytes fit.1 fit.2)
found_placed (found.Frame k start end) limit d t c s bytes o fit gives = frame_placed k limit start end d t c s bytes o fit.1 fit.2 gives
found_placed (found.Data start end) limit d t c s bytes o fit gives = data_placed s.part c s start end bytes o (omega (arith, fit.0)) fit.1 gives
found_placed (found.TooLarge size n) limit d t c s bytes o fit e = subst (Placed bytes) (sym e) (large_placed s.part c s (Some size) n bytes fit.1)
found_placed (found.More n) limit d t c s bytes o fit e = subst (Placed bytes) (sym e) (fit.0, more_placed s.frames n bytes)
found_placed (found.Fault f) limit d t c s bytes o fit e = subst (Placed bytes) (sym e) (fails_placed c s (fault.Streams f) (length bytes) bytes (all_bytes bytes))
found_placed found.End limit d t c s bytes o fit gives = end_placed s.part c s (length bytes) o bytes (all_bytes bytes) gives

unread_placed : (b : Bool) (limit : ℕ) (c : Connection) (s : Stream) (size : ℕ) (bytes : List ℕ) (o : Outcome) → b ≡ nat_lt (length bytes) size → UnreadBy b limit c s size bytes o → Placed bytes o
unread_placed true limit c s size bytes o is e = subst (Placed bytes) (sym e) (omega arith, tt)
unread_placed false limit c s size bytes o is gives = section_placed s.part limit c (record s { unread = unread.Nothing }) 0 size bytes o (omega arith) (ltb-false (length bytes) size (sym is)) gives

due_placed : (x : Due) (limit : ℕ) (c : Connection) (s : Stream) (bytes : List ℕ) (fin : Bool) (o : Outcome) → DueGives x limit c s bytes fin o → Placed bytes o
due_placed due.Wait limit c s bytes fin o e = subst (Placed bytes) (sym e) (omega arith, tt)
due_placed (due.Content size) limit c s bytes fin o gives = again_placed (nat_lt (length bytes) size) c s size bytes o refl gives
due_placed due.Spoiled limit c s bytes fin o e = subst (Placed bytes) (sym e) (fails_placed (leaves c s).0 (leaves c s).1 fault.Capsule (length bytes) bytes (all_bytes bytes))
due_placed due.End limit c s bytes fin o e = subst (Placed bytes) (sym e) (all_bytes bytes, tt)
due_placed due.Lost limit c s bytes fin o e = subst (Placed bytes) (sym e) (all_bytes bytes, tt)
due_placed due.Nothing limit c s bytes fin o g = found_placed g.x limit g.d g.t (with_streams c g.d) (with_frames s g.t) bytes o g.found.fits g.gives

stream_placed : (u : Unread) (limit : ℕ) (c : Connection) (s : Stream) (bytes : List ℕ) (fin : Bool) (o : Outcome) → StreamGives u limit c s bytes fin o → Placed bytes o
stream_placed (unread.Early size why) limit c s bytes fin o gives = unread_placed (nat_lt (length bytes) size) limit c s size bytes o refl gives
stream_placed (unread.Section size) limit c s bytes fin o gives = unread_placed (nat_lt (length bytes) size) limit c s size bytes o refl gives
stream_placed unread.Nothing limit c s bytes fin o gives = due_placed (due_by s.part (length bytes == 0)) limit c s bytes fin o gives

receives_placed : (b : Bool) (limit : ℕ) (c : Connection) (s : Stream) (bytes : List ℕ) (fin : Bool) (o : Outcome) → ReceivesIf b limit c s bytes fin o → Placed bytes o
receives_placed true limit c s bytes fin o e = subst (Placed bytes) (sym e) (all_bytes bytes, tt)
receives_placed false limit c s bytes fin o gives = stream_placed s.unread limit c s bytes fin o gives

pub received_placed : (limit : ℕ) (c : Connection) (s : Stream) (bytes : List ℕ) (fin : Bool) (o : Outcome) → Receives limit c s bytes fin o → IsPlaced o.1 o.0 bytes
received_placed limit c s bytes fin o gives = (receives_placed c.over limit c s bytes fin o gives).1

pub received_within : (limit : ℕ) (c : Connection) (s : Stream) (bytes : List ℕ) (fin : Bool) (o : Outcome) → Receives limit c s bytes fin o → o.0 ≤ length bytes
received_within limit c s bytes fin o gives = (receives_placed c.over limit c s bytes fin o gives).0

-- ---- instructions for the dynamic table

read_placed_by : (r : Result (Unit {0}) EncoderStreamError) (c : Connection) (e : Decoder) (s : Stream) (bytes : List ℕ) (o : Outcome)
    → MatchResult r
    (λ _. o ≡ (length bytes, Inserted (insert_count e.table), with_decoder c e, s))
    (λ f. o ≡ fails (with_decoder c e) s (fault.Instructions f) (length bytes))
    → Placed bytes o
read_placed_by (Ok u) c e s bytes o g = subst (Placed bytes) (sym g) (all_bytes bytes, tt)
read_placed_by (Err f) c e s bytes o g =
    subst (Placed bytes) (sym g) (fails_placed (with_decoder c e) s (fault.Instructions f) (length bytes) bytes (all_bytes bytes))

by_placed : (x : Option Decoder) (limit : ℕ) (c : Connection) (s : Stream) (bytes : List ℕ) (fin : Bool) (o : Outcome) → CallBy x limit c s bytes fin o → Placed bytes o
by_placed None limit c s bytes fin o gives = receives_placed c.over limit c s bytes fin o gives
by_placed (Some d) limit c s bytes fin o (e, r, read, gives) = read_placed_by r c e s bytes o gives

pub called_placed : (limit : ℕ) (c : Connection) (s : Stream) (bytes : List ℕ) (fin : Bool) (o : Outcome) → Call limit c s bytes fin o → IsPlaced o.1 o.0 bytes
called_placed limit c s bytes fin o gives = (by_placed (instructed c s bytes) limit (without_read c) s bytes fin o gives).1

pub called_within : (limit : ℕ) (c : Connection) (s : Stream) (bytes : List ℕ) (fin : Bool) (o : Outcome) → Call limit c s bytes fin o → o.0 ≤ length bytes
called_within limit c s bytes fin o gives = (by_placed (instructed c s bytes) limit (without_read c) s bytes fin o gives).0
