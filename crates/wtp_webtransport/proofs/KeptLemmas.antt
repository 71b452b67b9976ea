-- A call keeps the limits of the dynamic table: only instructions change it.
use Rattle.std.proofs.Common.{◌≡◌, ℕ, refl, ap, ◌∙◌, cond, Bool, ◌||◌, not, true, false, List, [], ◌∷◌, ◌++◌, Option, Some, None, Result, Ok, Err, length, nat_lt, ◌==◌, ◌-◌, ◌+◌}
use Rattle.wtp_core.specs.Varint.{number_at}
use Rattle.wtp_core.specs.declared.error.scope.ErrorScope.{ErrorScope}
use Rattle.wtp_core.specs.declared.error.scope.ErrorScope.TheVariants as scope
use Rattle.wtp_qpack.specs.Field.{Field}
use Rattle.wtp_frames.specs.declared.frame_type.FrameType.TheVariants as kind
use Rattle.wtp_frames.specs.Reading.{slice}
use Rattle.wtp_connection.specs.declared.connection.Found.{Found}
use Rattle.wtp_connection.specs.declared.connection.Found.TheVariants as found
use Rattle.wtp_connection.specs.declared.stream.Stream.{Stream as Frames}
use Rattle.wtp_connection.specs.declared.stream.Stream.TheVariants as frames
use Rattle.wtp_connection.specs.declared.stream.Purpose.{Purpose}
use Rattle.wtp_connection.specs.declared.stream.Purpose.TheVariants as «for»
use Rattle.wtp_connection.specs.Streams.{Joined, tells_interim}
use Rattle.wtp_fields.specs.declared.fields.FieldSectionError.{FieldSectionError}
use Rattle.wtp_fields.specs.declared.fields.FieldSectionError.TheVariants as section_error
use Rattle.wtp_messages.specs.declared.malformed.Malformed.{Malformed}
use Rattle.wtp_messages.specs.Content.{fits}
use Rattle.wtp_connection.specs.Opening.{remaining_of}
use Rattle.wtp_dynamic_decoder.specs.Decoder.{Decoder, Progress, Runs, Failed, PieceRead}
use Rattle.wtp_dynamic_fields.specs.declared.section.Decoded.{Decoded}
use Rattle.wtp_dynamic_fields.specs.declared.section.Decoded.TheVariants as decoded
use Rattle.wtp_dynamic_fields.specs.declared.section.TableSectionError.{TableSectionError}
use Rattle.wtp_dynamic_fields.specs.declared.section.TableSectionError.TheVariants as table_error
use Rattle.wtp_webtransport.specs.Prefix.{names_table}
use Rattle.wtp_messages.specs.declared.message.Message.{Message}
use Rattle.wtp_messages.specs.Message.{end_of}
use Rattle.wtp_wire.specs.declared.capsule.CapsuleError.TheVariants as capsule_error
use Rattle.wtp_wire.specs.CloseSession.{close_in}
use Rattle.wtp_webtransport.specs.declared.capsules.CapsuleType.{CapsuleType}
use Rattle.wtp_webtransport.specs.declared.capsules.CapsuleType.TheVariants as capsule
use Rattle.wtp_webtransport.specs.Capsules.{Found as Capsules}
use Rattle.wtp_webtransport.specs.declared.fault.Fault.{Fault}
use Rattle.wtp_webtransport.specs.declared.fault.Fault.TheVariants as fault
use Rattle.wtp_webtransport.specs.declared.connection.Connection.{Connection}
use Rattle.wtp_webtransport.specs.declared.connection.messages.Asks.{Asks}
use Rattle.wtp_webtransport.specs.declared.connection.messages.Asks.TheVariants as asks
use Rattle.wtp_webtransport.specs.declared.connection.messages.Span.{Span}
use Rattle.wtp_webtransport.specs.declared.connection.messages.Taken.{Taken}
use Rattle.wtp_webtransport.specs.declared.connection.messages.Taken.TheVariants as taken
use Rattle.wtp_webtransport.specs.declared.stream.Stream.{Stream}
use Rattle.wtp_webtransport.specs.declared.stream.Part.{Part}
use Rattle.wtp_webtransport.specs.declared.stream.Part.TheVariants as part
use Rattle.wtp_webtransport.specs.declared.stream.Unread.{Unread}
use Rattle.wtp_webtransport.specs.declared.stream.Unread.TheVariants as unread
use Rattle.wtp_webtransport.specs.declared.stream.Due.TheVariants as due
use Rattle.wtp_webtransport.specs.Events.{Told, Inserted, Waits}
use Rattle.wtp_webtransport.specs.Fault.{scope_of}
use Rattle.wtp_webtransport.specs.Sessions.{asks_of}
use Rattle.wtp_webtransport.specs.Streams.{with_streams, with_frames, spoiled_if, due_by}
use Rattle.wtp_webtransport.specs.Receiving.{Outcome, closed_in, fails, goaway_in, in_stream, leaves, spoiled, found_opened, content_by, closed_if, complete, capsule_found, CapsulesGive, ContentBy, DataBy, ends_by, SessionEndGives, Between, Within, EndBy, too_large_by, interim_by, request_by, takes, taken_of, ResultGives, PrefixGives, span_in, SectionBy, FoundGives, UnreadBy, GoesOn, DueGives, StreamGives, ReceivesIf, Receives, read_after, noted, OverGives, TableGives}
use Rattle.std.specs.Prelude.{MatchResult}
use Rattle.wtp_dynamic.specs.declared.error.EncoderStreamError.{EncoderStreamError}
use Rattle.wtp_dynamic.specs.Table.{insert_count}
use Rattle.wtp_dynamic.proofs.Entries.{leads_later}
use Rattle.wtp_webtransport.specs.Tables.{with_decoder, without_read, instructed_by, instructed, CallBy, Call, HasLimits, KeepsLimits}

abbrev pub Kept : Connection → Outcome → Type 0
Kept c o = o.2.decoder ≡ c.decoder

-- the outcome is another one
same : (c : Connection) (o x : Outcome) → o ≡ x → Kept c x → Kept c o
same c o x e k = rw e k

-- ---- errors

fault_kept : (c : Connection) (f : Fault) (k : ErrorScope) → (closed_in c f k).0.decoder ≡ c.decoder
fault_kept c f scope.Stream = refl
fault_kept c f _ = refl

fails_kept : (c : Connection) (s : Stream) (f : Fault) (len : ℕ) → Kept c (fails c s f len)
fails_kept c s f len = fault_kept c f (scope_of f)

spoiled_kept : (c : Connection) (s : Stream) (len : ℕ) → Kept c (spoiled c s len)
spoiled_kept c s len = fails_kept (leaves c s).0 (leaves c s).1 fault.Capsule len

-- ---- capsules

closed_kept : (x : Option (ℕ × List ℕ)) (c : Connection) (s : Stream) (more : Bool) (end len : ℕ)
    → Kept c (closed_if x c s more end len)
closed_kept None c s more end len = spoiled_kept c s len
closed_kept (Some close) c s more end len = refl

complete_kept : (k : CapsuleType) (c : Connection) (s : Stream) (value : List ℕ) (left end len : ℕ)
    → Kept c (complete k c s value left end len)
complete_kept capsule.Close c s value left end len =
    closed_kept (close_in value) c s (nat_lt 0 left) end len
complete_kept capsule.Datagram c s value left end len = refl
complete_kept capsule.Drain c s value left end len = refl

capsule_kept : (r : Capsules) (c : Connection) (s : Stream) (left end len : ℕ)
    → Kept c (capsule_found r c s left end len)
capsule_kept (Ok None) c s left end len = refl
capsule_kept (Ok (Some x)) c s left end len = complete_kept x.0 c s x.1 left end len
capsule_kept (Err capsule_error.TooLong) c s left end len = spoiled_kept c s len
capsule_kept (Err capsule_error.Memory) c s left end len = refl

capsules_kept : (c : Connection) (s : Stream) (piece : List ℕ) (end len : ℕ) (o : Outcome)
    → CapsulesGive c s piece end len o
    → Kept c o
capsules_kept c s piece end len o g =
    same c o (capsule_found g.0 c g.1 (length g.2) end len) g.4
    (capsule_kept g.0 c g.1 (length g.2) end len)

content_kept : (b : Bool) (c : Connection) (s : Stream) (size : ℕ) (bytes : List ℕ) (o : Outcome)
    → ContentBy b c s size bytes o
    → Kept c o
content_kept true c s size bytes o g = same c o _ g refl
content_kept false c s size bytes o g = capsules_kept c s _ size (length bytes) o g

-- ---- messages

piece_kept : (fit : Bool) (c : Connection) (s : Stream) (m : Message) (start end : ℕ) (bytes : List ℕ)
    → Kept c (content_by fit c s m start end bytes)
piece_kept true c s m start end bytes = refl
piece_kept false c s m start end bytes = refl

data_kept : (p : Part) (c : Connection) (s : Stream) (start end : ℕ) (bytes : List ℕ) (o : Outcome)
    → DataBy p c s start end bytes o
    → Kept c o
data_kept (part.Head m) c s start end bytes o g =
    same c o _ g (piece_kept (fits m.content.left ((end - start) + remaining_of s.frames)) c s m start end bytes)
data_kept (part.Body m) c s start end bytes o g =
    same c o _ g (piece_kept (fits m.content.left ((end - start) + remaining_of s.frames)) c s m start end bytes)
data_kept (part.Session n) c s start end bytes o g = capsules_kept c s _ end (length bytes) o g
data_kept part.OfSession c s start end bytes o g = same c o _ g refl
data_kept _ c s start end bytes o g = same c o _ g refl

opened_kept : (p : Purpose) (c : Connection) (s : Stream) (n : ℕ) → Kept c (found_opened c s p n)
opened_kept («for».Session id) c s n = refl
opened_kept «for».Message c s n = refl
opened_kept _ c s n = refl

finish_kept : (r : Result (Unit {0}) Malformed) (c : Connection) (s : Stream) (len : ℕ)
    → Kept c (ends_by c s len r)
finish_kept (Ok u) c s len = refl
finish_kept (Err rule) c s len = refl

session_end_kept : (c : Connection) (s : Stream) (len : ℕ) (o : Outcome)
    → SessionEndGives c s len o
    → Kept c o
session_end_kept c s len o (Between b e) = same c o _ e refl
session_end_kept c s len o (Within cut e) = same c o _ e (spoiled_kept c s len)

end_kept : (p : Part) (c : Connection) (s : Stream) (len : ℕ) (o : Outcome)
    → EndBy p c s len o
    → Kept c o
end_kept (part.Head m) c s len o g =
    same c o _ g (finish_kept (end_of m.stage m.content.left) c s len)
end_kept (part.Body m) c s len o g =
    same c o _ g (finish_kept (end_of m.stage m.content.left) c s len)
end_kept (part.Session n) c s len o g = session_end_kept c s len o g
end_kept _ c s len o g = same c o _ g refl

too_large_kept : (p : Part) (c : Connection) (s : Stream) (size : Option ℕ) (n : ℕ)
    → Kept c (too_large_by p c s size n)
too_large_kept (part.Head m) c s size n = refl
too_large_kept _ c s size n = refl

-- ---- field sections

interim_kept : (x : Joined) (c : Connection) (s : Stream) (status : ℕ) (fields : List Field) (span : Span)
    → Kept c (interim_by c s status fields span x)
interim_kept (d, t, None) c s status fields span = refl
interim_kept (d, t, Some f) c s status fields span =
    fails_kept (with_streams c d) (with_frames s t) (fault.Streams f) span.len

request_kept : (a : Asks) (c : Connection) (s : Stream) (m : Message) (fields : List Field) (span : Span)
    → Kept c (request_by a c s m fields span)
request_kept asks.Plain c s m fields span = refl
request_kept asks.Tunnel c s m fields span = refl
request_kept asks.TooEarly c s m fields span = refl
request_kept asks.Session c s m fields span = refl

takes_kept : (k : Taken) (c : Connection) (s : Stream) (m : Message) (fields : List Field) (span : Span)
    → Kept c (takes c s m fields span k)
takes_kept taken.Request c s m fields span = request_kept (asks_of c fields) c s m fields span
takes_kept (taken.Interim status) c s m fields span =
    interim_kept (tells_interim c.streams s.frames) c s status fields span
takes_kept (taken.Response status) c s m fields span =
    refl
takes_kept taken.Trailers c s m fields span = refl
takes_kept (taken.Malformed rule) c s m fields span = refl

result_kept : (r : Result (List Field) FieldSectionError) (c : Connection) (s : Stream) (m : Message) (span : Span) (o : Outcome)
    → ResultGives c s m span r o
    → Kept c o
result_kept (Ok fields) c s m span o g = same c o _ g.3 (takes_kept (taken_of g.0) c s g.1 fields span)
result_kept (Err section_error.TooLarge) c s m span o g =
    same c o _ g (too_large_kept s.part c s None span.end)
result_kept (Err section_error.Memory) c s m span o g = same c o _ g refl
result_kept (Err (section_error.Decoding x)) c s m span o g =
    same c o _ g (fails_kept c s (fault.Section x) span.len)

-- the decoder is the same with a section that was read
noted_decoder : (t : Told) (required : ℕ) (c : Connection) → (read_after t required c).decoder ≡ c.decoder
noted_decoder (Waits why) required c = refl
noted_decoder t required c = refl

noted_kept : (required : ℕ) (c : Connection) (p : Outcome) → Kept c p → Kept c (noted required p)
noted_kept required c p h = noted_decoder p.1 required p.2 ∙ h

over_kept : (r : Result Decoded TableSectionError) (c : Connection) (s : Stream) (m : Message) (span : Span) (o : Outcome)
    → OverGives c s m span r o
    → Kept c o
over_kept (Ok (decoded.Fields fields required)) c s m span o g =
    same c o _ g.2 (noted_kept required c g.0 (result_kept (Ok fields) c s m span g.0 g.1))
over_kept (Ok (decoded.Blocked required)) c s m span o g = same c o _ g refl
over_kept (Err table_error.TooLarge) c s m span o g =
    same c o _ g (too_large_kept s.part c s None span.end)
over_kept (Err table_error.Memory) c s m span o g = same c o _ g refl
over_kept (Err (table_error.Section x)) c s m span o g =
    same c o _ g (fails_kept c s (fault.TableSection x) span.len)

table_kept : (d : Option Decoder) (limit : ℕ) (c : Connection) (s : Stream) (m : Message) (span : Span) (bytes : List ℕ) (o : Outcome)
    → TableGives d limit c s m span bytes o
    → Kept c o
table_kept None limit c s m span bytes o g = same c o _ g (fails_kept c s fault.SectionPrefix span.len)
table_kept (Some d) limit c s m span bytes o g = over_kept g.0 c s m span o g.2

prefix_kept : (names : Bool) (limit : ℕ) (c : Connection) (s : Stream) (m : Message) (span : Span) (bytes : List ℕ) (o : Outcome)
    → PrefixGives names limit c s m span bytes o
    → Kept c o
prefix_kept true limit c s m span bytes o g = table_kept c.decoder limit c s m span bytes o g
prefix_kept false limit c s m span bytes o g = result_kept g.0 c s m span o g.2

section_kept : (p : Part) (limit : ℕ) (c : Connection) (s : Stream) (start end : ℕ) (bytes : List ℕ) (o : Outcome)
    → SectionBy p limit c s start end bytes o
    → Kept c o
section_kept (part.Head m) limit c s start end bytes o g =
    prefix_kept (names_table (slice start end bytes)) limit c s m (span_in start end bytes) bytes o g
section_kept (part.Body m) limit c s start end bytes o g =
    prefix_kept (names_table (slice start end bytes)) limit c s m (span_in start end bytes) bytes o g
section_kept _ limit c s start end bytes o g = same c o _ g refl

-- ---- calls

goaway_kept : (x : Option (ℕ × List ℕ)) (c : Connection) (s : Stream) (end : ℕ) (payload : List ℕ)
    → Kept c (in_stream s (goaway_in x c end payload))
goaway_kept None c s end payload = refl
goaway_kept (Some x) c s end payload = refl

found_kept : (x : Found) (limit : ℕ) (c : Connection) (s : Stream) (bytes : List ℕ) (o : Outcome)
    → FoundGives limit x c s bytes o
    → Kept c o
found_kept (found.Opened p n) limit c s bytes o g = same c o _ g (opened_kept p c s n)
found_kept (found.Settings v start end) limit c s bytes o g = same c o _ g refl
found_kept (found.Frame kind.Headers start end) limit c s bytes o g =
    section_kept s.part limit c s start end bytes o g
found_kept (found.Frame kind.GoAway start end) limit c s bytes o g =
    same c o _ g (goaway_kept (number_at (slice start end bytes)) c s end (slice start end bytes))
found_kept (found.Frame _ start end) limit c s bytes o g = same c o _ g refl
found_kept (found.Data start end) limit c s bytes o g = data_kept s.part c s start end bytes o g
found_kept (found.TooLarge size n) limit c s bytes o g =
    same c o _ g (too_large_kept s.part c s (Some size) n)
found_kept (found.More n) limit c s bytes o g = same c o _ g refl
found_kept (found.Fault x) limit c s bytes o g =
    same c o _ g (fails_kept c s (fault.Streams x) (length bytes))
found_kept found.End limit c s bytes o g = end_kept s.part c s (length bytes) o g

goes_kept : (limit : ℕ) (c : Connection) (s : Stream) (bytes : List ℕ) (fin : Bool) (o : Outcome)
    → GoesOn limit c s bytes fin o
    → Kept c o
goes_kept limit c s bytes fin o g =
    found_kept g.x limit (with_streams c g.d) (with_frames s g.t) bytes o g.gives

spoiled_due_kept : (b : Bool) (limit : ℕ) (c : Connection) (s : Stream) (bytes : List ℕ) (fin : Bool) (o : Outcome)
    → DueGives (spoiled_if b) limit c s bytes fin o
    → Kept c o
spoiled_due_kept true limit c s bytes fin o g = same c o _ g (spoiled_kept c s (length bytes))
spoiled_due_kept false limit c s bytes fin o g = goes_kept limit c s bytes fin o g

content_due_kept : (b : Bool) (n limit : ℕ) (c : Connection) (s : Stream) (bytes : List ℕ) (fin : Bool) (o : Outcome)
    → DueGives (cond b (due.Content n) due.Nothing) limit c s bytes fin o
    → Kept c o
content_due_kept true n limit c s bytes fin o g = content_kept (nat_lt (length bytes) n) c s n bytes o g
content_due_kept false n limit c s bytes fin o g = goes_kept limit c s bytes fin o g

due_kept : (p : Part) (empty : Bool) (limit : ℕ) (c : Connection) (s : Stream) (bytes : List ℕ) (fin : Bool) (o : Outcome)
    → DueGives (due_by p empty) limit c s bytes fin o
    → Kept c o
due_kept (part.Unanswered session m) empty limit c s bytes fin o g = same c o _ g refl
due_kept (part.Closed more) empty limit c s bytes fin o g =
    spoiled_due_kept (more || not empty) limit c s bytes fin o g
due_kept (part.Session n) empty limit c s bytes fin o g =
    content_due_kept (nat_lt 0 n) n limit c s bytes fin o g
due_kept part.Ending empty limit c s bytes fin o g = same c o _ g refl
due_kept part.Losing empty limit c s bytes fin o g = same c o _ g refl
due_kept _ empty limit c s bytes fin o g = goes_kept limit c s bytes fin o g

unread_kept : (b : Bool) (limit : ℕ) (c : Connection) (s : Stream) (size : ℕ) (bytes : List ℕ) (o : Outcome)
    → UnreadBy b limit c s size bytes o
    → Kept c o
unread_kept true limit c s size bytes o g = same c o _ g refl
unread_kept false limit c s size bytes o g =
    section_kept s.part limit c (record s { unread = unread.Nothing }) 0 size bytes o g

stream_kept : (u : Unread) (limit : ℕ) (c : Connection) (s : Stream) (bytes : List ℕ) (fin : Bool) (o : Outcome)
    → StreamGives u limit c s bytes fin o
    → Kept c o
stream_kept (unread.Early size why) limit c s bytes fin o g =
    unread_kept (nat_lt (length bytes) size) limit c s size bytes o g
stream_kept (unread.Section size) limit c s bytes fin o g =
    unread_kept (nat_lt (length bytes) size) limit c s size bytes o g
stream_kept unread.Nothing limit c s bytes fin o g =
    due_kept s.part (length bytes == 0) limit c s bytes fin o g

receives_kept : (b : Bool) (limit : ℕ) (c : Connection) (s : Stream) (bytes : List ℕ) (fin : Bool) (o : Outcome)
    → ReceivesIf b limit c s bytes fin o
    → Kept c o
receives_kept true limit c s bytes fin o g = same c o _ g refl
receives_kept false limit c s bytes fin o g = stream_kept s.unread limit c s bytes fin o g

pub decoder_kept : (limit : ℕ) (c : Connection) (s : Stream) (bytes : List ℕ) (fin : Bool) (o : Outcome)
    → Receives limit c s bytes fin o
    → Kept c o
decoder_kept limit c s bytes fin o g = receives_kept c.over limit c s bytes fin o g

-- ---- instructions

runs_kept : (d e : Decoder) (held bytes : List ℕ) (r : Result (Unit {0}) EncoderStreamError)
    → PieceRead (Runs held) bytes d e r
    → HasLimits d e
runs_kept d e held bytes (Ok u) (left, stands, is) = record {
  limit = (leads_later stands.instructions d.table (held ++ bytes) e.table left stands.leads).limit;
  waiting = ap (λ (x : Decoder). x.waiting) is;
  most = ap (λ (x : Decoder). x.most) is;
}
runs_kept d e held bytes (Err f) ((is, rest, leads), breaks, same) = record {
  limit = (leads_later is d.table (held ++ bytes) e.table rest leads).limit;
  waiting = ap (λ (x : Decoder). x.waiting) same;
  most = ap (λ (x : Decoder). x.most) same;
}

piece_kept_by : (p : Progress) (d e : Decoder) (bytes : List ℕ) (r : Result (Unit {0}) EncoderStreamError)
    → PieceRead p bytes d e r
    → HasLimits d e
piece_kept_by (Runs held) d e bytes r g = runs_kept d e held bytes r g
piece_kept_by (Failed f) d e bytes r (is, failed) = record {
  limit = ap (λ (x : Decoder). x.table.limit) is;
  waiting = ap (λ (x : Decoder). x.waiting) is;
  most = ap (λ (x : Decoder). x.most) is;
}

read_decoder : (r : Result (Unit {0}) EncoderStreamError) (c : Connection) (e : Decoder) (s : Stream) (bytes : List ℕ) (o : Outcome)
    → MatchResult r
    (λ _. o ≡ (length bytes, Inserted (insert_count e.table), with_decoder c e, s))
    (λ f. o ≡ fails (with_decoder c e) s (fault.Instructions f) (length bytes))
    → o.2.decoder ≡ Some e
read_decoder (Ok u) c e s bytes o g = same (with_decoder c e) o _ g refl
read_decoder (Err f) c e s bytes o g =
    same (with_decoder c e) o _ g (fails_kept (with_decoder c e) s (fault.Instructions f) (length bytes))

-- ---- a call

limits_same : (d e : Option Decoder) → e ≡ d → KeepsLimits d e
limits_same None e is = is
limits_same (Some d) e is = rw is (record { limit = refl; waiting = refl; most = refl })

limits_some : (x e : Option Decoder) (d f : Decoder) → x ≡ Some d → e ≡ Some f → HasLimits d f → KeepsLimits x e
limits_some x e d f is after has = rw (is, after) has

instructed_decoder : (d : Option Decoder) (t : Frames) (bytes : List ℕ) (e : Decoder) → instructed_by d t bytes ≡ Some e → d ≡ Some e
instructed_decoder d frames.Encoder (b ∷ bytes) e is = is
instructed_decoder d frames.Encoder [] e is = absurd (cc is)
instructed_decoder d t bytes e is = absurd (cc is)

unless_over : (over : Bool) (x : Option Decoder) (e : Decoder) → cond over None x ≡ Some e → x ≡ Some e
unless_over true x e is = absurd (cc is)
unless_over false x e is = is

by_keeps : (x : Option Decoder) (limit : ℕ) (c : Connection) (s : Stream) (bytes : List ℕ) (fin : Bool) (o : Outcome)
    → instructed c s bytes ≡ x
    → CallBy x limit (without_read c) s bytes fin o
    → KeepsLimits c.decoder o.2.decoder
by_keeps None limit c s bytes fin o is g =
    limits_same c.decoder o.2.decoder (decoder_kept limit (without_read c) s bytes fin o g)
by_keeps (Some d) limit c s bytes fin o is (e, r, read, g) =
    limits_some c.decoder o.2.decoder d e
    (instructed_decoder c.decoder s.frames bytes d (unless_over c.over (instructed_by c.decoder s.frames bytes) d is))
    (read_decoder r (without_read c) e s bytes o g)
    (piece_kept_by d.progress d e bytes r read)

pub limits_kept : (limit : ℕ) (c : Connection) (s : Stream) (bytes : List ℕ) (fin : Bool) (o : Outcome)
    → Call limit c s bytes fin o
    → KeepsLimits c.decoder o.2.decoder
limits_kept limit c s bytes fin o g = by_keeps (instructed c s bytes) limit c s bytes fin o refl g
