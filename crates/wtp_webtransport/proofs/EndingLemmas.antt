-- Each call keeps the session of a stream, ends it or begins it.
use Rattle.std.proofs.Common.{◌≡◌, ℕ, refl, sym, ap, ◌∙◌, cond, Bool, ◌&&◌, ◌||◌, not, true, false, List, Option, Some, None, Result, Ok, Err, length, nat_lt, ◌==◌, ◌-◌, ◌+◌}
use Rattle.wtp_core.specs.Varint.{number_at}
use Rattle.wtp_core.specs.declared.error.scope.ErrorScope.{ErrorScope}
use Rattle.wtp_core.specs.declared.error.scope.ErrorScope.TheVariants as scope
use Rattle.wtp_qpack.specs.Field.{Field}
use Rattle.wtp_frames.specs.declared.frame_type.FrameType.TheVariants as kind
use Rattle.wtp_frames.specs.Reading.{slice}
use Rattle.wtp_connection.specs.declared.connection.Found.{Found}
use Rattle.wtp_connection.specs.declared.connection.Found.TheVariants as found
use Rattle.wtp_connection.specs.declared.stream.Stream.{Stream as Frames}
use Rattle.wtp_connection.specs.declared.stream.Stream.TheVariants as frames
use Rattle.wtp_connection.specs.declared.stream.Purpose.{Purpose}
use Rattle.wtp_connection.specs.declared.stream.Purpose.TheVariants as «for»
use Rattle.wtp_connection.specs.Streams.{Joined, tells_interim}
use Rattle.wtp_fields.specs.declared.fields.FieldSectionError.{FieldSectionError}
use Rattle.wtp_fields.specs.declared.fields.FieldSectionError.TheVariants as section_error
use Rattle.wtp_messages.specs.declared.malformed.Malformed.{Malformed}
use Rattle.wtp_messages.specs.declared.malformed.Malformed.TheVariants.{ContentTooLong}
use Rattle.wtp_messages.specs.Content.{fits}
use Rattle.wtp_connection.specs.Opening.{remaining_of}
use Rattle.wtp_dynamic_decoder.specs.Decoder.{Decoder}
use Rattle.wtp_dynamic_fields.specs.declared.section.Decoded.{Decoded}
use Rattle.wtp_dynamic_fields.specs.declared.section.Decoded.TheVariants as decoded
use Rattle.wtp_dynamic_fields.specs.declared.section.TableSectionError.{TableSectionError}
use Rattle.wtp_dynamic_fields.specs.declared.section.TableSectionError.TheVariants as table_error
use Rattle.wtp_webtransport.specs.Prefix.{names_table}
use Rattle.wtp_messages.specs.declared.message.Message.{Message}
use Rattle.wtp_messages.specs.declared.message.Role.{Role}
use Rattle.wtp_messages.specs.declared.response.Asked.{Asked}
use Rattle.wtp_messages.specs.declared.response.Asked.TheVariants as asked
use Rattle.wtp_messages.specs.Message.{end_of}
use Rattle.wtp_messages.specs.Response.{is_success}
use Rattle.wtp_wire.specs.declared.capsule.CapsuleError.TheVariants as capsule_error
use Rattle.wtp_wire.specs.CloseSession.{close_in}
use Rattle.wtp_webtransport.specs.declared.capsules.CapsuleType.{CapsuleType}
use Rattle.wtp_webtransport.specs.declared.capsules.CapsuleType.TheVariants as capsule
use Rattle.wtp_webtransport.specs.Capsules.{Place, Found as Capsules}
use Rattle.wtp_webtransport.specs.declared.fault.Fault.{Fault}
use Rattle.wtp_webtransport.specs.declared.fault.Fault.TheVariants as fault
use Rattle.wtp_webtransport.specs.declared.connection.Connection.{Connection}
use Rattle.wtp_webtransport.specs.declared.connection.messages.Asks.{Asks}
use Rattle.wtp_webtransport.specs.declared.connection.messages.Asks.TheVariants as asks
use Rattle.wtp_webtransport.specs.declared.connection.messages.Span.{Span}
use Rattle.wtp_webtransport.specs.declared.connection.messages.Taken.{Taken}
use Rattle.wtp_webtransport.specs.declared.connection.messages.Taken.TheVariants as taken
use Rattle.wtp_webtransport.specs.declared.stream.Stream.{Stream}
use Rattle.wtp_webtransport.specs.declared.stream.Part.{Part}
use Rattle.wtp_webtransport.specs.declared.stream.Part.TheVariants as part
use Rattle.wtp_webtransport.specs.declared.stream.Unread.{Unread}
use Rattle.wtp_webtransport.specs.declared.stream.Unread.TheVariants as unread
use Rattle.wtp_webtransport.specs.declared.stream.Due.TheVariants as due
use Rattle.wtp_webtransport.specs.Events.{Told}
use Rattle.wtp_webtransport.specs.Events as told
use Rattle.wtp_webtransport.specs.Fault.{scope_of}
use Rattle.wtp_webtransport.specs.Sessions.{asks_of}
use Rattle.wtp_webtransport.specs.Streams.{after_end, after_error, head_if, member_if, with_streams, with_frames, with_message, is_held, spoiled_if, due_by, GivesNext}
use Rattle.wtp_webtransport.specs.Receiving.{Outcome, closed_in, fails, last, goaway_in, in_stream, leaves, malformed, spoiled, found_opened, content_by, closed_if, complete, capsule_found, CapsulesGive, ContentBy, DataBy, ends_by, SessionEndGives, Between, Within, EndBy, too_large_by, interim_by, request_by, response_in, takes, taken_of, ResultGives, PrefixGives, span_in, SectionBy, told_more, FoundGives, UnreadBy, GoesOn, DueGives, StreamGives, ReceivesIf, Receives, noted, OverGives, TableGives}
use Rattle.wtp_webtransport.specs.Endings.{begins_session, ends_session, Keeps, KeepsSession}

-- ---- events that are neither

same : (b : Bool) → b ≡ ((b || false) && not false)
same true = refl
same false = refl

pub over : (b : Bool) → false ≡ ((b || false) && not true)
over true = refl
over false = refl

begun : (b : Bool) → true ≡ ((b || true) && not false)
begun true = refl
begun false = refl

pub quiet : (p : Part) (told : Told) (q : Part)
    → begins_session told ≡ false
    → ends_session told ≡ false
    → is_held q ≡ is_held p
    → Keeps p told q
quiet p told q b e h = record {
  held = rw (b, e, h) (same (is_held p));
  only = λ t. absurd (cc (sym e ∙ t));
}

-- the outcome is another one
at : (s : Stream) (o x : Outcome) → o ≡ x → KeepsSession s x → KeepsSession s o
at s o x e k = rw e k

-- ---- parts

losing : Part → Bool
losing part.Losing = true
losing _ = false

pub held_after_end : (p : Part) → is_held (after_end p) ≡ false
held_after_end (part.Session n) = refl
held_after_end (part.Closed more) = refl
held_after_end part.Ending = refl
held_after_end part.Losing = refl
held_after_end part.Past = refl
held_after_end _ = refl

held_after_error : (p : Part) → is_held (after_error p) ≡ is_held p
held_after_error (part.Session n) = refl
held_after_error (part.Closed more) = refl
held_after_error part.Ending = refl
held_after_error part.Losing = refl
held_after_error part.Past = refl
held_after_error _ = refl

held_head : (p : Part) (r : Role) → is_held (head_if p r) ≡ is_held p
held_head part.NoMessage r = refl
held_head _ r = refl

held_member : (p : Part) → is_held (member_if p) ≡ is_held p
held_member part.NoMessage = refl
held_member _ = refl

held_message : (p : Part) (m : Message) → is_held (with_message p m) ≡ false
held_message (part.Head n) m = refl
held_message _ m = refl

-- ---- errors and ends

pub begins_fault : (c : Connection) (f : Fault) (k : ErrorScope) → begins_session (closed_in c f k).1 ≡ false
begins_fault c f scope.Stream = refl
begins_fault c f _ = refl

pub ends_fault : (c : Connection) (f : Fault) (k : ErrorScope) → ends_session (closed_in c f k).1 ≡ false
ends_fault c f scope.Stream = refl
ends_fault c f _ = refl

fails_keeps : (c : Connection) (s : Stream) (f : Fault) (len : ℕ) → KeepsSession s (fails c s f len)
fails_keeps c s f len =
    quiet s.part _ (after_error s.part) (begins_fault c f (scope_of f)) (ends_fault c f (scope_of f)) (held_after_error s.part)

spoiled_keeps : (c : Connection) (s : Stream) (len : ℕ) → KeepsSession s (spoiled c s len)
spoiled_keeps c s len = fails_keeps (leaves c s).0 (leaves c s).1 fault.Capsule len

malformed_keeps : (c : Connection) (s : Stream) (rule : Malformed) (len : ℕ)
    → is_held s.part ≡ false
    → KeepsSession s (malformed c s rule len)
malformed_keeps c s rule len h = quiet s.part _ part.NoMessage refl refl (sym h)

last_keeps : (c : Connection) (s : Stream) (len : ℕ)
    → is_held s.part ≡ false
    → KeepsSession s (last c s told.End len)
last_keeps c s len h = quiet s.part _ (after_end s.part) refl refl (held_after_end s.part ∙ sym h)

lost_keeps : (c : Connection) (s : Stream) (len : ℕ)
    → is_held s.part ≡ true
    → KeepsSession s (last c s told.SessionLost len)
lost_keeps c s len h = record {
  held = held_after_end s.part ∙ over (is_held s.part);
  only = λ t. h;
}

-- ---- capsules

closed_keeps : (x : Option (ℕ × List ℕ)) (c : Connection) (s : Stream) (more : Bool) (end len : ℕ)
    → is_held s.part ≡ true
    → KeepsSession s (closed_if x c s more end len)
closed_keeps None c s more end len h = spoiled_keeps c s len
closed_keeps (Some close) c s more end len h = record {
  held = over (is_held s.part);
  only = λ t. h;
}

complete_keeps : (k : CapsuleType) (c : Connection) (s : Stream) (value : List ℕ) (left end len : ℕ)
    → is_held s.part ≡ true
    → KeepsSession s (complete k c s value left end len)
complete_keeps capsule.Close c s value left end len h =
    closed_keeps (close_in value) c s (nat_lt 0 left) end len h
complete_keeps capsule.Datagram c s value left end len h =
    quiet s.part _ (part.Session left) refl refl (sym h)
complete_keeps capsule.Drain c s value left end len h =
    quiet s.part _ (part.Session left) refl refl (sym h)

capsule_keeps : (r : Capsules) (c : Connection) (s : Stream) (left end len : ℕ)
    → is_held s.part ≡ true
    → KeepsSession s (capsule_found r c s left end len)
capsule_keeps (Ok None) c s left end len h = quiet s.part _ (part.Session left) refl refl (sym h)
capsule_keeps (Ok (Some x)) c s left end len h = complete_keeps x.0 c s x.1 left end len h
capsule_keeps (Err capsule_error.TooLong) c s left end len h = spoiled_keeps c s len
capsule_keeps (Err capsule_error.Memory) c s left end len h =
    quiet s.part _ (part.Session left) refl refl (sym h)

part_kept : (h : Option Place) (r : Capsules) (s : Stream) (a : List ℕ) (t : Stream) (b : List ℕ)
    → GivesNext h r s a t b
    → t.part ≡ s.part
part_kept None r s a t b g = ap (λ (x : Stream). x.part) g.1
part_kept (Some h) r s a t b g = ap (λ (x : Stream). x.part) g.2

from_part : (p q : Part) (told : Told) (x : Part) → q ≡ p → Keeps q told x → Keeps p told x
from_part p q told x e k = rw (sym e) k

capsules_keep : (c : Connection) (s : Stream) (piece : List ℕ) (end len : ℕ) (o : Outcome)
    → is_held s.part ≡ true
    → CapsulesGive c s piece end len o
    → KeepsSession s o
capsules_keep c s piece end len o h g =
    let same_part : g.1.part ≡ s.part = part_kept s.capsules g.0 s piece g.1 g.2 g.3 in
    at s o (capsule_found g.0 c g.1 (length g.2) end len) g.4
    (from_part s.part g.1.part _ _ same_part
    (capsule_keeps g.0 c g.1 (length g.2) end len (ap is_held same_part ∙ h)))

content_keeps : (b : Bool) (c : Connection) (s : Stream) (size : ℕ) (bytes : List ℕ) (o : Outcome)
    → is_held s.part ≡ true
    → ContentBy b c s size bytes o
    → KeepsSession s o
content_keeps true c s size bytes o h g = at s o _ g (quiet s.part _ s.part refl refl refl)
content_keeps false c s size bytes o h g = capsules_keep c s _ size (length bytes) o h g

-- ---- messages

piece_keeps : (fit : Bool) (c : Connection) (s : Stream) (m : Message) (start end : ℕ) (bytes : List ℕ)
    → is_held s.part ≡ false
    → KeepsSession s (content_by fit c s m start end bytes)
piece_keeps true c s m start end bytes h =
    quiet s.part _ _ refl refl (held_message s.part _ ∙ sym h)
piece_keeps false c s m start end bytes h = malformed_keeps c s ContentTooLong (length bytes) h

data_keeps : (p : Part) (c : Connection) (s : Stream) (start end : ℕ) (bytes : List ℕ) (o : Outcome)
    → s.part ≡ p
    → DataBy p c s start end bytes o
    → KeepsSession s o
data_keeps (part.Head m) c s start end bytes o e g =
    at s o _ g (piece_keeps (fits m.content.left ((end - start) + remaining_of s.frames)) c s m start end bytes (ap is_held e))
data_keeps (part.Body m) c s start end bytes o e g =
    at s o _ g (piece_keeps (fits m.content.left ((end - start) + remaining_of s.frames)) c s m start end bytes (ap is_held e))
data_keeps (part.Session n) c s start end bytes o e g =
    capsules_keep c s _ end (length bytes) o (ap is_held e) g
data_keeps part.OfSession c s start end bytes o e g =
    at s o _ g (quiet s.part _ s.part refl refl refl)
data_keeps _ c s start end bytes o e g = at s o _ g (quiet s.part _ s.part refl refl refl)

opened_keeps : (p : Purpose) (c : Connection) (s : Stream) (n : ℕ) → KeepsSession s (found_opened c s p n)
opened_keeps («for».Session id) c s n = quiet s.part _ _ refl refl (held_member s.part)
opened_keeps «for».Message c s n = quiet s.part _ _ refl refl (held_head s.part _)
opened_keeps _ c s n = quiet s.part _ s.part refl refl refl

finish_keeps : (r : Result (Unit {0}) Malformed) (c : Connection) (s : Stream) (len : ℕ)
    → is_held s.part ≡ false
    → KeepsSession s (ends_by c s len r)
finish_keeps (Ok u) c s len h = last_keeps c s len h
finish_keeps (Err rule) c s len h = malformed_keeps c s rule len h

session_end_keeps : (c : Connection) (s : Stream) (len : ℕ) (o : Outcome)
    → is_held s.part ≡ true
    → SessionEndGives c s len o
    → KeepsSession s o
session_end_keeps c s len o h (Between b e) =
    at s o _ e (record { held = over (is_held s.part); only = λ t. h })
session_end_keeps c s len o h (Within cut e) = at s o _ e (spoiled_keeps c s len)

no_longer : (p : Part) → losing p ≡ false → p ≡ part.Losing → ⊥
unfolding losing
no_longer p f e = cc (sym f ∙ ap losing e)

end_keeps : (p : Part) (c : Connection) (s : Stream) (len : ℕ) (o : Outcome)
    → losing s.part ≡ false
    → s.part ≡ p
    → EndBy p c s len o
    → KeepsSession s o
end_keeps (part.Head m) c s len o f e g =
    at s o _ g (finish_keeps (end_of m.stage m.content.left) c s len (ap is_held e))
end_keeps (part.Body m) c s len o f e g =
    at s o _ g (finish_keeps (end_of m.stage m.content.left) c s len (ap is_held e))
end_keeps (part.Session n) c s len o f e g = session_end_keeps c s len o (ap is_held e) g
end_keeps part.Losing c s len o f e g = absurd (no_longer s.part f e)
end_keeps _ c s len o f e g = at s o _ g (last_keeps c s len (ap is_held e))

too_large_keeps : (p : Part) (c : Connection) (s : Stream) (size : Option ℕ) (n : ℕ)
    → s.part ≡ p
    → KeepsSession s (too_large_by p c s size n)
too_large_keeps (part.Head m) c s size n e =
    quiet s.part _ part.NoMessage refl refl (sym (ap is_held e))
too_large_keeps _ c s size n e = quiet s.part _ s.part refl refl refl

-- ---- field sections

interim_keeps : (x : Joined) (c : Connection) (s : Stream) (status : ℕ) (fields : List Field) (span : Span)
    → KeepsSession s (interim_by c s status fields span x)
interim_keeps (d, t, None) c s status fields span = quiet s.part _ s.part refl refl refl
interim_keeps (d, t, Some f) c s status fields span = fails_keeps (with_streams c d) (with_frames s t) (fault.Streams f) span.len

request_keeps : (a : Asks) (c : Connection) (s : Stream) (m : Message) (fields : List Field) (span : Span)
    → is_held s.part ≡ false
    → KeepsSession s (request_by a c s m fields span)
request_keeps asks.Plain c s m fields span h = quiet s.part _ (part.Body m) refl refl (sym h)
request_keeps asks.Tunnel c s m fields span h =
    quiet s.part _ (part.Unanswered false m) refl refl (sym h)
request_keeps asks.TooEarly c s m fields span h = quiet s.part _ s.part refl refl refl
request_keeps asks.Session c s m fields span h =
    quiet s.part _ (part.Unanswered true m) refl refl (sym h)

response_keeps : (a : Option Asked) (success : Bool) (s : Stream) (m : Message) (status : ℕ) (fields : List Field) (span : Span)
    → is_held s.part ≡ false
    → Keeps s.part (response_in a success s m status fields span).1 (response_in a success s m status fields span).2.part
response_keeps (Some asked.Session) true s m status fields span h = record {
  held = begun (is_held s.part);
  only = λ t. absurd (cc t);
}
response_keeps (Some asked.Session) false s m status fields span h =
    quiet s.part _ (part.Body m) refl refl (sym h)
response_keeps (Some asked.Connect) true s m status fields span h =
    quiet s.part _ part.Tunnel refl refl (sym h)
response_keeps _ success s m status fields span h =
    quiet s.part _ (part.Body m) refl refl (sym h)

takes_keeps : (k : Taken) (c : Connection) (s : Stream) (m : Message) (fields : List Field) (span : Span)
    → is_held s.part ≡ false
    → KeepsSession s (takes c s m fields span k)
takes_keeps taken.Request c s m fields span h =
    request_keeps (asks_of c fields) c s m fields span h
takes_keeps (taken.Interim status) c s m fields span h =
    interim_keeps (tells_interim c.streams s.frames) c s status fields span
takes_keeps (taken.Response status) c s m fields span h =
    response_keeps s.asked (is_success (Some status)) s m status fields span h
takes_keeps taken.Trailers c s m fields span h =
    quiet s.part _ (part.Body m) refl refl (sym h)
takes_keeps (taken.Malformed rule) c s m fields span h = malformed_keeps c s rule span.len h

result_keeps : (r : Result (List Field) FieldSectionError) (c : Connection) (s : Stream) (m : Message) (span : Span) (o : Outcome)
    → is_held s.part ≡ false
    → ResultGives c s m span r o
    → KeepsSession s o
result_keeps (Ok fields) c s m span o h g =
    at s o _ g.3 (takes_keeps (taken_of g.0) c s g.1 fields span h)
result_keeps (Err section_error.TooLarge) c s m span o h g =
    at s o _ g (too_large_keeps s.part c s None span.end refl)
result_keeps (Err section_error.Memory) c s m span o h g =
    at s o _ g (quiet s.part _ s.part refl refl refl)
result_keeps (Err (section_error.Decoding x)) c s m span o h g =
    at s o _ g (fails_keeps c s (fault.Section x) span.len)

over_keeps : (r : Result Decoded TableSectionError) (c : Connection) (s : Stream) (m : Message) (span : Span) (o : Outcome)
    → is_held s.part ≡ false
    → OverGives c s m span r o
    → KeepsSession s o
over_keeps (Ok (decoded.Fields fields required)) c s m span o h (p, gives, e) =
    at s o (noted required p) e (result_keeps (Ok fields) c s m span p h gives)
over_keeps (Ok (decoded.Blocked required)) c s m span o h g =
    at s o _ g (quiet s.part _ s.part refl refl refl)
over_keeps (Err table_error.TooLarge) c s m span o h g =
    at s o _ g (too_large_keeps s.part c s None span.end refl)
over_keeps (Err table_error.Memory) c s m span o h g =
    at s o _ g (quiet s.part _ s.part refl refl refl)
over_keeps (Err (table_error.Section x)) c s m span o h g =
    at s o _ g (fails_keeps c s (fault.TableSection x) span.len)

table_keeps : (d : Option Decoder) (limit : ℕ) (c : Connection) (s : Stream) (m : Message) (span : Span) (bytes : List ℕ) (o : Outcome)
    → is_held s.part ≡ false
    → TableGives d limit c s m span bytes o
    → KeepsSession s o
table_keeps None limit c s m span bytes o h g = at s o _ g (fails_keeps c s fault.SectionPrefix span.len)
table_keeps (Some d) limit c s m span bytes o h g = over_keeps g.0 c s m span o h g.2

prefix_keeps : (names : Bool) (limit : ℕ) (c : Connection) (s : Stream) (m : Message) (span : Span) (bytes : List ℕ) (o : Outcome)
    → is_held s.part ≡ false
    → PrefixGives names limit c s m span bytes o
    → KeepsSession s o
prefix_keeps true limit c s m span bytes o h g = table_keeps c.decoder limit c s m span bytes o h g
prefix_keeps false limit c s m span bytes o h g = result_keeps g.0 c s m span o h g.2

section_keeps : (p : Part) (limit : ℕ) (c : Connection) (s : Stream) (start end : ℕ) (bytes : List ℕ) (o : Outcome)
    → s.part ≡ p
    → SectionBy p limit c s start end bytes o
    → KeepsSession s o
section_keeps (part.Head m) limit c s start end bytes o e g =
    prefix_keeps (names_table (slice start end bytes)) limit c s m (span_in start end bytes) bytes o (ap is_held e) g
section_keeps (part.Body m) limit c s start end bytes o e g =
    prefix_keeps (names_table (slice start end bytes)) limit c s m (span_in start end bytes) bytes o (ap is_held e) g
section_keeps _ limit c s start end bytes o e g =
    at s o _ g (quiet s.part _ s.part refl refl refl)

-- ---- calls

goaway_keeps : (x : Option (ℕ × List ℕ)) (c : Connection) (s : Stream) (end : ℕ) (payload : List ℕ)
    → KeepsSession s (in_stream s (goaway_in x c end payload))
goaway_keeps None c s end payload = quiet s.part _ s.part refl refl refl
goaway_keeps (Some x) c s end payload = quiet s.part _ s.part refl refl refl

more_begins : (t : Frames) → begins_session (told_more t) ≡ false
more_begins (frames.Waiting id) = refl
more_begins _ = refl

more_ends : (t : Frames) → ends_session (told_more t) ≡ false
more_ends (frames.Waiting id) = refl
more_ends _ = refl

found_keeps : (x : Found) (limit : ℕ) (c : Connection) (s : Stream) (bytes : List ℕ) (o : Outcome)
    → losing s.part ≡ false
    → FoundGives limit x c s bytes o
    → KeepsSession s o
found_keeps (found.Opened p n) limit c s bytes o f g = at s o _ g (opened_keeps p c s n)
found_keeps (found.Settings v start end) limit c s bytes o f g =
    at s o _ g (quiet s.part _ s.part refl refl refl)
found_keeps (found.Frame kind.Headers start end) limit c s bytes o f g =
    section_keeps s.part limit c s start end bytes o refl g
found_keeps (found.Frame kind.GoAway start end) limit c s bytes o f g =
    at s o _ g (goaway_keeps (number_at (slice start end bytes)) c s end (slice start end bytes))
found_keeps (found.Frame _ start end) limit c s bytes o f g =
    at s o _ g (quiet s.part _ s.part refl refl refl)
found_keeps (found.Data start end) limit c s bytes o f g =
    data_keeps s.part c s start end bytes o refl g
found_keeps (found.TooLarge size n) limit c s bytes o f g =
    at s o _ g (too_large_keeps s.part c s (Some size) n refl)
found_keeps (found.More n) limit c s bytes o f g =
    at s o _ g (quiet s.part _ s.part (more_begins s.frames) (more_ends s.frames) refl)
found_keeps (found.Fault x) limit c s bytes o f g =
    at s o _ g (fails_keeps c s (fault.Streams x) (length bytes))
found_keeps found.End limit c s bytes o f g =
    end_keeps s.part c s (length bytes) o f refl g

goes_keeps : (limit : ℕ) (c : Connection) (s : Stream) (bytes : List ℕ) (fin : Bool) (o : Outcome)
    → losing s.part ≡ false
    → GoesOn limit c s bytes fin o
    → KeepsSession s o
goes_keeps limit c s bytes fin o f g =
    found_keeps g.x limit (with_streams c g.d) (with_frames s g.t) bytes o f g.gives

spoiled_due_keeps : (b : Bool) (limit : ℕ) (c : Connection) (s : Stream) (bytes : List ℕ) (fin : Bool) (o : Outcome)
    → losing s.part ≡ false
    → DueGives (spoiled_if b) limit c s bytes fin o
    → KeepsSession s o
spoiled_due_keeps true limit c s bytes fin o f g = at s o _ g (spoiled_keeps c s (length bytes))
spoiled_due_keeps false limit c s bytes fin o f g = goes_keeps limit c s bytes fin o f g

content_due_keeps : (b : Bool) (n limit : ℕ) (c : Connection) (s : Stream) (bytes : List ℕ) (fin : Bool) (o : Outcome)
    → losing s.part ≡ false
    → is_held s.part ≡ true
    → DueGives (cond b (due.Content n) due.Nothing) limit c s bytes fin o
    → KeepsSession s o
content_due_keeps true n limit c s bytes fin o f h g =
    content_keeps (nat_lt (length bytes) n) c s n bytes o h g
content_due_keeps false n limit c s bytes fin o f h g = goes_keeps limit c s bytes fin o f g

due_keeps : (p : Part) (empty : Bool) (limit : ℕ) (c : Connection) (s : Stream) (bytes : List ℕ) (fin : Bool) (o : Outcome)
    → s.part ≡ p
    → DueGives (due_by p empty) limit c s bytes fin o
    → KeepsSession s o
unfolding losing
due_keeps (part.Unanswered session m) empty limit c s bytes fin o e g =
    at s o _ g (quiet s.part _ s.part refl refl refl)
due_keeps (part.Closed more) empty limit c s bytes fin o e g =
    spoiled_due_keeps (more || not empty) limit c s bytes fin o (ap losing e) g
due_keeps (part.Session n) empty limit c s bytes fin o e g =
    content_due_keeps (nat_lt 0 n) n limit c s bytes fin o (ap losing e) (ap is_held e) g
due_keeps part.Ending empty limit c s bytes fin o e g =
    at s o _ g (last_keeps c s (length bytes) (ap is_held e))
due_keeps part.Losing empty limit c s bytes fin o e g =
    at s o _ g (lost_keeps c s (length bytes) (ap is_held e))
due_keeps _ empty limit c s bytes fin o e g = goes_keeps limit c s bytes fin o (ap losing e) g

unread_keeps : (b : Bool) (limit : ℕ) (c : Connection) (s : Stream) (size : ℕ) (bytes : List ℕ) (o : Outcome)
    → UnreadBy b limit c s size bytes o
    → KeepsSession s o
unread_keeps true limit c s size bytes o g = at s o _ g (quiet s.part _ s.part refl refl refl)
unread_keeps false limit c s size bytes o g =
    section_keeps s.part limit c (record s { unread = unread.Nothing }) 0 size bytes o refl g

stream_keeps : (u : Unread) (limit : ℕ) (c : Connection) (s : Stream) (bytes : List ℕ) (fin : Bool) (o : Outcome)
    → StreamGives u limit c s bytes fin o
    → KeepsSession s o
stream_keeps (unread.Early size why) limit c s bytes fin o g =
    unread_keeps (nat_lt (length bytes) size) limit c s size bytes o g
stream_keeps (unread.Section size) limit c s bytes fin o g =
    unread_keeps (nat_lt (length bytes) size) limit c s size bytes o g
stream_keeps unread.Nothing limit c s bytes fin o g =
    due_keeps s.part (length bytes == 0) limit c s bytes fin o refl g

receives_keeps : (b : Bool) (limit : ℕ) (c : Connection) (s : Stream) (bytes : List ℕ) (fin : Bool) (o : Outcome)
    → ReceivesIf b limit c s bytes fin o
    → KeepsSession s o
receives_keeps true limit c s bytes fin o g = at s o _ g (quiet s.part _ s.part refl refl refl)
receives_keeps false limit c s bytes fin o g = stream_keeps s.unread limit c s bytes fin o g

pub sessions_kept : (limit : ℕ) (c : Connection) (s : Stream) (bytes : List ℕ) (fin : Bool) (o : Outcome)
    → Receives limit c s bytes fin o
    → KeepsSession s o
sessions_kept limit c s bytes fin o g = receives_keeps c.over limit c s bytes fin o g
