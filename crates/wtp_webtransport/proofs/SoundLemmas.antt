-- Bytes of a capsule that is cut are missing, after every call.
use Rattle.std.proofs.Common.{◌≡◌, ℕ, ◌+◌, ◌-◌, ◌==◌, ◌||◌, ◌&&◌, not, nat_lt, Bool, true, false, cond, List, length, take, Option, Some, None, Result, Ok, Err, refl, sym, ap, subst, ◌∙◌}
use Rattle.wtp_core.specs.declared.error.scope.ErrorScope.{ErrorScope}
use Rattle.wtp_core.specs.declared.error.scope.ErrorScope.TheVariants as scope
use Rattle.wtp_qpack.specs.Field.{Field}
use Rattle.wtp_wire.specs.CloseSession.{close_in}
use Rattle.wtp_wire.specs.declared.capsule.CapsuleError.TheVariants as capsule_error
use Rattle.wtp_frames.specs.Reading.{slice}
use Rattle.wtp_frames.specs.declared.frame_type.FrameType.TheVariants as kind
use Rattle.wtp_connection.specs.declared.connection.Found.{Found as Finding}
use Rattle.wtp_connection.specs.declared.connection.Found.TheVariants as found
use Rattle.wtp_connection.specs.declared.connection.Known.{Known}
use Rattle.wtp_connection.specs.declared.stream.Purpose.{Purpose}
use Rattle.wtp_connection.specs.declared.stream.Purpose.TheVariants as «for»
use Rattle.wtp_connection.specs.declared.fault.Fault.{Fault as StreamsFault}
use Rattle.wtp_connection.specs.Opening.{remaining_of}
use Rattle.wtp_connection.specs.Streams.{Joined, tells_interim, joins as joins_streams, resets as resets_frames, abandons as abandons_frames, overflows as overflows_frames}
use Rattle.wtp_connection.specs.Fault.{scope_of as streams_scope}
use Rattle.wtp_fields.specs.declared.fields.FieldSectionError.{FieldSectionError}
use Rattle.wtp_fields.specs.declared.fields.FieldSectionError.TheVariants as section_error
use Rattle.wtp_messages.specs.declared.malformed.Malformed.{Malformed}
use Rattle.wtp_messages.specs.declared.message.Message.{Message}
use Rattle.wtp_messages.specs.declared.response.Asked.{Asked}
use Rattle.wtp_messages.specs.declared.response.Asked.TheVariants as asked
use Rattle.wtp_messages.specs.Content.{fits}
use Rattle.wtp_messages.specs.Message.{end_of as message_end}
use Rattle.wtp_messages.specs.Response.{is_success}
use Rattle.wtp_dynamic_decoder.specs.Decoder.{Decoder}
use Rattle.wtp_dynamic_fields.specs.declared.section.Decoded.{Decoded}
use Rattle.wtp_dynamic_fields.specs.declared.section.Decoded.TheVariants as decoded
use Rattle.wtp_dynamic_fields.specs.declared.section.TableSectionError.{TableSectionError}
use Rattle.wtp_dynamic_fields.specs.declared.section.TableSectionError.TheVariants as table_error
use Rattle.wtp_webtransport.specs.declared.capsules.CapsuleType.{CapsuleType}
use Rattle.wtp_webtransport.specs.declared.capsules.CapsuleType.TheVariants as capsule
use Rattle.wtp_webtransport.specs.declared.connection.Connection.{Connection}
use Rattle.wtp_webtransport.specs.declared.connection.messages.Taken.{Taken as Section}
use Rattle.wtp_webtransport.specs.declared.connection.messages.Taken.TheVariants as taken
use Rattle.wtp_webtransport.specs.declared.connection.messages.Asks.{Asks}
use Rattle.wtp_webtransport.specs.declared.connection.messages.Asks.TheVariants as asks
use Rattle.wtp_webtransport.specs.declared.connection.messages.Span.{Span}
use Rattle.wtp_webtransport.specs.declared.stream.Part.{Part}
use Rattle.wtp_webtransport.specs.declared.stream.Part.TheVariants as part
use Rattle.wtp_webtransport.specs.declared.stream.Stream.{Stream}
use Rattle.wtp_webtransport.specs.declared.stream.Unread.{Unread}
use Rattle.wtp_webtransport.specs.declared.stream.Unread.TheVariants as unread
use Rattle.wtp_webtransport.specs.declared.stream.Due.{Due}
use Rattle.wtp_webtransport.specs.declared.stream.Due.TheVariants as due
use Rattle.wtp_webtransport.specs.Capsules.{Found, Place, Taken, between, CapsuleIs, IsWithin}
use Rattle.wtp_webtransport.specs.Prefix.{names_table}
use Rattle.wtp_webtransport.specs.Sessions.{asks_of}
use Rattle.wtp_webtransport.specs.Streams.{with_streams, with_frames, with_part, connects, ended, due_by, GivesNext, answered_by, answered, is_held, is_done}
use Rattle.wtp_webtransport.specs.Receiving.{Outcome, found_opened, closed_if, complete, capsule_found, CapsulesGive, ContentBy, content_by, DataBy, SessionEndGives, EndBy, ends_by, too_large_by, taken_of as section_of, interim_by, request_by, response_in, in_connection, takes, ResultGives, PrefixGives, span_in, SectionBy, FoundGives, UnreadBy, DueGives, StreamGives, ReceivesIf, Receives, OverGives, TableGives}
use Rattle.wtp_webtransport.specs.Joining.{Outcome as Change, joined_by, joining_of, joins, reset_in, reset_by, resets, abandoned_by, abandons, overflowed_by, overflows, is_request, is_beyond, rejected_by, rejects, stops_half}
use Rattle.wtp_webtransport.specs.Progress.{IsSound}
use Rattle.wtp_webtransport.proofs.SaidLemmas.{taken_within}
use Rattle.wtp_webtransport.proofs.CapsuleLemmas.{no_pair}

-- ---- by the capsules of a stream

same_sound : (s t : Stream) → t.capsules ≡ s.capsules → IsSound s → IsSound t
same_sound s t e sound = λ p is. sound p (sym e ∙ is)

pub none_sound : (t : Stream) → t.capsules ≡ None → IsSound t
none_sound t e = λ p is. absurd (cc (sym e ∙ is))

one_place : (q p : Place) → Some q ≡ Some p → q ≡ p
one_place q p e = cc e

some_sound : (t : Stream) (q : Place) → t.capsules ≡ Some q → IsWithin q → IsSound t
some_sound t q e w = λ p is. subst IsWithin (one_place q p (sym e ∙ is)) w

-- the stream after an outcome has the capsules of another one
kept : (s : Stream) (o x : Outcome) → o ≡ x → x.3.capsules ≡ s.capsules → IsSound s → IsSound o.3
kept s o x e k sound = same_sound s o.3 (ap (λ (z : Outcome). z.3.capsules) e ∙ k) sound

over : (o x : Outcome) → o ≡ x → x.3.capsules ≡ None → IsSound o.3
over o x e k = none_sound o.3 (ap (λ (z : Outcome). z.3.capsules) e ∙ k)

begun : (o x : Outcome) → o ≡ x → x.3.capsules ≡ Some between → IsSound o.3
begun o x e k = some_sound o.3 between (ap (λ (z : Outcome). z.3.capsules) e ∙ k) no_pair

-- ---- capsules

close_sound : (k : Option (ℕ × List ℕ)) (c : Connection) (t : Stream) (later : Bool) (last len : ℕ)
    (o : Outcome)
    → IsSound t
    → o ≡ closed_if k c t later last len
    → IsSound o.3
close_sound None c t later last len o h g = kept t o _ g refl h
close_sound (Some close) c t later last len o h g = kept t o _ g refl h

complete_sound : (k : CapsuleType) (c : Connection) (t : Stream) (value : List ℕ) (left last len : ℕ)
    (o : Outcome)
    → IsSound t
    → o ≡ complete k c t value left last len
    → IsSound o.3
complete_sound capsule.Close c t value left last len o h g =
    close_sound (close_in value) c t (nat_lt 0 left) last len o h g
complete_sound capsule.Datagram c t value left last len o h g = kept t o _ g refl h
complete_sound capsule.Drain c t value left last len o h g = kept t o _ g refl h

capsule_sound : (r : Found) (c : Connection) (t : Stream) (left last len : ℕ) (o : Outcome)
    → IsSound t
    → o ≡ capsule_found r c t left last len
    → IsSound o.3
capsule_sound (Ok None) c t left last len o h g = kept t o _ g refl h
capsule_sound (Ok (Some x)) c t left last len o h g = complete_sound x.0 c t x.1 left last len o h g
capsule_sound (Err capsule_error.TooLong) c t left last len o h g = kept t o _ g refl h
capsule_sound (Err capsule_error.Memory) c t left last len o h g = kept t o _ g refl h

place_within : (r : Found) (p q : Place) (a b : List ℕ) → CapsuleIs r p a q b → IsWithin q
place_within (Err capsule_error.Memory) p q a b k = k.within
place_within (Err capsule_error.TooLong) p q a b k =
    subst (λ (t : Taken). IsWithin t.1) (sym k) (taken_within p a)
place_within (Ok x) p q a b k = subst (λ (t : Taken). IsWithin t.1) (sym k) (taken_within p a)

next_sound : (k : Option Place) (r : Found) (s t : Stream) (a b : List ℕ)
    → IsSound s
    → GivesNext k r s a t b
    → IsSound t
next_sound None r s t a b h (e, same, left) = subst IsSound (sym same) h
next_sound (Some p) r s t a b h (q, k, e) =
    some_sound t q (ap (λ (y : Stream). y.capsules) e) (place_within r p q a b k)

capsules_sound : (c : Connection) (s : Stream) (piece : List ℕ) (last len : ℕ) (o : Outcome)
    → IsSound s
    → CapsulesGive c s piece last len o
    → IsSound o.3
capsules_sound c s piece last len o h (r, t, b, gives, g) =
    capsule_sound r c t (length b) last len o (next_sound s.capsules r s t piece b h gives) g

content_sound : (b : Bool) (c : Connection) (s : Stream) (size : ℕ) (bytes : List ℕ) (o : Outcome)
    → IsSound s
    → ContentBy b c s size bytes o
    → IsSound o.3
content_sound true c s size bytes o h g = kept s o _ g refl h
content_sound false c s size bytes o h g = capsules_sound c s (take size bytes) size (length bytes) o h g

-- ---- content of a message, and the end

piece_sound : (b : Bool) (c : Connection) (s : Stream) (m : Message) (start last : ℕ) (bytes : List ℕ)
    (o : Outcome)
    → IsSound s
    → o ≡ content_by b c s m start last bytes
    → IsSound o.3
piece_sound true c s m start last bytes o h g = kept s o _ g refl h
piece_sound false c s m start last bytes o h g = kept s o _ g refl h

data_sound : (p : Part) (c : Connection) (s : Stream) (start last : ℕ) (bytes : List ℕ) (o : Outcome)
    → IsSound s
    → DataBy p c s start last bytes o
    → IsSound o.3
data_sound (part.Head m) c s start last bytes o h g =
    piece_sound (fits m.content.left ((last - start) + remaining_of s.frames)) c s m start last bytes o h g
data_sound (part.Body m) c s start last bytes o h g =
    piece_sound (fits m.content.left ((last - start) + remaining_of s.frames)) c s m start last bytes o h g
data_sound (part.Session size) c s start last bytes o h g =
    capsules_sound c s (slice start last bytes) last (length bytes) o h g
data_sound other c s start last bytes o h g = kept s o _ g refl h

ends_sound : (r : Result (Unit {0}) Malformed) (c : Connection) (s : Stream) (len : ℕ) (o : Outcome)
    → IsSound s
    → o ≡ ends_by c s len r
    → IsSound o.3
ends_sound (Ok u) c s len o h g = over o _ g refl
ends_sound (Err rule) c s len o h g = kept s o _ g refl h

end_sound : (p : Part) (c : Connection) (s : Stream) (len : ℕ) (o : Outcome)
    → IsSound s
    → EndBy p c s len o
    → IsSound o.3
end_sound (part.Head m) c s len o h g = ends_sound (message_end m.stage m.content.left) c s len o h g
end_sound (part.Body m) c s len o h g = ends_sound (message_end m.stage m.content.left) c s len o h g
end_sound (part.Session size) c s len o h (SessionEndGives.Between b e) = kept s o _ e refl h
end_sound (part.Session size) c s len o h (SessionEndGives.Within b e) = kept s o _ e refl h
end_sound other c s len o h g = over o _ g refl

-- ---- field sections

large_sound : (p : Part) (c : Connection) (s : Stream) (size : Option ℕ) (n : ℕ) (o : Outcome)
    → IsSound s
    → o ≡ too_large_by p c s size n
    → IsSound o.3
large_sound (part.Head m) c s size n o h g = kept s o _ g refl h
large_sound other c s size n o h g = kept s o _ g refl h

interim_sound : (j : Joined) (c : Connection) (s : Stream) (status : ℕ) (fields : List Field) (at : Span)
    (o : Outcome)
    → IsSound s
    → o ≡ interim_by c s status fields at j
    → IsSound o.3
interim_sound (d, t, None) c s status fields at o h g = kept s o _ g refl h
interim_sound (d, t, Some f) c s status fields at o h g = kept s o _ g refl h

request_sound : (a : Asks) (c : Connection) (s : Stream) (m : Message) (fields : List Field) (at : Span)
    (o : Outcome)
    → IsSound s
    → o ≡ request_by a c s m fields at
    → IsSound o.3
request_sound asks.Plain c s m fields at o h g = kept s o _ g refl h
request_sound asks.Tunnel c s m fields at o h g = kept s o _ g refl h
request_sound asks.TooEarly c s m fields at o h g = kept s o _ g refl h
request_sound asks.Session c s m fields at o h g = begun o _ g refl

response_sound : (a : Option Asked) (success : Bool) (c : Connection) (s : Stream) (m : Message) (status : ℕ)
    (fields : List Field) (at : Span) (o : Outcome)
    → IsSound s
    → o ≡ in_connection c (response_in a success s m status fields at)
    → IsSound o.3
response_sound (Some asked.Session) true c s m status fields at o h g = begun o _ g refl
response_sound (Some asked.Session) false c s m status fields at o h g = kept s o _ g refl h
response_sound (Some asked.Connect) true c s m status fields at o h g = kept s o _ g refl h
response_sound a success c s m status fields at o h g = kept s o _ g refl h

taken_sound : (t : Section) (c : Connection) (s : Stream) (m : Message) (fields : List Field) (at : Span)
    (o : Outcome)
    → IsSound s
    → o ≡ takes c s m fields at t
    → IsSound o.3
taken_sound taken.Request c s m fields at o h g = request_sound (asks_of c fields) c s m fields at o h g
taken_sound (taken.Interim status) c s m fields at o h g =
    interim_sound (tells_interim c.streams s.frames) c s status fields at o h g
taken_sound (taken.Response status) c s m fields at o h g =
    response_sound s.asked (is_success (Some status)) c s m status fields at o h g
taken_sound taken.Trailers c s m fields at o h g = kept s o _ g refl h
taken_sound (taken.Malformed rule) c s m fields at o h g = kept s o _ g refl h

result_sound : (r : Result (List Field) FieldSectionError) (c : Connection) (s : Stream) (m : Message)
    (at : Span) (o : Outcome)
    → IsSound s
    → ResultGives c s m at r o
    → IsSound o.3
result_sound (Ok fields) c s m at o h (x, n, comes, g) = taken_sound (section_of x) c s n fields at o h g
result_sound (Err section_error.TooLarge) c s m at o h g = large_sound s.part c s None at.end o h g
result_sound (Err section_error.Memory) c s m at o h g = kept s o _ g refl h
result_sound (Err (section_error.Decoding f)) c s m at o h g = kept s o _ g refl h

over_sound : (r : Result Decoded TableSectionError) (c : Connection) (s : Stream) (m : Message) (at : Span)
    (o : Outcome)
    → IsSound s
    → OverGives c s m at r o
    → IsSound o.3
over_sound (Ok (decoded.Fields fields required)) c s m at o h (p, gives, e) =
    subst IsSound (sym (ap (λ (z : Outcome). z.3) e)) (result_sound (Ok fields) c s m at p h gives)
over_sound (Ok (decoded.Blocked required)) c s m at o h g = kept s o _ g refl h
over_sound (Err table_error.TooLarge) c s m at o h g = large_sound s.part c s None at.end o h g
over_sound (Err table_error.Memory) c s m at o h g = kept s o _ g refl h
over_sound (Err (table_error.Section f)) c s m at o h g = kept s o _ g refl h

table_sound : (d : Option Decoder) (limit : ℕ) (c : Connection) (s : Stream) (m : Message) (at : Span)
    (bytes : List ℕ) (o : Outcome)
    → IsSound s
    → TableGives d limit c s m at bytes o
    → IsSound o.3
table_sound None limit c s m at bytes o h g = kept s o _ g refl h
table_sound (Some d) limit c s m at bytes o h (r, decodes, gives) = over_sound r c s m at o h gives

prefix_sound : (b : Bool) (limit : ℕ) (c : Connection) (s : Stream) (m : Message) (at : Span) (bytes : List ℕ)
    (o : Outcome)
    → IsSound s
    → PrefixGives b limit c s m at bytes o
    → IsSound o.3
prefix_sound true limit c s m at bytes o h g = table_sound c.decoder limit c s m at bytes o h g
prefix_sound false limit c s m at bytes o h (r, decodes, gives) = result_sound r c s m at o h gives

section_sound : (p : Part) (limit : ℕ) (c : Connection) (s : Stream) (start last : ℕ) (bytes : List ℕ)
    (o : Outcome)
    → IsSound s
    → SectionBy p limit c s start last bytes o
    → IsSound o.3
section_sound (part.Head m) limit c s start last bytes o h g =
    prefix_sound (names_table (slice start last bytes)) limit c s m (span_in start last bytes) bytes o h g
section_sound (part.Body m) limit c s start last bytes o h g =
    prefix_sound (names_table (slice start last bytes)) limit c s m (span_in start last bytes) bytes o h g
section_sound other limit c s start last bytes o h g = kept s o _ g refl h

-- ---- calls

opened_sound : (p : Purpose) (c : Connection) (s : Stream) (n : ℕ) (o : Outcome)
    → IsSound s
    → o ≡ found_opened c s p n
    → IsSound o.3
opened_sound («for».Session id) c s n o h g = kept s o _ g refl h
opened_sound «for».Message c s n o h g = kept s o _ g refl h
opened_sound other c s n o h g = kept s o _ g refl h

found_sound : (x : Finding) (limit : ℕ) (c : Connection) (s : Stream) (bytes : List ℕ) (o : Outcome)
    → IsSound s
    → FoundGives limit x c s bytes o
    → IsSound o.3
found_sound (found.Opened p n) limit c s bytes o h g = opened_sound p c s n o h g
found_sound (found.Settings v start n) limit c s bytes o h g = kept s o _ g refl h
found_sound (found.Frame kind.Headers start n) limit c s bytes o h g =
    section_sound s.part limit c s start n bytes o h g
found_sound (found.Frame kind.GoAway start n) limit c s bytes o h g = kept s o _ g refl h
found_sound (found.Frame k start n) limit c s bytes o h g = kept s o _ g refl h
found_sound (found.Data start n) limit c s bytes o h g = data_sound s.part c s start n bytes o h g
found_sound (found.TooLarge size n) limit c s bytes o h g = large_sound s.part c s (Some size) n o h g
found_sound (found.More n) limit c s bytes o h g = kept s o _ g refl h
found_sound (found.Fault f) limit c s bytes o h g = kept s o _ g refl h
found_sound found.End limit c s bytes o h g = end_sound s.part c s (length bytes) o h g

unread_sound : (b : Bool) (limit : ℕ) (c : Connection) (s : Stream) (size : ℕ) (bytes : List ℕ) (o : Outcome)
    → IsSound s
    → UnreadBy b limit c s size bytes o
    → IsSound o.3
unread_sound true limit c s size bytes o h g = kept s o _ g refl h
unread_sound false limit c s size bytes o h g =
    section_sound s.part limit c (record s { unread = unread.Nothing }) 0 size bytes o h g

due_sound : (x : Due) (limit : ℕ) (c : Connection) (s : Stream) (bytes : List ℕ) (fin : Bool) (o : Outcome)
    → IsSound s
    → DueGives x limit c s bytes fin o
    → IsSound o.3
due_sound due.Wait limit c s bytes fin o h g = kept s o _ g refl h
due_sound (due.Content size) limit c s bytes fin o h g =
    content_sound (nat_lt (length bytes) size) c s size bytes o h g
due_sound due.Spoiled limit c s bytes fin o h g = kept s o _ g refl h
due_sound due.End limit c s bytes fin o h g = over o _ g refl
due_sound due.Lost limit c s bytes fin o h g = over o _ g refl
due_sound due.Nothing limit c s bytes fin o h g =
    found_sound g.x limit (with_streams c g.d) (with_frames s g.t) bytes o h g.gives

stream_sound : (x : Unread) (limit : ℕ) (c : Connection) (s : Stream) (bytes : List ℕ) (fin : Bool)
    (o : Outcome)
    → IsSound s
    → StreamGives x limit c s bytes fin o
    → IsSound o.3
stream_sound (unread.Early size why) limit c s bytes fin o h g =
    unread_sound (nat_lt (length bytes) size) limit c s size bytes o h g
stream_sound (unread.Section size) limit c s bytes fin o h g =
    unread_sound (nat_lt (length bytes) size) limit c s size bytes o h g
stream_sound unread.Nothing limit c s bytes fin o h g =
    due_sound (due_by s.part (length bytes == 0)) limit c s bytes fin o h g

receives_sound : (b : Bool) (limit : ℕ) (c : Connection) (s : Stream) (bytes : List ℕ) (fin : Bool)
    (o : Outcome)
    → IsSound s
    → ReceivesIf b limit c s bytes fin o
    → IsSound o.3
receives_sound true limit c s bytes fin o h g = kept s o _ g refl h
receives_sound false limit c s bytes fin o h g = stream_sound s.unread limit c s bytes fin o h g

pub call_sound : (limit : ℕ) (c : Connection) (s : Stream) (bytes : List ℕ) (fin : Bool) (o : Outcome)
    → IsSound s
    → Receives limit c s bytes fin o
    → IsSound o.3
call_sound limit c s bytes fin o h g = receives_sound c.over limit c s bytes fin o h g

-- ---- calls that take no bytes

either : (b : Bool) (x y : Change) → IsSound x.2 → IsSound y.2 → IsSound (cond b x y).2
either true x y h k = h
either false x y h k = k

joined_sound : (x : Joined) (before : Option ℕ) (c : Connection) (s : Stream)
    → IsSound s
    → IsSound (joined_by c s before x).2
joined_sound (d, t, None) before c s h = h
joined_sound (d, t, Some f) before c s h = h

pub join_sound : (c : Connection) (s : Stream) (k : Known) → IsSound s → IsSound (joins c s k).2
join_sound c s k h =
    either c.over _ _ h (joined_sound (joins_streams c.streams s.frames k) (joining_of s.frames) c s h)

reset_in_sound : (k : ErrorScope) (held : Bool) (c : Connection) (s : Stream) (f : StreamsFault)
    → IsSound s
    → IsSound (reset_in k held c s f).2
reset_in_sound scope.Stream held c s f h = none_sound (ended s) refl
reset_in_sound other held c s f h = h

reset_by_sound : (x : Joined) (held : Bool) (c : Connection) (s : Stream)
    → IsSound s
    → IsSound (reset_by held c s x).2
reset_by_sound (d, t, None) held c s h = none_sound (ended (with_frames s t)) refl
reset_by_sound (d, t, Some f) held c s h =
    reset_in_sound (streams_scope f) held (with_streams c d) (with_frames s t) f h

pub reset_sound : (c : Connection) (s : Stream) → IsSound s → IsSound (resets c s).2
reset_sound c s h =
    either (c.over || is_done s.part s.frames) _ _ h
    (reset_by_sound (resets_frames c.streams s.frames) (is_held s.part) c s h)

pub abandon_sound : (c : Connection) (s : Stream) → IsSound s → IsSound (abandons c s).2
abandon_sound c s h =
    either c.over _ _ h (none_sound (abandoned_by c s (abandons_frames c.streams s.frames)).2 refl)

pub stop_sound : (c : Connection) (s : Stream) → IsSound s → IsSound (stops_half c s).2
stop_sound c s h = either (is_held s.part) _ _ (abandon_sound c s h) h

overflowed_sound : (x : Joined) (c : Connection) (s : Stream) → IsSound s → IsSound (overflowed_by c s x).2
overflowed_sound (d, t, None) c s h = h
overflowed_sound (d, t, Some f) c s h = h

pub overflow_sound : (c : Connection) (s : Stream) → IsSound s → IsSound (overflows c s).2
overflow_sound c s h = either c.over _ _ h (overflowed_sound (overflows_frames c.streams s.frames) c s h)

pub reject_sound : (c : Connection) (s : Stream) (id : ℕ) (goaway : Option ℕ)
    → IsSound s
    → IsSound (rejects c s id goaway).2
reject_sound c s id goaway h =
    either (not c.over && (is_request c.endpoint.side s.part && is_beyond goaway id)) _ _
    (none_sound (rejected_by c s (abandons_frames c.streams s.frames)).2 refl) h

two_sound : (b d session : Bool) (s : Stream) (m : Message)
    → IsSound s
    → IsSound (cond b (connects s session) (cond d (with_part s (part.Body m)) s))
two_sound true d session s m h = h
two_sound false true session s m h = h
two_sound false false session s m h = h

answer_by_sound : (p : Part) (s : Stream) (status : ℕ) → IsSound s → IsSound (answered_by s p status)
answer_by_sound (part.Unanswered session m) s status h = two_sound (is_success (Some status)) _ session s m h
answer_by_sound other s status h = h

pub answer_sound : (s : Stream) (status : ℕ) → IsSound s → IsSound (answered s status)
answer_sound s status h = answer_by_sound s.part s status h
