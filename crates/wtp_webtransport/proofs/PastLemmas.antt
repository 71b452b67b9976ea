-- A stream that has or had a session stays so.
use Rattle.std.proofs.Common.{◌≡◌, ℕ, refl, sym, ap, ◌∙◌, cond, Bool, ◌&&◌, ◌||◌, not, true, false, List, Option, Some, None, Ok, Err, length, nat_lt, ◌==◌}
use Rattle.wtp_core.specs.Varint.{number_at}
use Rattle.wtp_core.specs.declared.error.scope.ErrorScope.{ErrorScope}
use Rattle.wtp_core.specs.declared.error.scope.ErrorScope.TheVariants as scope
use Rattle.wtp_frames.specs.declared.frame_type.FrameType.TheVariants as kind
use Rattle.wtp_frames.specs.Reading.{slice}
use Rattle.wtp_connection.specs.declared.connection.Found.{Found}
use Rattle.wtp_connection.specs.declared.connection.Found.TheVariants as found
use Rattle.wtp_connection.specs.declared.stream.Purpose.{Purpose}
use Rattle.wtp_connection.specs.declared.stream.Purpose.TheVariants as «for»
use Rattle.wtp_connection.specs.Streams.{Joined}
use Rattle.wtp_messages.specs.declared.message.Message.{Message}
use Rattle.wtp_messages.specs.declared.message.Role.{Role}
use Rattle.wtp_wire.specs.declared.capsule.CapsuleError.TheVariants as capsule_error
use Rattle.wtp_wire.specs.CloseSession.{close_in}
use Rattle.wtp_webtransport.specs.declared.capsules.CapsuleType.{CapsuleType}
use Rattle.wtp_webtransport.specs.declared.capsules.CapsuleType.TheVariants as capsule
use Rattle.wtp_webtransport.specs.Capsules.{Place, Found as Capsules}
use Rattle.wtp_webtransport.specs.declared.connection.Connection.{Connection}
use Rattle.wtp_webtransport.specs.declared.stream.Stream.{Stream}
use Rattle.wtp_webtransport.specs.declared.stream.Part.{Part}
use Rattle.wtp_webtransport.specs.declared.stream.Part.TheVariants as part
use Rattle.wtp_webtransport.specs.declared.stream.Unread.{Unread}
use Rattle.wtp_webtransport.specs.declared.stream.Unread.TheVariants as unread
use Rattle.wtp_webtransport.specs.declared.stream.Due.TheVariants as due
use Rattle.wtp_webtransport.specs.Streams.{after_end, after_error, head_if, member_if, with_streams, with_frames, is_held, is_done, answered, answered_by, spoiled_if, due_by, GivesNext}
use Rattle.wtp_webtransport.specs.Receiving.{Outcome, goaway_in, in_stream, found_opened, content_by, closed_if, complete, capsule_found, CapsulesGive, ContentBy, DataBy, SessionEndGives, Between, Within, EndBy, too_large_by, SectionBy, FoundGives, UnreadBy, GoesOn, DueGives, StreamGives, ReceivesIf, Receives}
use Rattle.wtp_connection.specs.declared.connection.Known.{Known}
use Rattle.wtp_connection.specs.declared.fault.Fault.{Fault as StreamsFault}
use Rattle.wtp_connection.specs.Fault.{scope_of as streams_scope}
use Rattle.wtp_connection.specs.Streams.{joins as joins_streams, resets as resets_frames, overflows as overflows_frames}
use Rattle.wtp_webtransport.specs.Joining.{Outcome as Joining, reset_in, reset_by, resets, abandons, stops_half, joined_by, joining_of, joins, overflowed_by, overflows, is_request, is_beyond, rejects}
use Rattle.wtp_webtransport.specs.Endings.{has_begun, KeepsPast}

-- ---- parts

stays : (p : Part) → KeepsPast p p
stays p h = h

-- a part that has and had no session
started : (p : Part) → has_begun p ≡ false → has_begun p ≡ true → ⊥
started p e h = cc (sym e ∙ h)

ends : (p : Part) → KeepsPast p (after_end p)
ends (part.Session n) h = refl
ends (part.Closed more) h = refl
ends part.Ending h = refl
ends part.Losing h = refl
ends part.Past h = refl
ends _ h = cc h

fails_on : (p : Part) → KeepsPast p (after_error p)
fails_on (part.Session n) h = refl
fails_on (part.Closed more) h = refl
fails_on part.Ending h = refl
fails_on part.Losing h = refl
fails_on part.Past h = refl
fails_on _ h = cc h

heads : (p : Part) (r : Role) → KeepsPast p (head_if p r)
heads part.NoMessage r h = cc h
heads _ r h = h

members : (p : Part) → KeepsPast p (member_if p)
members part.NoMessage h = cc h
members _ h = h

-- the outcome is another one
at : (s : Stream) (o x : Outcome) → o ≡ x → KeepsPast s.part x.3.part → KeepsPast s.part o.3.part
at s o x e k h = ap (λ (z : Outcome). has_begun z.3.part) e ∙ k h

-- ---- capsules

closed_past : (x : Option (ℕ × List ℕ)) (c : Connection) (s : Stream) (more : Bool) (end len : ℕ)
    → KeepsPast s.part (closed_if x c s more end len).3.part
closed_past None c s more end len = fails_on s.part
closed_past (Some close) c s more end len = λ h. refl

complete_past : (k : CapsuleType) (c : Connection) (s : Stream) (value : List ℕ) (left end len : ℕ)
    → KeepsPast s.part (complete k c s value left end len).3.part
complete_past capsule.Close c s value left end len = closed_past (close_in value) c s (nat_lt 0 left) end len
complete_past capsule.Datagram c s value left end len = λ h. refl
complete_past capsule.Drain c s value left end len = λ h. refl

capsule_past : (r : Capsules) (c : Connection) (s : Stream) (left end len : ℕ)
    → KeepsPast s.part (capsule_found r c s left end len).3.part
capsule_past (Ok None) c s left end len = λ h. refl
capsule_past (Ok (Some x)) c s left end len = complete_past x.0 c s x.1 left end len
capsule_past (Err capsule_error.TooLong) c s left end len = fails_on s.part
capsule_past (Err capsule_error.Memory) c s left end len = λ h. refl

part_kept : (h : Option Place) (r : Capsules) (s : Stream) (a : List ℕ) (t : Stream) (b : List ℕ)
    → GivesNext h r s a t b
    → t.part ≡ s.part
part_kept None r s a t b g = ap (λ (x : Stream). x.part) g.1
part_kept (Some h) r s a t b g = ap (λ (x : Stream). x.part) g.2

capsules_past : (c : Connection) (s : Stream) (piece : List ℕ) (end len : ℕ) (o : Outcome)
    → CapsulesGive c s piece end len o
    → KeepsPast s.part o.3.part
capsules_past c s piece end len o g =
    at s o (capsule_found g.0 c g.1 (length g.2) end len) g.4
    (λ h. capsule_past g.0 c g.1 (length g.2) end len
    (ap has_begun (part_kept s.capsules g.0 s piece g.1 g.2 g.3) ∙ h))

content_past : (b : Bool) (c : Connection) (s : Stream) (size : ℕ) (bytes : List ℕ) (o : Outcome)
    → ContentBy b c s size bytes o
    → KeepsPast s.part o.3.part
content_past true c s size bytes o g = at s o _ g (stays s.part)
content_past false c s size bytes o g = capsules_past c s _ size (length bytes) o g

-- ---- messages

piece_past : (fit : Bool) (c : Connection) (s : Stream) (m : Message) (start end : ℕ) (bytes : List ℕ)
    → has_begun s.part ≡ false
    → KeepsPast s.part (content_by fit c s m start end bytes).3.part
piece_past true c s m start end bytes e = λ h. absurd (started s.part e h)
piece_past false c s m start end bytes e = λ h. absurd (started s.part e h)

data_past : (p : Part) (c : Connection) (s : Stream) (start end : ℕ) (bytes : List ℕ) (o : Outcome)
    → s.part ≡ p
    → DataBy p c s start end bytes o
    → KeepsPast s.part o.3.part
data_past (part.Head m) c s start end bytes o e g = λ h. absurd (started s.part (ap has_begun e) h)
data_past (part.Body m) c s start end bytes o e g = λ h. absurd (started s.part (ap has_begun e) h)
data_past (part.Session n) c s start end bytes o e g = capsules_past c s _ end (length bytes) o g
data_past part.OfSession c s start end bytes o e g = at s o _ g (stays s.part)
data_past _ c s start end bytes o e g = at s o _ g (stays s.part)

opened_past : (p : Purpose) (c : Connection) (s : Stream) (n : ℕ) → KeepsPast s.part (found_opened c s p n).3.part
opened_past («for».Session id) c s n = members s.part
opened_past «for».Message c s n = heads s.part _
opened_past _ c s n = stays s.part

session_end_past : (c : Connection) (s : Stream) (len : ℕ) (o : Outcome)
    → SessionEndGives c s len o
    → KeepsPast s.part o.3.part
session_end_past c s len o (Between b e) = at s o _ e (λ h. refl)
session_end_past c s len o (Within cut e) = at s o _ e (fails_on s.part)

end_past : (p : Part) (c : Connection) (s : Stream) (len : ℕ) (o : Outcome)
    → s.part ≡ p
    → EndBy p c s len o
    → KeepsPast s.part o.3.part
end_past (part.Head m) c s len o e g = λ h. absurd (started s.part (ap has_begun e) h)
end_past (part.Body m) c s len o e g = λ h. absurd (started s.part (ap has_begun e) h)
end_past (part.Session n) c s len o e g = session_end_past c s len o g
end_past _ c s len o e g = at s o _ g (ends s.part)

too_large_past : (p : Part) (c : Connection) (s : Stream) (size : Option ℕ) (n : ℕ)
    → s.part ≡ p
    → KeepsPast s.part (too_large_by p c s size n).3.part
too_large_past (part.Head m) c s size n e = λ h. absurd (started s.part (ap has_begun e) h)
too_large_past _ c s size n e = stays s.part

-- ---- field sections

section_past : (p : Part) (limit : ℕ) (c : Connection) (s : Stream) (start end : ℕ) (bytes : List ℕ) (o : Outcome)
    → s.part ≡ p
    → SectionBy p limit c s start end bytes o
    → KeepsPast s.part o.3.part
section_past (part.Head m) limit c s start end bytes o e g = λ h. absurd (started s.part (ap has_begun e) h)
section_past (part.Body m) limit c s start end bytes o e g = λ h. absurd (started s.part (ap has_begun e) h)
section_past _ limit c s start end bytes o e g = at s o _ g (stays s.part)

-- ---- calls

goaway_past : (x : Option (ℕ × List ℕ)) (c : Connection) (s : Stream) (end : ℕ) (payload : List ℕ)
    → KeepsPast s.part (in_stream s (goaway_in x c end payload)).3.part
goaway_past None c s end payload = stays s.part
goaway_past (Some x) c s end payload = stays s.part

found_past : (x : Found) (limit : ℕ) (c : Connection) (s : Stream) (bytes : List ℕ) (o : Outcome)
    → FoundGives limit x c s bytes o
    → KeepsPast s.part o.3.part
found_past (found.Opened p n) limit c s bytes o g = at s o _ g (opened_past p c s n)
found_past (found.Settings v start end) limit c s bytes o g = at s o _ g (stays s.part)
found_past (found.Frame kind.Headers start end) limit c s bytes o g =
    section_past s.part limit c s start end bytes o refl g
found_past (found.Frame kind.GoAway start end) limit c s bytes o g =
    at s o _ g (goaway_past (number_at (slice start end bytes)) c s end (slice start end bytes))
found_past (found.Frame _ start end) limit c s bytes o g = at s o _ g (stays s.part)
found_past (found.Data start end) limit c s bytes o g = data_past s.part c s start end bytes o refl g
found_past (found.TooLarge size n) limit c s bytes o g = at s o _ g (too_large_past s.part c s (Some size) n refl)
found_past (found.More n) limit c s bytes o g = at s o _ g (stays s.part)
found_past (found.Fault x) limit c s bytes o g = at s o _ g (fails_on s.part)
found_past found.End limit c s bytes o g = end_past s.part c s (length bytes) o refl g

goes_past : (limit : ℕ) (c : Connection) (s : Stream) (bytes : List ℕ) (fin : Bool) (o : Outcome)
    → GoesOn limit c s bytes fin o
    → KeepsPast s.part o.3.part
goes_past limit c s bytes fin o g =
    found_past g.x limit (with_streams c g.d) (with_frames s g.t) bytes o g.gives

spoiled_due_past : (b : Bool) (limit : ℕ) (c : Connection) (s : Stream) (bytes : List ℕ) (fin : Bool) (o : Outcome)
    → DueGives (spoiled_if b) limit c s bytes fin o
    → KeepsPast s.part o.3.part
spoiled_due_past true limit c s bytes fin o g = at s o _ g (fails_on s.part)
spoiled_due_past false limit c s bytes fin o g = goes_past limit c s bytes fin o g

content_due_past : (b : Bool) (n limit : ℕ) (c : Connection) (s : Stream) (bytes : List ℕ) (fin : Bool) (o : Outcome)
    → DueGives (cond b (due.Content n) due.Nothing) limit c s bytes fin o
    → KeepsPast s.part o.3.part
content_due_past true n limit c s bytes fin o g = content_past (nat_lt (length bytes) n) c s n bytes o g
content_due_past false n limit c s bytes fin o g = goes_past limit c s bytes fin o g

due_past : (p : Part) (empty : Bool) (limit : ℕ) (c : Connection) (s : Stream) (bytes : List ℕ) (fin : Bool) (o : Outcome)
    → DueGives (due_by p empty) limit c s bytes fin o
    → KeepsPast s.part o.3.part
due_past (part.Unanswered session m) empty limit c s bytes fin o g = at s o _ g (stays s.part)
due_past (part.Closed more) empty limit c s bytes fin o g = spoiled_due_past (more || not empty) limit c s bytes fin o g
due_past (part.Session n) empty limit c s bytes fin o g = content_due_past (nat_lt 0 n) n limit c s bytes fin o g
due_past part.Ending empty limit c s bytes fin o g = at s o _ g (ends s.part)
due_past part.Losing empty limit c s bytes fin o g = at s o _ g (ends s.part)
due_past _ empty limit c s bytes fin o g = goes_past limit c s bytes fin o g

unread_past : (b : Bool) (limit : ℕ) (c : Connection) (s : Stream) (size : ℕ) (bytes : List ℕ) (o : Outcome)
    → UnreadBy b limit c s size bytes o
    → KeepsPast s.part o.3.part
unread_past true limit c s size bytes o g = at s o _ g (stays s.part)
unread_past false limit c s size bytes o g =
    section_past s.part limit c (record s { unread = unread.Nothing }) 0 size bytes o refl g

stream_past : (u : Unread) (limit : ℕ) (c : Connection) (s : Stream) (bytes : List ℕ) (fin : Bool) (o : Outcome)
    → StreamGives u limit c s bytes fin o
    → KeepsPast s.part o.3.part
stream_past (unread.Early size why) limit c s bytes fin o g = unread_past (nat_lt (length bytes) size) limit c s size bytes o g
stream_past (unread.Section size) limit c s bytes fin o g = unread_past (nat_lt (length bytes) size) limit c s size bytes o g
stream_past unread.Nothing limit c s bytes fin o g = due_past s.part (length bytes == 0) limit c s bytes fin o g

receives_past : (b : Bool) (limit : ℕ) (c : Connection) (s : Stream) (bytes : List ℕ) (fin : Bool) (o : Outcome)
    → ReceivesIf b limit c s bytes fin o
    → KeepsPast s.part o.3.part
receives_past true limit c s bytes fin o g = at s o _ g (stays s.part)
receives_past false limit c s bytes fin o g = stream_past s.unread limit c s bytes fin o g

pub past_kept : (limit : ℕ) (c : Connection) (s : Stream) (bytes : List ℕ) (fin : Bool) (o : Outcome)
    → Receives limit c s bytes fin o
    → KeepsPast s.part o.3.part
past_kept limit c s bytes fin o g = receives_past c.over limit c s bytes fin o g

-- ---- calls that take no bytes

one_of : (b : Bool) (s : Stream) (x y : Joining)
    → KeepsPast s.part x.2.part
    → KeepsPast s.part y.2.part
    → KeepsPast s.part (cond b x y).2.part
one_of true s x y h k = h
one_of false s x y h k = k

reset_in_past : (k : ErrorScope) (held : Bool) (c : Connection) (s : Stream) (f : StreamsFault)
    → KeepsPast s.part (reset_in k held c s f).2.part
reset_in_past scope.Stream held c s f = ends s.part
reset_in_past _ held c s f = stays s.part

reset_by_past : (x : Joined) (held : Bool) (c : Connection) (s : Stream)
    → KeepsPast s.part (reset_by held c s x).2.part
reset_by_past (d, t, None) held c s = ends s.part
reset_by_past (d, t, Some f) held c s = reset_in_past (streams_scope f) held (with_streams c d) (with_frames s t) f

pub reset_past : (c : Connection) (s : Stream) → KeepsPast s.part (resets c s).2.part
reset_past c s =
    one_of (c.over || is_done s.part s.frames) s _ _ (stays s.part)
    (reset_by_past (resets_frames c.streams s.frames) (is_held s.part) c s)

pub abandon_past : (c : Connection) (s : Stream) → KeepsPast s.part (abandons c s).2.part
abandon_past c s = one_of c.over s _ _ (stays s.part) (ends s.part)

pub stop_past : (c : Connection) (s : Stream) → KeepsPast s.part (stops_half c s).2.part
stop_past c s = one_of (is_held s.part) s _ _ (abandon_past c s) (stays s.part)

joined_past : (x : Joined) (before : Option ℕ) (c : Connection) (s : Stream)
    → KeepsPast s.part (joined_by c s before x).2.part
joined_past (d, t, None) before c s = stays s.part
joined_past (d, t, Some f) before c s = stays s.part

pub join_past : (c : Connection) (s : Stream) (k : Known) → KeepsPast s.part (joins c s k).2.part
join_past c s k =
    one_of c.over s _ _ (stays s.part)
    (joined_past (joins_streams c.streams s.frames k) (joining_of s.frames) c s)

overflowed_past : (x : Joined) (c : Connection) (s : Stream) → KeepsPast s.part (overflowed_by c s x).2.part
overflowed_past (d, t, None) c s = stays s.part
overflowed_past (d, t, Some f) c s = stays s.part

pub overflow_past : (c : Connection) (s : Stream) → KeepsPast s.part (overflows c s).2.part
overflow_past c s =
    one_of c.over s _ _ (stays s.part) (overflowed_past (overflows_frames c.streams s.frames) c s)

pub reject_past : (c : Connection) (s : Stream) (id : ℕ) (goaway : Option ℕ)
    → KeepsPast s.part (rejects c s id goaway).2.part
reject_past c s id goaway =
    one_of (not c.over && (is_request c.endpoint.side s.part && is_beyond goaway id)) s _ _
    (ends s.part) (stays s.part)

answered_past : (p : Part) (s : Stream) (status : ℕ) → s.part ≡ p → KeepsPast s.part (answered_by s p status).part
answered_past (part.Unanswered session m) s status e = λ h. absurd (started s.part (ap has_begun e) h)
answered_past _ s status e = stays s.part

pub answer_past : (s : Stream) (status : ℕ) → KeepsPast s.part (answered s status).part
answer_past s status = answered_past s.part s status refl
