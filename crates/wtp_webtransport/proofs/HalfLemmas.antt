-- Calls that take no bytes keep the session of a stream, end it or begin it.
use Rattle.std.proofs.Common.{◌≡◌, ℕ, refl, sym, ap, ◌∙◌, cond, not, Bool, ◌&&◌, ◌||◌, true, false, Option, Some, None}
use Rattle.wtp_frames.specs.declared.endpoint.Side.{Side}
use Rattle.wtp_frames.specs.declared.endpoint.Side.TheVariants.{Client, Server}
use Rattle.wtp_connection.specs.declared.connection.Connection.{Connection as Streams}
use Rattle.wtp_core.specs.declared.error.scope.ErrorScope.{ErrorScope}
use Rattle.wtp_core.specs.declared.error.scope.ErrorScope.TheVariants as scope
use Rattle.wtp_connection.specs.declared.connection.Known.{Known}
use Rattle.wtp_connection.specs.declared.fault.Fault.{Fault as StreamsFault}
use Rattle.wtp_connection.specs.declared.stream.Stream.{Stream as Frames}
use Rattle.wtp_connection.specs.declared.stream.Stream.TheVariants as frames
use Rattle.wtp_connection.specs.Fault.{scope_of as streams_scope}
use Rattle.wtp_connection.specs.Streams.{Joined as After, joins as joins_streams, resets as resets_frames, abandons as abandons_frames, overflows as overflows_frames}
use Rattle.wtp_messages.specs.declared.message.Message.{Message}
use Rattle.wtp_messages.specs.Response.{is_success}
use Rattle.wtp_webtransport.specs.declared.fault.Fault.{Fault}
use Rattle.wtp_webtransport.specs.declared.fault.Fault.TheVariants as fault
use Rattle.wtp_webtransport.specs.declared.connection.Connection.{Connection}
use Rattle.wtp_webtransport.specs.declared.stream.Stream.{Stream}
use Rattle.wtp_webtransport.specs.declared.stream.Part.{Part}
use Rattle.wtp_webtransport.specs.declared.stream.Part.TheVariants as part
use Rattle.wtp_webtransport.specs.Events.{Told}
use Rattle.wtp_webtransport.specs.Events as told
use Rattle.wtp_webtransport.specs.Fault.{scope_of}
use Rattle.wtp_webtransport.specs.Streams.{after_end, with_streams, with_frames, with_part, connects, is_held, is_done, answered, answered_by}
use Rattle.wtp_webtransport.specs.Receiving.{closed_by}
use Rattle.wtp_webtransport.specs.Joining.{Outcome, reset_told, reset_in, reset_by, resets, lost_if, abandons, stops_half, joined_told, joined_by, joining_of, joins, overflowed_by, overflows, is_request, is_beyond, rejected_by, rejects}
use Rattle.wtp_webtransport.specs.Endings.{begins_session, ends_session, accepts_session, Keeps, KeepsAfter}
use Rattle.wtp_webtransport.proofs.EndingLemmas.{quiet, over, held_after_end, begins_fault, ends_fault}

-- a session that is held is lost, and nothing else ends
lost_keeps : (p : Part) (held : Bool) (f : Option Fault)
    → is_held p ≡ held
    → Keeps p (reset_told held f) (after_end p)
lost_keeps p true f h = record { held = held_after_end p ∙ over (is_held p); only = λ t. h }
lost_keeps p false f h = quiet p _ (after_end p) refl refl (held_after_end p ∙ sym h)

left_keeps : (p : Part) (held : Bool) → is_held p ≡ held → Keeps p (lost_if held) (after_end p)
left_keeps p true h = record { held = held_after_end p ∙ over (is_held p); only = λ t. h }
left_keeps p false h = quiet p _ (after_end p) refl refl (held_after_end p ∙ sym h)

unchanged : (s : Stream) (c : Connection) → KeepsAfter s (told.More, c, s)
unchanged s c = quiet s.part told.More s.part refl refl refl

fault_keeps : (s : Stream) (t : Frames) (c : Connection) (f : Fault) → Keeps s.part (closed_by c f).1 s.part
fault_keeps s t c f =
    quiet s.part _ s.part (begins_fault c f (scope_of f)) (ends_fault c f (scope_of f)) refl

reset_in_keeps : (k : ErrorScope) (c : Connection) (s : Stream) (t : Frames) (f : StreamsFault)
    → KeepsAfter s (reset_in k (is_held s.part) c (with_frames s t) f)
reset_in_keeps scope.Stream c s t f =
    lost_keeps s.part (is_held s.part) (Some (fault.Streams f)) refl
reset_in_keeps _ c s t f = fault_keeps s t c (fault.Streams f)

reset_by_keeps : (x : After) (c : Connection) (s : Stream) → KeepsAfter s (reset_by (is_held s.part) c s x)
reset_by_keeps (d, t, None) c s = lost_keeps s.part (is_held s.part) None refl
reset_by_keeps (d, t, Some f) c s = reset_in_keeps (streams_scope f) (with_streams c d) s t f

either : (b : Bool) (s : Stream) (x y : Outcome)
    → KeepsAfter s x
    → KeepsAfter s y
    → KeepsAfter s (cond b x y)
either true s x y h k = h
either false s x y h k = k

pub reset_keeps : (c : Connection) (s : Stream) → KeepsAfter s (resets c s)
reset_keeps c s =
    either (c.over || is_done s.part s.frames) s _ _ (unchanged s c) (reset_by_keeps (resets_frames c.streams s.frames) c s)

pub abandon_keeps : (c : Connection) (s : Stream) → KeepsAfter s (abandons c s)
abandon_keeps c s =
    either c.over s _ _ (unchanged s c) (left_keeps s.part (is_held s.part) refl)

pub stop_keeps : (c : Connection) (s : Stream) → KeepsAfter s (stops_half c s)
stop_keeps c s = either (is_held s.part) s _ _ (abandon_keeps c s) (unchanged s c)

-- ---- streams of sessions

join_begins : (before : Option ℕ) (t : Frames) → begins_session (joined_told before t) ≡ false
join_begins (Some id) (frames.Session of) = refl
join_begins (Some id) (frames.Waiting for) = refl
join_begins (Some id) _ = refl
join_begins None _ = refl

join_ends : (before : Option ℕ) (t : Frames) → ends_session (joined_told before t) ≡ false
join_ends (Some id) (frames.Session of) = refl
join_ends (Some id) (frames.Waiting for) = refl
join_ends (Some id) _ = refl
join_ends None _ = refl

joined_keeps : (x : After) (before : Option ℕ) (c : Connection) (s : Stream)
    → KeepsAfter s (joined_by c s before x)
joined_keeps (d, t, None) before c s =
    quiet s.part _ s.part (join_begins before t) (join_ends before t) refl
joined_keeps (d, t, Some f) before c s = fault_keeps s t (with_streams c d) (fault.Streams f)

pub join_keeps : (c : Connection) (s : Stream) (k : Known) → KeepsAfter s (joins c s k)
join_keeps c s k =
    either c.over s _ _ (unchanged s c)
    (joined_keeps (joins_streams c.streams s.frames k) (joining_of s.frames) c s)

overflowed_keeps : (j : After) (c : Connection) (s : Stream) → KeepsAfter s (overflowed_by c s j)
overflowed_keeps (d, t, None) c s = quiet s.part told.More s.part refl refl refl
overflowed_keeps (d, t, Some f) c s = fault_keeps s t (with_streams c d) (fault.Streams f)

pub overflow_keeps : (c : Connection) (s : Stream) → KeepsAfter s (overflows c s)
overflow_keeps c s =
    either c.over s _ _ (unchanged s c)
    (overflowed_keeps (overflows_frames c.streams s.frames) c s)

-- ---- requests that are not processed

request_unheld : (side : Side) (p : Part) → is_request side p ≡ true → is_held p ≡ false
request_unheld Client p e = absurd (cc e)
request_unheld Server (part.Session size) e = absurd (cc e)
request_unheld Server part.Losing e = absurd (cc e)
request_unheld Server other e = refl

guarded : (over request beyond : Bool) (s : Stream) (x y : Outcome)
    → (request ≡ true → KeepsAfter s x)
    → KeepsAfter s y
    → KeepsAfter s (cond (not over && (request && beyond)) x y)
guarded true request beyond s x y h k = k
guarded false false beyond s x y h k = k
guarded false true true s x y h k = h refl
guarded false true false s x y h k = k

rejected_keeps : (s : Stream) (c : Connection) (x : Streams × Frames) → is_held s.part ≡ false → KeepsAfter s (rejected_by c s x)
rejected_keeps s c x h = quiet s.part _ (after_end s.part) refl refl (held_after_end s.part ∙ sym h)

pub reject_keeps : (c : Connection) (s : Stream) (id : ℕ) (goaway : Option ℕ) → KeepsAfter s (rejects c s id goaway)
reject_keeps c s id goaway =
    guarded c.over (is_request c.endpoint.side s.part) (is_beyond goaway id) s _ _
    (λ e. rejected_keeps s c (abandons_frames c.streams s.frames) (request_unheld c.endpoint.side s.part e))
    (unchanged s c)

-- ---- answers

or_false : (b : Bool) → b ≡ (b || false)
or_false true = refl
or_false false = refl

accepted_keeps : (b d session : Bool) (s : Stream) (m : Message)
    → is_held s.part ≡ false
    → is_held (cond b (connects s session) (cond d (with_part s (part.Body m)) s)).part
    ≡ (session && b)
accepted_keeps true d true s m h = refl
accepted_keeps true d false s m h = refl
accepted_keeps false true true s m h = refl
accepted_keeps false true false s m h = refl
accepted_keeps false false true s m h = h
accepted_keeps false false false s m h = h

answer_by : (p : Part) (s : Stream) (status : ℕ)
    → s.part ≡ p
    → is_held (answered_by s p status).part ≡ (is_held p || accepts_session p status)
answer_by (part.Unanswered true m) s status e =
    accepted_keeps (is_success (Some status)) _ true s m (ap is_held e)
answer_by (part.Unanswered false m) s status e =
    accepted_keeps (is_success (Some status)) _ false s m (ap is_held e)
answer_by _ s status e = ap is_held e ∙ or_false _

pub answer_keeps : (s : Stream) (status : ℕ)
    → is_held (answered s status).part ≡ (is_held s.part || accepts_session s.part status)
answer_keeps s status = answer_by s.part s status refl
