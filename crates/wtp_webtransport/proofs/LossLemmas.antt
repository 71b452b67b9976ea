-- Calls that take no bytes: what an error of the connection leaves, what loses a session, and what is
-- known of one.
use Rattle.std.proofs.Common.{◌≡◌, ℕ, refl, subst, sym, ap, ◌∙◌, cond, not, Bool, ◌&&◌, ◌||◌, true, false, List, [], ◌∷◌, length, drop, ◌==◌, ◌<◌, ◌≤◌, Option, Some, None, arith, length-drop}
use Rattle.wtp_frames.specs.declared.endpoint.Side.{Side}
use Rattle.wtp_frames.specs.declared.endpoint.Side.TheVariants.{Client, Server}
use Rattle.wtp_connection.specs.declared.connection.Connection.{Connection as Streams}
use Rattle.wtp_core.specs.declared.error.scope.ErrorScope.{ErrorScope}
use Rattle.wtp_core.specs.declared.error.scope.ErrorScope.TheVariants as scope
use Rattle.wtp_connection.specs.declared.connection.Known.{Known}
use Rattle.wtp_connection.specs.declared.fault.Fault.{Fault as StreamsFault}
use Rattle.wtp_connection.specs.declared.stream.Stream.{Stream as Frames}
use Rattle.wtp_connection.specs.declared.stream.Stream.TheVariants as frames
use Rattle.wtp_connection.specs.declared.connection.Found.{Found}
use Rattle.wtp_connection.specs.declared.connection.Found.TheVariants as found
use Rattle.wtp_connection.specs.Receiving.{Fits}
use Rattle.wtp_connection.specs.First.{found_by, first_found}
use Rattle.wtp_connection.specs.Streams.{StreamRun, all_given, bytes_seen}
use Rattle.wtp_connection.specs.Fault.{scope_of as streams_scope}
use Rattle.wtp_connection.specs.Streams.{Joined as After, joins as joins_streams, resets as resets_frames, abandons as abandons_frames, overflows as overflows_frames}
use Rattle.wtp_webtransport.specs.declared.fault.Fault.{Fault}
use Rattle.wtp_webtransport.specs.declared.fault.Fault.TheVariants as fault
use Rattle.wtp_webtransport.specs.declared.connection.Connection.{Connection}
use Rattle.wtp_webtransport.specs.declared.stream.Stream.{Stream}
use Rattle.wtp_webtransport.specs.declared.stream.Part.{Part}
use Rattle.wtp_webtransport.specs.declared.stream.Part.TheVariants as part
use Rattle.wtp_webtransport.specs.Events.{Told}
use Rattle.wtp_webtransport.specs.Events as told
use Rattle.wtp_webtransport.specs.Fault.{scope_of}
use Rattle.wtp_webtransport.specs.Streams.{with_streams, with_frames, stream_of, due_by, is_held, is_done}
use Rattle.wtp_webtransport.specs.Receiving.{Outcome, Receives, closed_in, StreamGives, ReceivesIf, DueGives, GoesOn, FoundGives, told_more, last}
use Rattle.wtp_webtransport.specs.Joining.{Outcome as Joining, reset_told, reset_in, reset_by, resets, lost_if, abandons, stops_half, joined_told, joined_by, joining_of, joins, overflowed_by, overflows, is_request, is_beyond, rejects}
use Rattle.wtp_connection.specs.declared.connection.Known.TheVariants as known
use Rattle.wtp_messages.specs.declared.message.Message.{Message}
use Rattle.wtp_messages.specs.declared.response.Asked.{Asked}
use Rattle.wtp_messages.specs.declared.response.Asked.TheVariants as asked
use Rattle.wtp_webtransport.specs.Capsules.{Place}
use Rattle.wtp_webtransport.specs.declared.stream.Unread.{Unread}
use Rattle.wtp_webtransport.specs.declared.stream.Due.{Due}
use Rattle.wtp_webtransport.specs.declared.stream.Due.TheVariants as due
use Rattle.wtp_webtransport.specs.declared.stream.Unread.TheVariants as unread
use Rattle.wtp_webtransport.specs.declared.event.Waits.TheVariants as wait
use Rattle.wtp_webtransport.specs.Sessions.{message_at_server, message_at_client, known_at_message, none_at, before_bytes, known_by_frames, known_of_head, known_of_request, known_by_part, known_of}
use Rattle.wtp_webtransport.specs.Endings.{is_error, MarksAfter, IsQuiet, IsLoss, had_session, AreOver, IsDone}
use Rattle.wtp_frames.specs.Reading.{slice}
use Rattle.wtp_webtransport.proofs.FoundLemmas.{slice_length}
use Rattle.wtp_webtransport.proofs.ErrorLemmas.{no, calm, fault_marks}

cut : (b : Bool) (x y : Joining) → b ≡ true → cond b x y ≡ x
cut true x y e = refl
cut false x y e = absurd (cc e)

stopped : (held : Bool) (c : Connection) (s : Stream)
    → abandons c s ≡ (told.More, c, s)
    → cond held (abandons c s) (told.More, c, s) ≡ (told.More, c, s)
stopped true c s e = e
stopped false c s e = refl

unrejected : (over both : Bool) (c : Connection) (s : Stream) (x : Joining)
    → over ≡ true
    → cond (not over && both) x (told.More, c, s) ≡ (told.More, c, s)
unrejected true both c s x e = refl
unrejected false both c s x e = absurd (cc e)

either : (a b : Bool) → a ≡ true → (a || b) ≡ true
either true b e = refl
either false b e = absurd (cc e)

pub quiet : (c : Connection) (s : Stream) → c.over ≡ true → IsQuiet c s
quiet c s e =
    let left : abandons c s ≡ (told.More, c, s) = cut c.over _ _ e in
    record {
      reset = cut (c.over || is_done s.part s.frames) _ _ (either c.over _ e);
      stop = stopped (is_held s.part) c s left;
      abandon = left;
      join = λ k. cut c.over _ _ e;
      overflow = cut c.over _ _ e;
      reject = λ id goaway. unrejected c.over _ c s _ e;
    }

-- ---- calls that take no bytes

both : (b : Bool) (c : Connection) (x y : Joining) → MarksAfter c x → MarksAfter c y → MarksAfter c (cond b x y)
both true c x y h k = h
both false c x y h k = k

reset_calm : (held : Bool) (f : Option Fault) → is_error (reset_told held f) ≡ false
reset_calm true f = refl
reset_calm false f = refl

lost_calm : (held : Bool) → is_error (lost_if held) ≡ false
lost_calm true = refl
lost_calm false = refl

reset_in_marks : (k : ErrorScope) (held : Bool) (c : Connection) (s : Stream) (f : StreamsFault)
    → MarksAfter c (reset_in k held c s f)
reset_in_marks scope.Stream held c s f = calm c c _ (reset_calm held (Some (fault.Streams f))) refl
reset_in_marks _ held c s f = fault_marks c (fault.Streams f) (scope_of (fault.Streams f))

reset_by_marks : (x : After) (held : Bool) (c : Connection) (s : Stream) → MarksAfter c (reset_by held c s x)
reset_by_marks (d, t, None) held c s = calm c (with_streams c d) _ (reset_calm held None) refl
reset_by_marks (d, t, Some f) held c s =
    reset_in_marks (streams_scope f) held (with_streams c d) (with_frames s t) f

pub reset_marks : (c : Connection) (s : Stream) → MarksAfter c (resets c s)
reset_marks c s =
    both (c.over || is_done s.part s.frames) c _ _ (no c.over)
    (reset_by_marks (resets_frames c.streams s.frames) (is_held s.part) c s)

pub abandon_marks : (c : Connection) (s : Stream) → MarksAfter c (abandons c s)
abandon_marks c s =
    both c.over c _ _ (no c.over)
    (calm c (with_streams c (abandons_frames c.streams s.frames).0) _ (lost_calm (is_held s.part)) refl)

pub stop_marks : (c : Connection) (s : Stream) → MarksAfter c (stops_half c s)
stop_marks c s = both (is_held s.part) c _ _ (abandon_marks c s) (no c.over)

join_calm : (before : Option ℕ) (t : Frames) → is_error (joined_told before t) ≡ false
join_calm (Some id) (frames.Session of) = refl
join_calm (Some id) (frames.Waiting for) = refl
join_calm (Some id) _ = refl
join_calm None _ = refl

joined_marks : (x : After) (before : Option ℕ) (c : Connection) (s : Stream) → MarksAfter c (joined_by c s before x)
joined_marks (d, t, None) before c s = calm c (with_streams c d) _ (join_calm before t) refl
joined_marks (d, t, Some f) before c s =
    fault_marks (with_streams c d) (fault.Streams f) (scope_of (fault.Streams f))

pub join_marks : (c : Connection) (s : Stream) (k : Known) → MarksAfter c (joins c s k)
join_marks c s k =
    both c.over c _ _ (no c.over)
    (joined_marks (joins_streams c.streams s.frames k) (joining_of s.frames) c s)

overflowed_marks : (x : After) (c : Connection) (s : Stream) → MarksAfter c (overflowed_by c s x)
overflowed_marks (d, t, None) c s = no c.over
overflowed_marks (d, t, Some f) c s =
    fault_marks (with_streams c d) (fault.Streams f) (scope_of (fault.Streams f))

pub overflow_marks : (c : Connection) (s : Stream) → MarksAfter c (overflows c s)
overflow_marks c s =
    both c.over c _ _ (no c.over) (overflowed_marks (overflows_frames c.streams s.frames) c s)

pub reject_marks : (c : Connection) (s : Stream) (id : ℕ) (goaway : Option ℕ) → MarksAfter c (rejects c s id goaway)
reject_marks c s id goaway =
    both (not c.over && (is_request c.endpoint.side s.part && is_beyond goaway id)) c _ _ (no c.over) (no c.over)

-- ---- sessions that are lost

loss_of_connection : (c : Connection) (f : Fault) (k : ErrorScope) → (k ≡ scope.Stream → ⊥) → IsLoss (closed_in c f k).1
loss_of_connection c f scope.Stream e = absurd (e refl)
loss_of_connection c f scope.Connection e = tt
loss_of_connection c f scope.Either e = tt

loss_in : (k : ErrorScope) (c : Connection) (s : Stream) (f : StreamsFault)
    → streams_scope f ≡ k
    → IsLoss (reset_in k true c s f).0
loss_in scope.Stream c s f e = tt
loss_in scope.Connection c s f e =
    loss_of_connection c (fault.Streams f) (streams_scope f) (λ x. cc (sym e ∙ x))
loss_in scope.Either c s f e =
    loss_of_connection c (fault.Streams f) (streams_scope f) (λ x. cc (sym e ∙ x))

loss_by : (x : After) (c : Connection) (s : Stream) → IsLoss (reset_by true c s x).0
loss_by (d, t, None) c s = tt
loss_by (d, t, Some f) c s = loss_in (streams_scope f) (with_streams c d) (with_frames s t) f refl

undone : (p : Part) (t : Frames) → is_held p ≡ true → is_done p t ≡ false
undone (part.Session n) t e = refl
undone part.Losing t e = refl
undone _ t e = absurd (cc e)

neither : (a b : Bool) → a ≡ false → b ≡ false → (a || b) ≡ false
neither false b e f = f
neither true b e f = absurd (cc e)

loss_if : (b : Bool) (x y : Joining) → b ≡ false → IsLoss y.0 → IsLoss (cond b x y).0
loss_if false x y e h = h
loss_if true x y e h = absurd (cc e)

loss_held : (held : Bool) (c : Connection) (s : Stream) (x : After) → held ≡ true → IsLoss (reset_by held c s x).0
loss_held true c s x e = loss_by x c s
loss_held false c s x e = absurd (cc e)

pub reset_loses : (c : Connection) (s : Stream) → c.over ≡ false → is_held s.part ≡ true → IsLoss (resets c s).0
reset_loses c s e h =
    loss_if (c.over || is_done s.part s.frames) _ _ (neither c.over _ e (undone s.part s.frames h))
    (loss_held (is_held s.part) c s (resets_frames c.streams s.frames) h)

lost : (held : Bool) → held ≡ true → IsLoss (lost_if held)
lost true e = tt
lost false e = absurd (cc e)

pub abandon_loses : (c : Connection) (s : Stream) → c.over ≡ false → is_held s.part ≡ true → IsLoss (abandons c s).0
abandon_loses c s e h = loss_if c.over _ _ e (lost (is_held s.part) h)

held_stop : (held : Bool) (x y : Joining) → held ≡ true → IsLoss x.0 → IsLoss (cond held x y).0
held_stop true x y e h = h
held_stop false x y e h = absurd (cc e)

pub stop_loses : (c : Connection) (s : Stream) → c.over ≡ false → is_held s.part ≡ true → IsLoss (stops_half c s).0
stop_loses c s e h = held_stop (is_held s.part) _ _ h (abandon_loses c s e h)

-- ---- what is known of sessions

message_unover : (x : Option Place) → message_at_server x ≡ known.Over → ⊥
message_unover None e = cc e
message_unover (Some p) e = cc e

asked_unover : (a : Option Asked) → message_at_client a ≡ known.Over → ⊥
asked_unover None e = cc e
asked_unover (Some asked.Session) e = cc e
asked_unover (Some _) e = cc e

at_message_unover : (side : Side) (s : Stream) → known_at_message side s ≡ known.Over → ⊥
at_message_unover Server s e = message_unover s.capsules e
at_message_unover Client s e = asked_unover s.asked e

none_unover : (side : Side) (a : Option Asked) → none_at side a ≡ known.Over → ⊥
none_unover Server a e = cc e
none_unover Client (Some asked.Session) e = cc e
none_unover Client _ e = cc e

before_unover : (side : Side) (a : Option Asked) → before_bytes side a ≡ known.Over → ⊥
before_unover Server a e = cc e
before_unover Client a e = none_unover Client a e

frames_unover : (t : Frames) (side : Side) (a : Option Asked) → known_by_frames t side a ≡ known.Over → ⊥
frames_unover frames.Bi side a e = before_unover side a e
frames_unover _ side a e = none_unover side a e

head_unover : (side : Side) (a : Option Asked) → known_of_head side a ≡ known.Over → ⊥
head_unover Server a e = cc e
head_unover Client (Some asked.Session) e = cc e
head_unover Client None e = asked_unover None e
head_unover Client (Some asked.Head) e = asked_unover (Some asked.Head) e
head_unover Client (Some asked.Connect) e = asked_unover (Some asked.Connect) e
head_unover Client (Some asked.Other) e = asked_unover (Some asked.Other) e

request_unover : (session : Bool) (c : Connection) (s : Stream) → known_of_request session c s ≡ known.Over → ⊥
request_unover true c s e = cc e
request_unover false c s e = at_message_unover c.endpoint.side s e

part_over : (p : Part) (c : Connection) (s : Stream) → known_by_part p c s ≡ known.Over → had_session p ≡ true
part_over (part.Session size) c s e = absurd (cc e)
part_over (part.Closed more) c s e = refl
part_over part.Ending c s e = refl
part_over part.Losing c s e = refl
part_over part.Past c s e = refl
part_over (part.Unanswered session m) c s e = absurd (request_unover session c s e)
part_over (part.Head m) c s e = absurd (head_unover c.endpoint.side s.asked e)
part_over part.OfSession c s e = absurd (cc e)
part_over part.NoMessage c s e = absurd (frames_unover s.frames c.endpoint.side s.asked e)
part_over _ c s e = absurd (at_message_unover c.endpoint.side s e)

pub known_over : (c : Connection) (s : Stream) → known_of c s ≡ known.Over → had_session s.part ≡ true
known_over c s e = part_over s.part c s e

past_known : (p : Part) (c : Connection) (s : Stream) → had_session p ≡ true → known_by_part p c s ≡ known.Over
past_known (part.Closed more) c s e = refl
past_known part.Ending c s e = refl
past_known part.Losing c s e = refl
past_known part.Past c s e = refl
past_known _ c s e = absurd (cc e)

pub over_known : (c : Connection) (s : Stream) → had_session s.part ≡ true → known_of c s ≡ known.Over
over_known c s e = past_known s.part c s e

pub asked_known : (c : Connection) (s : Stream) (m : Message) → s.part ≡ part.Unanswered true m → known_of c s ≡ known.Coming
asked_known c s m e = ap (λ (p : Part). known_by_part p c s) e

pub head_known : (c : Connection) (s : Stream) (m : Message)
    → c.endpoint.side ≡ Server
    → s.part ≡ part.Head m
    → known_of c s ≡ known.Coming
head_known c s m v e =
    ap (λ (p : Part). known_by_part p c s) e ∙ ap (λ (x : Side). known_of_head x s.asked) v

pub new_known : (c : Connection) → c.endpoint.side ≡ Server → known_of c (stream_of frames.Bi) ≡ known.Coming
new_known c v = ap (λ (x : Side). before_bytes x None) v

-- ---- streams that wait

pub answer_waits : (limit : ℕ) (c : Connection) (s : Stream) (m : Message) (session : Bool) (bytes : List ℕ) (fin : Bool) (o : Outcome)
    → c.over ≡ false
    → s.unread ≡ unread.Nothing
    → s.part ≡ part.Unanswered session m
    → Receives limit c s bytes fin o
    → o ≡ (0, told.Waits wait.Answer, c, s)
answer_waits limit c s m session bytes fin o e u p g =
    subst (λ (x : Part). DueGives (due_by x (length bytes == 0)) limit c s bytes fin o) p
    (subst (λ (x : Unread). StreamGives x limit c s bytes fin o) u
    (subst (λ (b : Bool). ReceivesIf b limit c s bytes fin o) e g))

-- ---- streams that are over

nothing_first : (t : Frames) (d : Streams) (bytes : List ℕ) (fin over : Bool)
    → AreOver t
    → d.over ≡ over
    → first_found fin d t bytes ≡ all_given d t []
nothing_first frames.Over d bytes true true e o = rw o refl
nothing_first frames.Over d bytes true false e o = rw o refl
nothing_first frames.Over d bytes false true e o = rw o refl
nothing_first frames.Over d bytes false false e o = rw o refl
nothing_first frames.Incomplete d bytes true true e o = rw o refl
nothing_first frames.Incomplete d bytes true false e o = rw o refl
nothing_first frames.Incomplete d bytes false true e o = rw o refl
nothing_first frames.Incomplete d bytes false false e o = rw o refl
nothing_first _ d bytes fin over e o = absurd e

done_more : (t : Frames) → AreOver t → told_more t ≡ told.More
done_more frames.Over e = refl
done_more frames.Incomplete e = refl
done_more _ e = absurd e

all_taken : (n : ℕ) (bytes : List ℕ) → n ≤ length bytes → drop n bytes ≡ [] → n ≡ length bytes
all_taken n bytes w e = omega (arith, w, sym (length-drop n bytes) ∙ ap length e)

some_seen : (p : List ℕ) → 0 < length p → bytes_seen p ≡ [] → ⊥
some_seen [] l e = omega (arith, l)
some_seen (b ∷ p) l e = cc e

no_piece : (start end : ℕ) (bytes : List ℕ)
    → (start < end) × (end ≤ length bytes)
    → bytes_seen (slice start end bytes) ≡ []
    → ⊥
no_piece start end bytes w e =
    some_seen (slice start end bytes)
    (omega (arith, w.0, slice_length start end bytes (omega (arith, w.0)) w.1)) e

done_by : (x : Found) (limit : ℕ) (c : Connection) (s : Stream) (d : Streams) (t : Frames) (bytes : List ℕ) (o : Outcome)
    → AreOver s.frames
    → Fits x bytes d t
    → found_by x bytes d t ≡ all_given c.streams s.frames []
    → FoundGives limit x (with_streams c d) (with_frames s t) bytes o
    → o ≡ (length bytes, told.More, c, s)
done_by (found.More n) limit c s d t bytes o v w e g =
    let left : drop n bytes ≡ [] = ap (λ (r : StreamRun). r.left) e in
    let streams : d ≡ c.streams = ap (λ (r : StreamRun). r.connection) e in
    let same : t ≡ s.frames = ap (λ (r : StreamRun). r.stream) e in
    let all : n ≡ length bytes = all_taken n bytes w.0 left in
    let more : told_more t ≡ told.More = ap told_more same ∙ done_more s.frames v in
    g
    ∙ ap (λ (k : ℕ). (k, told_more t, with_streams c d, with_frames s t)) all
    ∙ ap (λ (k : Told). (length bytes, k, with_streams c d, with_frames s t)) more
    ∙ ap (λ (k : Streams). (length bytes, told.More, with_streams c k, with_frames s t)) streams
    ∙ ap (λ (k : Frames). (length bytes, told.More, c, with_frames s k)) same
done_by (found.Data start end) limit c s d t bytes o v w e g =
    absurd (no_piece start end bytes w (ap (λ (r : StreamRun). r.seen) e))
done_by (found.Opened p n) limit c s d t bytes o v w e g = cc (ap (λ (r : StreamRun). r.seen) e)
done_by (found.Settings q start end) limit c s d t bytes o v w e g = cc (ap (λ (r : StreamRun). r.seen) e)
done_by (found.Frame k start end) limit c s d t bytes o v w e g = cc (ap (λ (r : StreamRun). r.seen) e)
done_by (found.TooLarge size n) limit c s d t bytes o v w e g = cc (ap (λ (r : StreamRun). r.seen) e)
done_by (found.Fault f) limit c s d t bytes o v w e g = cc (ap (λ (r : StreamRun). r.seen) e)
done_by found.End limit c s d t bytes o v w e g = cc (ap (λ (r : StreamRun). r.seen) e)

done_due : (p : Part) (empty : Bool) → IsDone p → due_by p empty ≡ due.Nothing
done_due part.NoMessage empty e = refl
done_due part.OfSession empty e = refl
done_due part.Past empty e = refl
done_due _ empty e = absurd e

done_if : (over : Bool) (limit : ℕ) (c : Connection) (s : Stream) (bytes : List ℕ) (fin : Bool) (o : Outcome)
    → AreOver s.frames
    → IsDone s.part
    → s.unread ≡ unread.Nothing
    → ReceivesIf over limit c s bytes fin o
    → o ≡ (length bytes, told.More, c, s)
done_if true limit c s bytes fin o v d u g = g
done_if false limit c s bytes fin o v d u g =
    let goes : GoesOn limit c s bytes fin o =
    subst (λ (x : Due). DueGives x limit c s bytes fin o) (done_due s.part (length bytes == 0) d)
    (subst (λ (x : Unread). StreamGives x limit c s bytes fin o) u g) in
    done_by goes.x limit c s goes.d goes.t bytes o v goes.found.fits
    (goes.first ∙ nothing_first s.frames c.streams bytes fin c.streams.over v refl) goes.gives

pub done_rests : (limit : ℕ) (c : Connection) (s : Stream) (bytes : List ℕ) (fin : Bool) (o : Outcome)
    → AreOver s.frames
    → IsDone s.part
    → s.unread ≡ unread.Nothing
    → Receives limit c s bytes fin o
    → o ≡ (length bytes, told.More, c, s)
done_rests limit c s bytes fin o v d u g = done_if c.over limit c s bytes fin o v d u g

pub losing_loses : (limit : ℕ) (c : Connection) (s : Stream) (bytes : List ℕ) (fin : Bool) (o : Outcome)
    → c.over ≡ false
    → s.unread ≡ unread.Nothing
    → s.part ≡ part.Losing
    → Receives limit c s bytes fin o
    → o ≡ last c s told.SessionLost (length bytes)
losing_loses limit c s bytes fin o e u p g =
    subst (λ (x : Part). DueGives (due_by x (length bytes == 0)) limit c s bytes fin o) p
    (subst (λ (x : Unread). StreamGives x limit c s bytes fin o) u
    (subst (λ (b : Bool). ReceivesIf b limit c s bytes fin o) e g))
