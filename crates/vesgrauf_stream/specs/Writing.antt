-- The own half of one stream: what may be sent on it, and what its queue has after a call (RFC 9114, sections 4.1, 4.4
-- and 7.2.1; draft-ietf-webtrans-http3-02, sections 4 and 5).
use Rattle.std.specs.Prelude.{◌≡◌, ◌⊎◌, ◌==◌, ℕ, ◌+◌, if◌then◌else◌, Bool, true, false, List, [], ◌∷◌, ◌++◌, length, Result, Ok, Err}
use Rattle.wtp_messages.specs.declared.response.Asked.{Asked}
use Rattle.wtp_sending.specs.declared.error.SendError.{SendError}
use Rattle.wtp_sending.specs.declared.error.SendError.TheVariants.{Unexpected, Memory}
use Rattle.wtp_sending.specs.declared.message.Sending.{Sending}
use Rattle.wtp_sending.specs.Message.{data_head, after_data, after_bytes, after_end, opens, placed, of_connect}
use Rattle.wtp_sending.specs.Session.{in_session, uni_head, bi_head, drain_wire, close_data, after_close}
use Rattle.vesgrauf_queue.specs.declared.ending.Ending.{Ending}
use Rattle.vesgrauf_queue.specs.declared.ending.Ending.TheVariants.{Open, Finishing, Finished}
use Rattle.vesgrauf_queue.specs.declared.error.NotQueued.{NotQueued}
use Rattle.vesgrauf_queue.specs.State.{IsWhyNot, is_done as is_queue_done}
use Rattle.vesgrauf_queue.specs.Steps.{Step, Queues, Finishes, Leads}
use Rattle.vesgrauf_stream.specs.declared.error.NotSent.{NotSent}
use Rattle.vesgrauf_stream.specs.declared.error.NotSent.TheVariants.{None, Over, Send}
use Rattle.vesgrauf_stream.specs.Errors.{of_queue, and_then, sending}
use Rattle.vesgrauf_stream.specs.declared.writing.half.Half.{Half}
use Rattle.vesgrauf_stream.specs.declared.writing.half.Half.TheVariants as half
use Rattle.vesgrauf_stream.specs.declared.writing.Writing.{Writing}

-- ---- the half

-- after a request that asks for this, if no message began
abbrev pub asked_half : Asked → Half → Half
asked_half asked half.Idle = half.Asked asked
asked_half asked other = other

-- that of a stream of a session, if no message began
abbrev pub raw_half : Half → Half
raw_half half.Idle = half.Raw
raw_half other = other

-- the tunnel or the session of a CONNECT opens; any other message goes on
abbrev pub opened : Sending → Result Sending SendError → Half
opened s (Ok next) = half.Message next
opened s (Err e) = half.Message s

-- the half after a 2xx response
abbrev pub connected : Half → Half
connected (half.Message s) = opened s (placed s (opens s.place))
connected other = other

-- the same with this half
abbrev pub with_half : Half → Writing → Writing
with_half h w = record w { half = h }

-- there is no half
abbrev pub is_none : Half → Bool
is_none half.None = true
is_none other = false

-- there is none, or no message began
abbrev pub is_idle : Half → Bool
is_idle half.None = true
is_idle half.Idle = true
is_idle other = false

-- it has no messages
abbrev pub is_raw : Half → Bool
is_raw half.Raw = true
is_raw other = false

-- a CONNECT that was sent or accepted, and has no end
abbrev pub is_connect : Half → Bool
is_connect (half.Message s) = of_connect s.place
is_connect other = false

-- it was neither finished nor reset
abbrev pub is_open : Ending → Bool
is_open Open = true
is_open other = false

-- it was finished, and not reset
abbrev pub is_finished : Ending → Bool
is_finished Finishing = true
is_finished Finished = true
is_finished other = false

-- nothing is to be done for it any more
abbrev pub is_done : Writing → Bool
is_done w = if is_none w.half then true else is_queue_done w.queue

-- the half, unless nothing may be sent on it, by this; or it was finished or reset
abbrev pub open_if : Bool → Writing → Result Half NotSent
open_if absent w =
    if absent then Err None else if is_open w.queue.ending then Ok w.half else Err Over

-- the half, if something may be sent on it: there is one, a message began or was asked for, and it was neither finished
-- nor reset
abbrev pub open_half : Writing → Result Half NotSent
open_half w = open_if (is_idle w.half) w

-- the message of a half, or why there is none
abbrev pub message_of : Half → Result Sending NotSent
message_of half.None = Err None
message_of half.Idle = Err None
message_of (half.Asked asked) = Err (Send Unexpected)
message_of (half.Message s) = Ok s
message_of half.Raw = Err (Send Unexpected)

-- the message, if something may be sent
abbrev pub message_at : Writing → Result Sending NotSent
message_at w = and_then message_of (open_half w)

-- ---- the queue

-- the end follows, if this is true
abbrev pub end_if : Bool → List Step
end_if fin = if fin then Finishes ∷ [] else []

-- these bytes are queued, with room after them or not, and then maybe the end
abbrev pub IsQueued : List ℕ → (room fin : Bool) → Writing → Writing → Type 0
IsQueued bytes room fin old new = Leads (Queues bytes room ∷ end_if fin) old.queue new.queue

-- why so many bytes are not queued
abbrev pub IsFull : Writing → ℕ → NotSent → Type 0
IsFull w n e = (why : NotQueued) × (e ≡ of_queue why) × IsWhyNot w.queue n why

-- Why a call that queues so many bytes is refused, if this says what it gives: it may not be made, or else they are not
-- queued.
abbrev pub RefusesBy : {A : Type 0} → Result A NotSent → Writing → ℕ → NotSent → Type 0
RefusesBy (Err r) w n e = e ≡ r
RefusesBy (Ok x) w n e = IsFull w n e

-- the same for a call that allocates memory of its own first
abbrev pub RefusesOrFails : {A : Type 0} → Result A NotSent → Writing → ℕ → NotSent → Type 0
RefusesOrFails (Err r) w n e = e ≡ r
RefusesOrFails (Ok x) w n e = (e ≡ Send Memory) ⊎ IsFull w n e

-- ---- content

-- after the end of the message, if this is true
abbrev pub ends_if : Bool → Sending → Result Sending SendError
ends_if fin s = if fin then after_end s else Ok s

-- after one DATA frame with so many bytes; none if there are no bytes
abbrev pub after_frame : ℕ → Sending → Result Sending SendError
after_frame n s =
    if n == 0 then Ok s else and_then (λ t. after_bytes t n) (after_data s n)

abbrev pub as_message : Sending → Result Half NotSent
as_message s = Ok (half.Message s)

-- after so many bytes of a message, and maybe the end
abbrev pub after_part : ℕ → Bool → Sending → Result Half NotSent
after_part n fin s = and_then as_message (sending (and_then (ends_if fin) (after_frame n s)))

-- the same of a half: any number of bytes on a stream without messages
abbrev pub after_content : ℕ → Bool → Half → Result Half NotSent
after_content n fin h =
    if is_raw h then Ok h else and_then (after_part n fin) (message_of h)

-- the half after so many bytes, and maybe the end, or why they may not be sent
abbrev pub content_at : Writing → ℕ → Bool → Result Half NotSent
content_at w n fin = and_then (after_content n fin) (open_half w)

-- what is queued before so many bytes of a message
abbrev pub part_head : ℕ → List ℕ
part_head n = if n == 0 then [] else data_head n

-- what is queued before so many bytes on a half: nothing on a stream without messages
abbrev pub frame_head : Half → ℕ → List ℕ
frame_head h n = if is_raw h then [] else part_head n

-- how long it is
abbrev pub content_len : Half → ℕ → ℕ
content_len h n = length (frame_head h n) + n

-- Content is queued in one DATA frame, or bytes of a stream without messages as they are, and then maybe the end.
pub record Sends (bytes : List ℕ) (fin room : Bool) (old new : Writing) : Type 0 where
  pub may : content_at old (length bytes) fin ≡ Ok new.half
  pub queued : IsQueued (frame_head old.half (length bytes) ++ bytes) room fin old new

-- why so many bytes, and maybe the end, are not queued
abbrev pub RefusesContent : Writing → ℕ → Bool → NotSent → Type 0
RefusesContent w n fin e = RefusesBy (content_at w n fin) w (content_len w.half n) e

-- nothing but the end is queued
pub record Ends (old new : Writing) : Type 0 where
  pub may : content_at old 0 true ≡ Ok new.half
  pub queued : Leads (Finishes ∷ []) old.queue new.queue

-- bytes may be queued as they are
abbrev pub raw_of : Half → Result (Unit {0}) NotSent
raw_of h = if is_raw h then Ok tt else Err (Send Unexpected)

-- they may, or why not
abbrev pub raw_at : Writing → Result (Unit {0}) NotSent
raw_at w = and_then raw_of (open_half w)

-- bytes are queued as they are
pub record Pushes (bytes : List ℕ) (old new : Writing) : Type 0 where
  pub may : raw_at old ≡ Ok tt
  pub half : new.half ≡ old.half
  pub room : Bool
  pub queued : IsQueued bytes room false old new

-- ---- the session of which this is the own stream

-- the session of a message is open, or why not
abbrev pub session_of : Sending → Result (Unit {0}) NotSent
session_of s = sending (in_session s.place)

-- this is the own stream of an open session, or why not
abbrev pub session_at : Writing → Result (Unit {0}) NotSent
session_at w = and_then session_of (message_at w)

-- the capsule that announces its end is queued
pub record Drains (old new : Writing) : Type 0 where
  pub may : session_at old ≡ Ok tt
  pub half : new.half ≡ old.half
  pub room : Bool
  pub queued : IsQueued drain_wire room false old new

-- after the capsule that closes it, with this reason
abbrev pub close_at : Writing → List ℕ → Result Sending NotSent
close_at w reason = and_then (λ s. sending (after_close s reason)) (message_at w)

-- the capsule and the end are queued
pub record Closes (code : ℕ) (reason : List ℕ) (old new : Writing) : Type 0 where
  pub last : Sending
  pub may : close_at old reason ≡ Ok last
  pub now : new.half ≡ half.Message last
  pub room : Bool
  pub queued : IsQueued (close_data code reason) room true old new

-- the first bytes of something that belongs to the session of this message
abbrev pub head_by : (ℕ → List ℕ) → Result Sending NotSent → List ℕ
head_by f (Err e) = []
head_by f (Ok s) = f s.id

-- those of a stream of a session
abbrev pub stream_head : Bool → ℕ → List ℕ
stream_head bidirectional session = if bidirectional then bi_head session else uni_head session

-- Why a call on its message is refused: there is no message, or wtp_sending refuses it.
abbrev pub RefusesWith : (Sending → SendError → Type 0) → Result Sending NotSent → NotSent → Type 0
RefusesWith F (Err r) e = e ≡ r
RefusesWith F (Ok s) (Send e) = F s e
RefusesWith F (Ok s) other = ⊥
