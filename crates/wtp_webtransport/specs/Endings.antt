-- How a session begins and ends for the application (draft-ietf-webtrans-http3-02, section 5), and
-- what an error of the connection leaves (RFC 9114, section 8).
use Rattle.std.specs.Prelude.{◌≡◌, ℕ, ◌&&◌, ◌||◌, not, Bool, true, false, Option, Some}
use Rattle.wtp_messages.specs.Response.{is_success}
use Rattle.wtp_webtransport.specs.declared.stream.Part.{Part}
use Rattle.wtp_webtransport.specs.declared.stream.Part.TheVariants as part
use Rattle.wtp_webtransport.specs.declared.stream.Stream.{Stream}
use Rattle.wtp_webtransport.specs.Events.{Told, SessionReady, SessionClosed, SessionLost, ConnectionError, More}
use Rattle.wtp_webtransport.specs.declared.connection.Connection.{Connection}
use Rattle.wtp_webtransport.specs.Streams.{is_held}
use Rattle.wtp_webtransport.specs.Receiving.{Outcome}
use Rattle.wtp_connection.specs.declared.connection.Known.{Known}
use Rattle.wtp_connection.specs.declared.stream.Stream.{Stream as Frames}
use Rattle.wtp_connection.specs.declared.stream.Stream.TheVariants as frames
use Rattle.wtp_webtransport.specs.Joining.{Outcome as Joining, resets, stops_half, abandons, joins, overflows, rejects}

-- the event says that a session is open now
abbrev pub begins_session : Told → Bool
begins_session (SessionReady status fields) = true
begins_session _ = false

-- the event says that a session is over now
abbrev pub ends_session : Told → Bool
ends_session (SessionClosed close) = true
ends_session SessionLost = true
ends_session _ = false

-- After an event a session is held exactly if it was held or begins, and does not end. Only one that
-- is held ends.
pub record Keeps (p : Part) (told : Told) (q : Part) : Type 0 where
  pub held : is_held q ≡ ((is_held p || begins_session told) && not (ends_session told))
  pub only : ends_session told ≡ true → is_held p ≡ true

-- a request for a session that waits for its answer, and is accepted by one with this status
abbrev pub accepts_session : Part → ℕ → Bool
accepts_session (part.Unanswered true m) status = is_success (Some status)
accepts_session _ status = false

abbrev pub KeepsSession : Stream → Outcome → Type 0
KeepsSession s o = Keeps s.part o.1 o.3.part

-- the same of a call that takes no bytes
abbrev pub KeepsAfter : Stream → Joining → Type 0
KeepsAfter s o = Keeps s.part o.0 o.2.part

-- ---- errors of the connection

abbrev pub is_error : Told → Bool
is_error (ConnectionError f) = true
is_error _ = false

-- the connection is over after a call exactly if it was before, or if the call returned its error
abbrev pub Marks : Connection → Outcome → Type 0
Marks c o = o.2.over ≡ (c.over || is_error o.1)

-- the same of a call that takes no bytes
abbrev pub MarksAfter : Connection → Joining → Type 0
MarksAfter c o = o.1.over ≡ (c.over || is_error o.0)

-- no call of this stream returns anything, or changes anything
pub record IsQuiet (c : Connection) (s : Stream) : Type 0 where
  pub reset : resets c s ≡ (More, c, s)
  pub stop : stops_half c s ≡ (More, c, s)
  pub abandon : abandons c s ≡ (More, c, s)
  pub join : (k : Known) → joins c s k ≡ (More, c, s)
  pub overflow : overflows c s ≡ (More, c, s)
  pub reject : (id : ℕ) (goaway : Option ℕ) → rejects c s id goaway ≡ (More, c, s)

-- the call says that a session is lost, or that the connection is; never that it was closed
abbrev pub IsLoss : Told → Type 0
IsLoss SessionLost = Unit {0}
IsLoss (ConnectionError f) = Unit {0}
IsLoss _ = ⊥

-- ---- what is known of sessions

-- the stream has had a session
abbrev pub had_session : Part → Bool
had_session (part.Closed more) = true
had_session part.Ending = true
had_session part.Losing = true
had_session part.Past = true
had_session _ = false

-- it has or had one
abbrev pub has_begun : Part → Bool
has_begun (part.Session size) = true
has_begun p = had_session p

-- one that has or had a session before a call has or had one after it
abbrev pub KeepsPast : Part → Part → Type 0
KeepsPast p q = has_begun p ≡ true → has_begun q ≡ true

-- ---- streams that are over

-- the frames of the stream are over
abbrev pub AreOver : Frames → Type 0
AreOver frames.Over = Unit {0}
AreOver frames.Incomplete = Unit {0}
AreOver _ = ⊥

-- nothing of the stream is still to be given
abbrev pub IsDone : Part → Type 0
IsDone part.NoMessage = Unit {0}
IsDone part.OfSession = Unit {0}
IsDone part.Past = Unit {0}
IsDone _ = ⊥
