-- What the own stream of an open session says of it, from all bytes of the stream, however they are cut
-- into calls (RFC 9297, sections 3.2 and 3.3; draft-ietf-webtrans-http3-02, section 5;
-- draft-ietf-webtrans-http3-07, section 4.6).
use Rattle.std.specs.Prelude.{◌≡◌, ◌⊎◌, ◌≤◌, ℕ, if◌then◌else◌, Bool, true, false, List, [], ◌∷◌, ◌++◌, length, take, drop, Option, Some, None}
use Rattle.wtp_core.specs.declared.error.scope.ErrorScope.{ErrorScope}
use Rattle.wtp_core.specs.declared.error.scope.ErrorScope.TheVariants as scope
use Rattle.wtp_frames.specs.Item.{Byte}
use Rattle.wtp_wire.specs.CloseSession.{close_in}
use Rattle.wtp_connection.specs.declared.connection.Connection.{Connection as Streams}
use Rattle.wtp_connection.specs.declared.stream.Stream.{Stream as Frames}
use Rattle.wtp_connection.specs.Streams.{Seen, Gave, Broke, Ended, StreamRun, run_stream, ended as ended_run}
use Rattle.wtp_webtransport.specs.declared.capsules.CapsuleType.{CapsuleType}
use Rattle.wtp_webtransport.specs.declared.capsules.CapsuleType.TheVariants as capsule
use Rattle.wtp_webtransport.specs.declared.connection.Connection.{Connection}
use Rattle.wtp_webtransport.specs.declared.fault.Fault.{Fault}
use Rattle.wtp_webtransport.specs.declared.fault.Fault.TheVariants as fault
use Rattle.wtp_webtransport.specs.declared.stream.Part.{Part}
use Rattle.wtp_webtransport.specs.declared.stream.Part.TheVariants as part
use Rattle.wtp_webtransport.specs.declared.stream.Stream.{Stream}
use Rattle.wtp_webtransport.specs.declared.stream.Unread.TheVariants as unread
use Rattle.wtp_webtransport.specs.Capsules.{Place, Head, IsWithin}
use Rattle.wtp_webtransport.specs.Cuts.{Run, run}
use Rattle.wtp_webtransport.specs.Fault.{scope_of}
use Rattle.wtp_webtransport.specs.Events.{Told, SessionClosed, Datagram, Draining, StreamError, ConnectionError}
use Rattle.wtp_webtransport.specs.Receiving.{Outcome, Receives}
use Rattle.wtp_webtransport.specs.Calls.{IsSession, Stops, course_of}

-- ---- events

-- those that say something of the session
abbrev pub of_session : Told → List Told
of_session (SessionClosed close) = SessionClosed close ∷ []
of_session (Datagram payload) = Datagram payload ∷ []
of_session Draining = Draining ∷ []
of_session (StreamError f) = StreamError f ∷ []
of_session (ConnectionError f) = ConnectionError f ∷ []
of_session other = []

abbrev pub error_told : ErrorScope → Fault → Told
error_told scope.Stream f = StreamError f
error_told other f = ConnectionError f

-- ---- the content, and what ends it

-- its bytes, which are those of all DATA frames, joined (RFC 9114, section 4.4)
abbrev pub content_in : List Seen → List ℕ
content_in [] = []
content_in (Gave (Byte b) ∷ seen) = b ∷ content_in seen
content_in (Broke f ∷ seen) = []
content_in (Ended ∷ seen) = []
content_in (other ∷ seen) = content_in seen

-- an error of the frames, or the end of the stream
abbrev pub ending_in : List Seen → Option Seen
ending_in [] = None
ending_in (Broke f ∷ seen) = Some (Broke f)
ending_in (Ended ∷ seen) = Some Ended
ending_in (other ∷ seen) = ending_in seen

-- ---- what they say

-- The end, at this place of the capsules: between two of them it closes the session, with the code 0 and
-- no reason.
abbrev pub ending_told : Option Seen → Place → List Told
ending_told (Some (Broke f)) p = error_told (scope_of (fault.Streams f)) (fault.Streams f) ∷ []
ending_told (Some Ended) (Head []) = SessionClosed (0, []) ∷ []
ending_told (Some Ended) p = StreamError fault.Capsule ∷ []
ending_told other p = []

-- a capsule that is malformed is an error
abbrev pub place_told : Option Seen → Option Place → List Told
place_told end None = StreamError fault.Capsule ∷ []
place_told end (Some p) = ending_told end p

-- the value of a capsule that closes the session
abbrev pub close_told : Option (ℕ × List ℕ) → Told
close_told None = StreamError fault.Capsule
close_told (Some close) = SessionClosed close

-- capsules up to the one that closes the session, and then the end
abbrev pub capsules_told : List (CapsuleType × List ℕ) → List Told → List Told
capsules_told [] end = end
capsules_told ((capsule.Close, value) ∷ more) end = close_told (close_in value) ∷ []
capsules_told ((capsule.Datagram, value) ∷ more) end = Datagram value ∷ capsules_told more end
capsules_told ((capsule.Drain, value) ∷ more) end = Draining ∷ capsules_told more end

-- ---- all that the rest of the stream says

-- the events, and how far it goes: the place of the capsules, the frames, and the bytes left
pub record Said : Type 0 where
  pub told : List Told
  pub place : Option Place
  pub streams : Streams
  pub frames : Frames
  pub left : List ℕ

abbrev pub said_by : Run → StreamRun → Said
said_by x w = record {
  told = capsules_told x.capsules (place_told (ending_in w.seen) x.place);
  place = x.place;
  streams = w.connection;
  frames = w.stream;
  left = w.left;
}

-- from this place, by content that is not read yet and the run of the bytes after it
abbrev pub said_from : Option Place → List ℕ → StreamRun → Said
said_from None content w = said_by (record { capsules = []; place = None }) w
said_from (Some p) content w = said_by (run p (content ++ content_in w.seen)) w

-- the run of these bytes, after which the stream ends or not
abbrev pub run_to : Bool → Streams → Frames → List ℕ → StreamRun
run_to end c s bytes = if end then ended_run (run_stream c s bytes) else run_stream c s bytes

-- all that is said of these bytes, of which so many at the start are content
abbrev pub said : Bool → ℕ → Connection → Stream → List ℕ → Said
said end size c s bytes =
    said_from s.capsules (take size bytes) (run_to end c.streams s.frames (drop size bytes))

abbrev pub preceded : List Told → Said → Said
preceded told x = record {
  told = told ++ x.told;
  place = x.place;
  streams = x.streams;
  frames = x.frames;
  left = x.left;
}

-- ---- calls

-- the own stream of an open session, where the bytes of content that are not read yet came
pub record IsOpen (c : Connection) (s : Stream) (bytes : List ℕ) : Type 0 where
  pub intact : c.over ≡ false
  pub read : s.unread ≡ unread.Nothing
  pub size : ℕ
  pub part : s.part ≡ part.Session size
  pub came : size ≤ length bytes
  pub place : Place
  pub capsules : s.capsules ≡ Some place
  pub within : IsWithin place

-- After this outcome the session is open: what is said of all bytes is what was told, and then what is
-- said of those that are left. Or it is not: what is said is what was told.
abbrev pub SaysBy : Part → Bool → List ℕ → List Told → Outcome → Said → Type 0
SaysBy (part.Session size) end bytes told o all =
    all ≡ preceded told (said end size o.2 o.3 bytes)
SaysBy other end bytes told o all = all.told ≡ told

abbrev pub Says : Bool → List ℕ → List Told → Outcome → Said → Type 0
Says end bytes told o all = SaysBy o.3.part end bytes told o all

-- nothing follows the end of the stream
abbrev pub Follow : Bool → List ℕ → Bool → Type 0
Follow true more end = (more ≡ []) × (end ≡ true)
Follow false more end = Unit {0}

-- Calls one after the other, as long as the session is open. The last one needs more bytes, or the
-- session is over after it.
abbrev pub SessionReads : ℕ → List Outcome → Outcome → Connection → Stream → List ℕ → Bool → Type 0
SessionReads limit [] z c s bytes fin =
    Receives limit c s bytes fin z × ((course_of z.1 ≡ Stops) ⊎ (IsSession z.3.part → ⊥))
SessionReads limit (o ∷ os) z c s bytes fin =
    Receives limit c s bytes fin o
    × IsSession o.3.part
    × SessionReads limit os z o.2 o.3 (drop o.0 bytes) fin

-- what they say of the session
abbrev pub session_told : List Outcome → Outcome → List Told
session_told [] z = of_session z.1
session_told (o ∷ os) z = of_session o.1 ++ session_told os z

-- two outcomes with a session that is equally far, where these bytes are left
pub record AreAlike (w y : Outcome) (left rest : List ℕ) : Type 0 where
  pub part : w.3.part ≡ y.3.part
  pub capsules : w.3.capsules ≡ y.3.capsules
  pub frames : w.3.frames ≡ y.3.frames
  pub streams : w.2.streams ≡ y.2.streams
  pub bytes : left ≡ rest
