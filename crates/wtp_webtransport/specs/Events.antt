-- Events, with the bytes that they refer to.
use Rattle.std.specs.Prelude.{ℕ, List, Option}
use Rattle.wtp_qpack.specs.Field.{Field}
use Rattle.wtp_frames.specs.declared.frame_type.FrameType.{FrameType}
use Rattle.wtp_connection.specs.declared.settings.PeerSettings.{PeerSettings}
use Rattle.wtp_connection.specs.declared.stream.Purpose.{Purpose}
use Rattle.wtp_messages.specs.declared.malformed.Malformed.{Malformed as Rule}
use Rattle.wtp_webtransport.specs.declared.fault.Fault.{Fault}
use Rattle.wtp_webtransport.specs.declared.event.HeadersKind.{HeadersKind}
use Rattle.wtp_webtransport.specs.declared.event.Waits.{Waits as Wait}
use Rattle.wtp_webtransport.specs.declared.event.Event.{Event}
use Rattle.wtp_webtransport.specs.declared.event.Event.TheVariants as event

-- what an event says; bytes are those that it refers to, a field section is its fields, and a close of
-- a session is its code and its reason
pub data Told : Type 0 where
  Opened : Purpose → Told
  Joins : ℕ → Told
  Joined : ℕ → Told
  Settings : PeerSettings → List ℕ → Told
  Inserted : ℕ → Told
  GoAway : ℕ → Told
  Frame : FrameType → List ℕ → Told
  Headers : HeadersKind → List Field → Told
  SessionRequested : List Field → Told
  SessionReady : ℕ → List Field → Told
  Rejected : ℕ → List Field → Told
  SessionClosed : ℕ × List ℕ → Told
  SessionLost : Told
  Datagram : List ℕ → Told
  Draining : Told
  Skipped : Told
  Data : List ℕ → Told
  StreamData : List ℕ → Told
  TooLarge : Option ℕ → Told
  Malformed : Rule → Told
  StreamError : Fault → Told
  ConnectionError : Fault → Told
  Reset : Option Fault → Told
  End : Told
  NoMemory : Told
  Waits : Wait → Told
  More : Told

abbrev pub told_of : Event → Told
told_of (event.Opened p) = Opened p
told_of (event.Joins id) = Joins id
told_of (event.Joined id) = Joined id
told_of (event.Settings v payload) = Settings v payload.now
told_of (event.Inserted count) = Inserted count
told_of (event.GoAway id) = GoAway id
told_of (event.Frame k payload) = Frame k payload.now
told_of (event.Headers k fields) = Headers k fields
told_of (event.SessionRequested fields) = SessionRequested fields
told_of (event.SessionReady status fields) = SessionReady status fields
told_of (event.Rejected status fields) = Rejected status fields
told_of (event.SessionClosed close) = SessionClosed close
told_of event.SessionLost = SessionLost
told_of (event.Datagram payload) = Datagram payload.items
told_of event.Draining = Draining
told_of event.Skipped = Skipped
told_of (event.Data piece) = Data piece.now
told_of (event.StreamData piece) = StreamData piece.now
told_of (event.TooLarge size) = TooLarge size
told_of (event.Malformed rule) = Malformed rule
told_of (event.StreamError f) = StreamError f
told_of (event.ConnectionError f) = ConnectionError f
told_of (event.Reset f) = Reset f
told_of event.End = End
told_of event.NoMemory = NoMemory
told_of (event.Waits w) = Waits w
told_of event.More = More
