-- What a call of the receiving end returns on bytes that the other end sent.
use Rattle.std.specs.Prelude.{◌≡◌, ℕ, ◌<◌, Bool, true, false, List, ◌++◌, length, Option}
use Rattle.wtp_frames.specs.declared.endpoint.Endpoint.{Endpoint}
use Rattle.wtp_connection.specs.declared.settings.PeerSettings.{PeerSettings}
use Rattle.wtp_connection.specs.declared.stream.Stream.TheVariants as frames
use Rattle.wtp_connection.specs.Streams.{configured}
use Rattle.wtp_webtransport.specs.declared.connection.Connection.{Connection}
use Rattle.wtp_webtransport.specs.declared.stream.Stream.{Stream}
use Rattle.wtp_webtransport.specs.Events.{Told, More}
use Rattle.wtp_webtransport.specs.Receiving.{Outcome, Receives}
use Rattle.wtp_webtransport.specs.Streams.{stream_of, with_streams, with_session_id}
use Rattle.wtp_sending.specs.Control.{IsControlAt}

-- the connection goes on: no error ended it
pub record IsGoing (c : Connection) : Type 0 where
  pub events : c.over ≡ false
  pub streams : c.streams.over ≡ false

-- A call of the receiver on the bytes that were sent, whatever follows them, returns this event, consumes
-- exactly them, and leads to these states. On the first of them alone it consumes nothing, returns More, and
-- changes nothing.
pub record IsReadAs (limit : ℕ) (c : Connection) (s : Stream) (sent : List ℕ) (told : Told)
    (d : Connection) (t : Stream) : Type 0 where
  pub whole :
      (more : List ℕ) (fin : Bool) (o : Outcome)
      → Receives limit c s (sent ++ more) fin o → o ≡ (length sent, told, d, t)
  pub part :
      (a b : List ℕ) (o : Outcome)
      → a ++ b ≡ sent → 0 < length b
      → Receives limit c s a false o → o ≡ (0, More, c, s)

-- ---- streams of sessions

-- a stream of this session that is not joined with it yet
abbrev pub joining_stream : ℕ → Stream
joining_stream id = with_session_id (stream_of (frames.Joining id))

-- ---- control streams

-- after SETTINGS with these values
abbrev pub after_values : Connection → PeerSettings → Connection
after_values c v = record (with_streams c (configured c.streams v)) { configured = true }

-- the control stream of the peer, whose SETTINGS were sent or not, and whose last GOAWAY had this ID, is read
-- as far as that
pub record IsControlRead (e : Endpoint) (settled : Bool) (goaway : Option ℕ) (s : Stream) : Type 0 where
  pub reader : Rattle.wtp_frames.specs.declared.reader.Reader.Reader
  pub given : Bool
  pub is : s ≡ stream_of (frames.Frames reader given)
  pub at : IsControlAt e settled goaway reader
