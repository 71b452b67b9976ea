-- A piece of DATA, or of a stream of a session, that is ahead in the bytes of a stream: that it is what a
-- call finds, and the stream after it.
use Rattle.std.specs.Prelude.{◌≡◌, ℕ, Bool, List}
use Rattle.wtp_frames.specs.declared.reader.ahead.Ahead.{Ahead}
use Rattle.wtp_frames.specs.Ahead.{past_piece as reader_past}
use Rattle.wtp_connection.specs.declared.stream.Stream.{Stream}
use Rattle.wtp_connection.specs.declared.stream.Stream.TheVariants.{Frames, Session}
use Rattle.wtp_connection.specs.declared.connection.Connection.{Connection}
use Rattle.wtp_connection.specs.declared.connection.Found.TheVariants as found
use Rattle.wtp_connection.specs.Opening.{remaining_of}
use Rattle.wtp_connection.specs.First.{first_found, found_by}
use Rattle.wtp_connection.specs.Receiving.{FoundIs, IsNearer}

-- a stream of frames, or of a session
abbrev pub GivesBytes : Stream → Type 0
GivesBytes (Frames r given) = Unit {0}
GivesBytes (Session id) = Unit {0}
GivesBytes other = ⊥

-- the stream after a piece, with so many bytes of its frame still to come
abbrev pub past_piece : ℕ → Stream → Stream
past_piece n (Frames r given) = Frames (reader_past n r) given
past_piece n other = other

-- it is what the next call finds, also where the stream ends after the bytes; the connection stays
pub record IsAhead (a : Ahead) (c : Connection) (s : Stream) (bytes : List ℕ) : Type 0 where
  pub kind : GivesBytes s
  pub left : remaining_of (past_piece a.remaining s) ≡ a.remaining
  pub finds : (fin : Bool) → FoundIs (found.Data a.start a.end) c s bytes fin c (past_piece a.remaining s)
  pub exact : (fin : Bool)
      → found_by (found.Data a.start a.end) bytes c (past_piece a.remaining s) ≡ first_found fin c s bytes
  pub nearer : IsNearer (found.Data a.start a.end) s bytes (past_piece a.remaining s)
