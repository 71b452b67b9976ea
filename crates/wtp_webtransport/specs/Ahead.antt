-- A piece that is ahead in the bytes of a stream, and is given at once.
use Rattle.std.specs.Prelude.{ℕ, ◌+◌, Bool, true, false, List}
use Rattle.wtp_messages.specs.declared.message.Message.{Message}
use Rattle.wtp_messages.specs.Content.{fits}
use Rattle.wtp_webtransport.specs.declared.connection.Connection.{Connection}
use Rattle.wtp_webtransport.specs.declared.stream.Part.{Part}
use Rattle.wtp_webtransport.specs.declared.stream.Part.TheVariants as part
use Rattle.wtp_webtransport.specs.declared.stream.Stream.{Stream}
use Rattle.wtp_webtransport.specs.declared.stream.Unread.{Unread}
use Rattle.wtp_webtransport.specs.declared.stream.Unread.TheVariants as unread
use Rattle.wtp_webtransport.specs.Events.{Told, Data, StreamData}
use Rattle.wtp_webtransport.specs.Receiving.{counted}
use Rattle.wtp_webtransport.specs.Streams.{with_part}
use Rattle.wtp_webtransport.specs.Tables.{Call}

-- ---- the count of a piece

-- Whether it is given, and the stream after it: one of a message counts, if all of its DATA frame that is
-- still to come is within the announced length (RFC 9114, section 4.1.2).
abbrev pub counts_if : Bool → Stream → Message → ℕ → Bool × Stream
counts_if true s m piece = (true, with_part s (part.Body (counted m piece)))
counts_if false s m piece = (false, s)

abbrev pub counts_in : Part → Stream → ℕ → ℕ → Bool × Stream
counts_in (part.Body m) s piece remaining =
    counts_if (fits m.content.left (piece + remaining)) s m piece
counts_in part.OfSession s piece remaining = (true, s)
counts_in part.Tunnel s piece remaining = (true, s)
counts_in _ s piece remaining = (false, s)

-- nothing that came before is to be read again
abbrev pub counts_by : Unread → Stream → ℕ → ℕ → Bool × Stream
counts_by unread.Nothing s piece remaining = counts_in s.part s piece remaining
counts_by _ s piece remaining = (false, s)

abbrev pub counts : Stream → ℕ → ℕ → Bool × Stream
counts s piece remaining = counts_by s.unread s piece remaining

-- ---- what is told

-- a piece of the content of a message or of a tunnel, or of a stream of a session
abbrev pub piece_of : Part → List ℕ → Told
piece_of part.OfSession piece = StreamData piece
piece_of _ piece = Data piece

-- it is what a call gives, whatever the limit of sections is, and also where the stream ends after the bytes
abbrev pub GivesPiece :
    ℕ → List ℕ → Connection → Stream → List ℕ → Connection → Stream → Type 0
GivesPiece consumed piece c s bytes d t =
    (limit : ℕ) (fin : Bool) → Call limit c s bytes fin (consumed, piece_of s.part piece, d, t)
