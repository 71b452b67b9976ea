-- A piece that is ahead is what a call gives.
use Rattle.std.proofs.Common.{◌≡◌, ℕ, ◌+◌, ◌-◌, ◌==◌, Bool, true, false, List, length, Option, None, refl, sym, ap, subst}
use Rattle.wtp_frames.specs.declared.reader.ahead.Ahead.{Ahead}
use Rattle.wtp_frames.specs.Reading.{slice}
use Rattle.wtp_connection.specs.declared.connection.Found.TheVariants as found
use Rattle.wtp_connection.specs.declared.stream.Stream.{Stream as Frames}
use Rattle.wtp_connection.specs.declared.stream.Stream.TheVariants as frames
use Rattle.wtp_connection.specs.Opening.{remaining_of}
use Rattle.wtp_connection.specs.Ahead.{GivesBytes, past_piece, IsAhead}
use Rattle.wtp_dynamic_decoder.specs.Decoder.{Decoder}
use Rattle.wtp_messages.specs.declared.message.Message.{Message}
use Rattle.wtp_messages.specs.Content.{fits}
use Rattle.wtp_webtransport.specs.declared.connection.Connection.{Connection}
use Rattle.wtp_webtransport.specs.declared.stream.Part.{Part}
use Rattle.wtp_webtransport.specs.declared.stream.Part.TheVariants as part
use Rattle.wtp_webtransport.specs.declared.stream.Stream.{Stream}
use Rattle.wtp_webtransport.specs.declared.stream.Unread.{Unread}
use Rattle.wtp_webtransport.specs.declared.stream.Unread.TheVariants as unread
use Rattle.wtp_webtransport.specs.Events.{Told}
use Rattle.wtp_webtransport.specs.Receiving.{Outcome, DataBy, GoesOn, DueGives, StreamGives, ReceivesIf, Receives, counted}
use Rattle.wtp_webtransport.specs.Streams.{with_frames, with_part, due_by}
use Rattle.wtp_webtransport.specs.Tables.{without_read, instructed, instructed_by}
use Rattle.wtp_webtransport.specs.Ahead.{counts_if, counts_in, counts_by, counts, piece_of, GivesPiece}
use Rattle.wtp_webtransport.proofs.TableLemmas.{call_read}

-- bytes of such a stream are no instructions
none_instructed : (d : Option Decoder) (t : Frames) (bytes : List ℕ) → GivesBytes t → instructed_by d t bytes ≡ None
none_instructed d (frames.Frames r given) bytes g = refl
none_instructed d (frames.Session id) bytes g = refl
none_instructed d other bytes g = absurd g

not_instructed : (c : Connection) (s : Stream) (bytes : List ℕ) → c.over ≡ false → GivesBytes s.frames → instructed c s bytes ≡ None
not_instructed c s bytes e g = rw e (none_instructed c.decoder s.frames bytes g)

-- ---- what the piece comes to, by the part of the stream

-- the stream after the piece, in its frames
after : Stream → Ahead → Stream
after t a = with_frames t (past_piece a.remaining t.frames)

told_piece : Part → Ahead → List ℕ → Told
told_piece p a bytes = piece_of p (slice a.start a.end bytes)

goes : (limit : ℕ) (c : Connection) (s : Stream) (bytes : List ℕ) (fin : Bool) (a : Ahead) (o : Outcome) → IsAhead a c.streams s.frames bytes → DataBy s.part c (after s a) a.start a.end bytes o → GoesOn limit c s bytes fin o
unfolding after
goes limit c s bytes fin a o is gives = record {
  x = found.Data a.start a.end;
  d = c.streams;
  t = past_piece a.remaining s.frames;
  found = is.finds fin;
  first = is.exact fin;
  nearer = is.nearer;
  gives = gives;
}

not_given : (s t : Stream) → ◌≡◌ {A = Bool × Stream} (true, t) (false, s) → ⊥
not_given s t e = let is : true ≡ false = ap (λ (x : Bool × Stream). x.0) e in cc is

not_left : (s t : Stream) → ◌≡◌ {A = Bool × Stream} (false, t) (true, s) → ⊥
not_left s t e = let is : false ≡ true = ap (λ (x : Bool × Stream). x.0) e in cc is

same_stream : (s t : Stream) → ◌≡◌ {A = Bool × Stream} (true, t) (true, s) → t ≡ s
same_stream s t e = ap (λ (x : Bool × Stream). x.1) e

content : (b : Bool) (m : Message) (c : Connection) (s t : Stream) (bytes : List ℕ) (a : Ahead) → s.part ≡ part.Body m → fits m.content.left ((a.end - a.start) + a.remaining) ≡ b → remaining_of (past_piece a.remaining s.frames) ≡ a.remaining → (true, t) ≡ counts_if b s m (a.end - a.start) → DataBy (part.Body m) c (after s a) a.start a.end bytes (a.end, told_piece (part.Body m) a bytes, c, after t a)
unfolding after told_piece
content true m c s t bytes a is fit left e = rw (ap (λ (x : Bool × Stream). x.1) e, left, fit, is) refl
content false m c s t bytes a is fit left e = absurd (not_given s t e)

at_part : (p : Part) (c : Connection) (s : Stream) (bytes : List ℕ) (a : Ahead) (o : Outcome) → s.part ≡ p → DataBy p c (after s a) a.start a.end bytes o → DataBy s.part c (after s a) a.start a.end bytes o
at_part p c s bytes a o is gives = subst (λ (q : Part). DataBy q c (after s a) a.start a.end bytes o) (sym is) gives

in_part : (p : Part) (limit : ℕ) (c : Connection) (s t : Stream) (bytes : List ℕ) (fin empty : Bool) (a : Ahead) → s.part ≡ p → IsAhead a c.streams s.frames bytes → (true, t) ≡ counts_in p s (a.end - a.start) a.remaining → DueGives (due_by p empty) limit c s bytes fin (a.end, told_piece p a bytes, c, after t a)
unfolding told_piece
in_part (part.Body m) limit c s t bytes fin empty a is ahead e = goes limit c s bytes fin a (a.end, told_piece (part.Body m) a bytes, c, after t a) ahead (at_part (part.Body m) c s bytes a (a.end, told_piece (part.Body m) a bytes, c, after t a) is (content (fits m.content.left ((a.end - a.start) + a.remaining)) m c s t bytes a is refl ahead.left e))
in_part part.OfSession limit c s t bytes fin empty a is ahead e = goes limit c s bytes fin a (a.end, told_piece part.OfSession a bytes, c, after t a) ahead (at_part part.OfSession c s bytes a (a.end, told_piece part.OfSession a bytes, c, after t a) is (rw (same_stream s t e) refl))
in_part part.Tunnel limit c s t bytes fin empty a is ahead e = goes limit c s bytes fin a (a.end, told_piece part.Tunnel a bytes, c, after t a) ahead (at_part part.Tunnel c s bytes a (a.end, told_piece part.Tunnel a bytes, c, after t a) is (rw (same_stream s t e) refl))
in_part _ limit c s t bytes fin empty a is ahead e = absurd (not_given s t e)

unread_nothing : (u : Unread) (limit : ℕ) (c : Connection) (s t : Stream) (bytes : List ℕ) (fin : Bool) (a : Ahead) → IsAhead a c.streams s.frames bytes → (true, t) ≡ counts_by u s (a.end - a.start) a.remaining → StreamGives u limit c s bytes fin (a.end, told_piece s.part a bytes, c, after t a)
unread_nothing unread.Nothing limit c s t bytes fin a ahead e = in_part s.part limit c s t bytes fin (length bytes == 0) a refl ahead e
unread_nothing _ limit c s t bytes fin a ahead e = absurd (not_given s t e)

receives : (limit : ℕ) (c : Connection) (s t : Stream) (bytes : List ℕ) (fin : Bool) (a : Ahead) → c.over ≡ false → IsAhead a c.streams s.frames bytes → (true, t) ≡ counts s (a.end - a.start) a.remaining → Receives limit c s bytes fin (a.end, told_piece s.part a bytes, c, after t a)
receives limit c s t bytes fin a whole ahead e = subst (λ (b : Bool). ReceivesIf b limit c s bytes fin (a.end, told_piece s.part a bytes, c, after t a)) (sym whole) (unread_nothing s.unread limit c s t bytes fin a ahead e)

pub piece_given : (c : Connection) (s t : Stream) (bytes : List ℕ) (a : Ahead) → c.over ≡ false → IsAhead a c.streams s.frames bytes → (true, t) ≡ counts s (a.end - a.start) a.remaining → GivesPiece a.end (slice a.start a.end bytes) c s bytes (without_read c) (with_frames t (past_piece a.remaining t.frames))
unfolding after told_piece
piece_given c s t bytes a whole ahead e limit fin =
    call_read limit c s bytes fin (a.end, told_piece s.part a bytes, without_read c, after t a) (not_instructed c s bytes whole ahead.kind)
    (receives limit (without_read c) s t bytes fin a whole ahead e)

-- nothing changed
pub not_counted : (s t : Stream) (piece remaining : ℕ) → (false, t) ≡ counts s piece remaining → t ≡ s
not_counted s t piece remaining e = by_unread s.unread e
  where
    by_if : (b : Bool) (m : Message) → (false, t) ≡ counts_if b s m piece → t ≡ s
    by_if true m e = absurd (not_left (with_part s (part.Body (counted m piece))) t e)
    by_if false m e = ap (λ (x : Bool × Stream). x.1) e

    by_part : (p : Part) → (false, t) ≡ counts_in p s piece remaining → t ≡ s
    by_part (part.Body m) e = by_if (fits m.content.left (piece + remaining)) m e
    by_part part.OfSession e = absurd (not_left s t e)
    by_part part.Tunnel e = absurd (not_left s t e)
    by_part _ e = ap (λ (x : Bool × Stream). x.1) e

    by_unread : (u : Unread) → (false, t) ≡ counts_by u s piece remaining → t ≡ s
    by_unread unread.Nothing e = by_part s.part e
    by_unread _ e = ap (λ (x : Bool × Stream). x.1) e
