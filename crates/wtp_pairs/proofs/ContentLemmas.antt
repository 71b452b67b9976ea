-- The content, the trailers and the end of messages, as the other end receives them.
use Rattle.std.proofs.Common.{◌≡◌, ℕ, ◌+◌, ◌-◌, ◌==◌, ◌<◌, ◌≤◌, ◌||◌, Bool, true, false, List, [], ◌∷◌, map, length, Option, refl, sym, ap, subst, ◌∙◌, arith}
use Rattle.std.proofs.lemmas.List.{append-nil}
use Rattle.wtp_frames.specs.declared.endpoint.Endpoint.{Endpoint}
use Rattle.wtp_frames.specs.declared.reader.Place.TheVariants as reading
use Rattle.wtp_frames.specs.declared.reader.Reader.{Reader}
use Rattle.wtp_frames.specs.Item.{Byte}
use Rattle.wtp_frames.specs.Reading.{slice}
use Rattle.wtp_frames.specs.Run.{Run}
use Rattle.wtp_frames.specs.First.{first}
use Rattle.wtp_connection.specs.declared.connection.Connection.{Connection as Streams}
use Rattle.wtp_connection.specs.declared.connection.Found.{Found}
use Rattle.wtp_connection.specs.declared.connection.Found.TheVariants as found
use Rattle.wtp_connection.specs.declared.stream.Stream.{Stream as Frames}
use Rattle.wtp_connection.specs.declared.stream.Stream.TheVariants as frames
use Rattle.wtp_connection.specs.Receiving.{seen_of}
use Rattle.wtp_connection.specs.Streams.{Seen, StreamRun, rests, followed, bytes_seen, has_frames, of_frames}
use Rattle.wtp_connection.specs.First.{first_seen, has_none}
use Rattle.wtp_connection.proofs.StreamLemmas.{items_bytes, no_frames}
use Rattle.wtp_messages.specs.declared.message.Message.{Message}
use Rattle.wtp_messages.specs.Content.{fits, left_after}
use Rattle.wtp_sending.specs.declared.message.Place.TheVariants as sent
use Rattle.wtp_sending.specs.declared.message.Sending.{Sending}
use Rattle.wtp_sending.specs.Sent.{reads_data}
use Rattle.wtp_webtransport.specs.declared.connection.Connection.{Connection}
use Rattle.wtp_webtransport.specs.declared.stream.Stream.{Stream}
use Rattle.wtp_webtransport.specs.declared.stream.Part.{Part}
use Rattle.wtp_webtransport.specs.declared.stream.Part.TheVariants as part
use Rattle.wtp_webtransport.specs.declared.stream.Unread.TheVariants as unread
use Rattle.wtp_webtransport.specs.Events.{Data}
use Rattle.wtp_webtransport.specs.Streams.{with_frames, with_part, with_message, due_by}
use Rattle.wtp_webtransport.specs.Receiving.{Outcome, Receives, counted, content_by, DataBy, FoundGives}
use Rattle.wtp_webtransport.proofs.CallLemmas.{goes_of}
use Rattle.wtp_webtransport.proofs.ContentLemmas.{fits_later, counted_alike}
use Rattle.wtp_webtransport.proofs.FoundLemmas.{found_from, data_from}
use Rattle.wtp_pairs.specs.Reads.{IsGoing}
use Rattle.wtp_pairs.specs.Messages.{IsBehind, IsFor, Agrees}
use Rattle.wtp_pairs.proofs.MessageLemmas.{agrees_at}
use Rattle.wtp_pairs.proofs.CallLemmas.{Finds, found_some, frames_seen, same_bytes}

-- ---- a piece of content

-- what is found in a payload that is given
abbrev piece_run : Streams → List ℕ → Reader → Bool → List ℕ → StreamRun
piece_run c piece r given rest = record { seen = bytes_seen piece; connection = c; stream = frames.Frames r given; left = rest }

abbrev pub piece_of : List ℕ → Reader → List ℕ → Run
piece_of piece r rest = record { items = map Byte piece; reader = r; left = rest }

piece_seen : (c : Streams) (f : Frames) (piece rest bytes : List ℕ) (r next : Reader) (given : Bool) → c.over ≡ false → f ≡ frames.Frames r given → first r bytes ≡ piece_of piece next rest → first_seen c f bytes ≡ piece_run c piece next given rest
piece_seen c f piece rest bytes r next given over is e =
    frames_seen c f r given bytes over is
    ∙ ap (λ (x : Run). of_frames c given x) e
    ∙ items_bytes piece c (λ d. rests d (frames.Frames next (has_frames (map Byte piece) || given)) rest)
    ∙ ap (λ (b : Bool). followed (bytes_seen piece) (rests c (frames.Frames next (b || given)) rest)) (no_frames piece)
    ∙ ap (λ (l : List Seen). record { seen = l; connection = c; stream = frames.Frames next given; left = rest }) (append-nil (bytes_seen piece))

some_seen : (piece : List ℕ) → 0 < length piece → has_none (bytes_seen piece) ≡ false
some_seen [] l = absurd (omega (arith, l))
some_seen (x ∷ piece) l = refl

-- where the piece is in the bytes
abbrev pub last_of : List ℕ → List ℕ → ℕ
last_of bytes rest = length bytes - length rest

abbrev pub start_of : List ℕ → List ℕ → List ℕ → ℕ
start_of bytes piece rest = last_of bytes rest - length piece

-- the call that finds it
pub record Piece (limit : ℕ) (c : Connection) (t : Stream) (piece rest bytes : List ℕ) (next : Reader) (given : Bool) (o : Outcome) : Type 0 where
  pub same : slice (start_of bytes piece rest) (last_of bytes rest) bytes ≡ piece
  pub gives : DataBy t.part c (with_frames t (frames.Frames next given)) (start_of bytes piece rest) (last_of bytes rest) bytes o

piece_found : (limit : ℕ) (c : Connection) (t : Stream) (piece rest bytes : List ℕ) (next : Reader) (given : Bool) (o : Outcome) → 0 < length piece → Finds limit c t bytes (piece_run c.streams piece next given rest) o → Piece limit c t piece rest bytes next given o
piece_found limit c t piece rest bytes next given o some f =
    let is : found_from (bytes_seen piece) (length bytes) (length rest) ≡ found.Data (start_of bytes piece rest) (last_of bytes rest) = data_from piece (length bytes) (length rest) some in
    record {
      same = same_bytes _ piece (subst (λ (x : Found). seen_of x bytes ≡ bytes_seen piece) is f.seen);
      gives = subst (λ (x : Found). FoundGives limit x c (with_frames t (frames.Frames next given)) bytes o) is f.gives;
    }

pub piece_call : (limit : ℕ) (c : Connection) (t : Stream) (r next : Reader) (given : Bool) (piece rest bytes : List ℕ) (fin : Bool) (o : Outcome) → IsGoing c → t.unread ≡ unread.Nothing → due_by t.part (length bytes == 0) ≡ due_by part.NoMessage (length bytes == 0) → t.frames ≡ frames.Frames r given → first r bytes ≡ piece_of piece next rest → 0 < length piece → Receives limit c t bytes fin o → Piece limit c t piece rest bytes next given o
piece_call limit c t r next given piece rest bytes fin o going read idle is at some h =
    piece_found limit c t piece rest bytes next given o some
    (found_some limit c t bytes fin (piece_run c.streams piece next given rest) o (goes_of limit c t bytes fin o h going.events read idle) (piece_seen c.streams t.frames piece rest bytes r next given going.streams is at) (some_seen piece some))

-- ---- of a message

abbrev pub body_stream : Stream → Reader → Bool → Message → Stream
body_stream t next given m = with_part (with_frames t (frames.Frames next given)) (part.Body m)

-- it is within the announced length
content_is : (c : Connection) (t : Stream) (m : Message) (next : Reader) (given : Bool) (start end size owed : ℕ) (bytes piece : List ℕ) (o : Outcome) → t.part ≡ part.Body m → end - start ≡ size → size + next.remaining ≡ owed → fits m.content.left owed ≡ true → slice start end bytes ≡ piece → DataBy t.part c (with_frames t (frames.Frames next given)) start end bytes o → o ≡ (end, Data piece, c, body_stream t next given (counted m size))
content_is c t m next given start end size owed bytes piece o is wide all fit same h =
    let one : DataBy (part.Body m) c (with_frames t (frames.Frames next given)) start end bytes o = subst (λ (p : Part). DataBy p c (with_frames t (frames.Frames next given)) start end bytes o) is h in
    one
    ∙ ap (λ (b : Bool). content_by b c (with_frames t (frames.Frames next given)) m start end bytes) (ap (λ (n : ℕ). fits m.content.left (n + next.remaining)) wide ∙ ap (λ (n : ℕ). fits m.content.left n) all ∙ fit)
    ∙ ap (λ (p : Part). (end, Data (slice start end bytes), c, with_part (with_frames t (frames.Frames next given)) (with_message p (counted m (end - start))))) is
    ∙ ap (λ (n : ℕ). (end, Data (slice start end bytes), c, body_stream t next given (counted m n))) wide
    ∙ ap (λ (l : List ℕ). (end, Data l, c, body_stream t next given (counted m size))) same

-- what is still to come after it
pub behind_after : (m new : Message) (owed size : ℕ) → size ≤ owed → IsBehind m owed new → IsBehind (counted m size) (owed - size) new
behind_after m new owed size l h =
    let sum : size + (owed - size) ≡ owed = omega (arith, l) in (
      fits_later m.content.left size (owed - size) (ap (fits m.content.left) sum ∙ h.0),
      ap (λ (x : Option ℕ). record m { content = record { left = x } }) (counted_alike m.content.left size (owed - size) ∙ ap (left_after m.content.left) sum) ∙ h.1,
    )

-- the sender after these bytes of the frame
abbrev pub after_piece : Sending → ℕ → Sending
after_piece s n = record s { owed = s.owed - n }

-- a piece of a frame of which so many bytes are missing, after some other bytes
pub content_piece : (limit : ℕ) (e : Endpoint) (c : Connection) (s : Sending) (t : Stream) (k before_it : ℕ) (given : Bool) (m : Message) (r : Reader) (piece rest bytes : List ℕ) (fin : Bool) (o : Outcome) → IsGoing c → s.place ≡ sent.Content → s.message.role ≡ s.role → t.unread ≡ unread.Nothing → IsFor s.role t.asked → t.frames ≡ frames.Frames r given → t.part ≡ part.Body m → IsBehind m s.owed s.message → first r bytes ≡ piece_of piece (reads_data e k reading.Body true (s.owed - length piece)) rest → 0 < length piece → length piece ≤ s.owed → length bytes ≡ before_it + (length piece + length rest) → Receives limit c t bytes fin o
    → (o ≡ (before_it + length piece, Data piece, c, body_stream t (reads_data e k reading.Body true (s.owed - length piece)) given (counted m (length piece)))) × Agrees e (after_piece s (length piece)) o.3
content_piece limit e c s t k before_it given m r piece rest bytes fin o going place own read for is has behind at some within size h =
    let next : Reader = reads_data e k reading.Body true (s.owed - length piece) in
    let u : Stream = body_stream t next given (counted m (length piece)) in
    let p : Piece limit c t piece rest bytes next given o = piece_call limit c t r next given piece rest bytes fin o going read (ap (λ (x : Part). due_by x (length bytes == 0)) has) is at some h in
    let wide : last_of bytes rest - start_of bytes piece rest ≡ length piece = omega (arith, size) in
    let end : last_of bytes rest ≡ before_it + length piece = omega (arith, size) in
    let all : length piece + (s.owed - length piece) ≡ s.owed = omega (arith, within) in
    let eq : o ≡ (before_it + length piece, Data piece, c, u) =
    content_is c t m next given (start_of bytes piece rest) (last_of bytes rest) (length piece) s.owed bytes piece o has wide all behind.0 p.same p.gives
    ∙ ap (λ (n : ℕ). (n, Data piece, c, u)) end in
    let good : Agrees e (after_piece s (length piece)) u = agrees_at e (after_piece s (length piece)) u sent.Content (s.owed - length piece) s.message own place refl refl read for (record {
      interims = k;
      streamed = true;
      given = given;
      message = counted m (length piece);
      frames = refl;
      part = refl;
      behind = behind_after m s.message s.owed (length piece) within behind;
      streaming = λ l. refl;
    }) in
    (eq, subst (λ (x : Outcome). Agrees e (after_piece s (length piece)) x.3) (sym eq) good)
