-- What a call returns, by what is found first in its bytes.
use Rattle.std.proofs.Common.{◌≡◌, ℕ, ◌-◌, Bool, false, List, [], ◌∷◌, ◌++◌, length, refl, sym, ap, subst, ◌∙◌, arith, length-append}
use Rattle.wtp_frames.specs.declared.reader.Reader.{Reader}
use Rattle.wtp_frames.specs.Item.{Byte}
use Rattle.wtp_frames.specs.First.{first}
use Rattle.wtp_connection.specs.declared.connection.Connection.{Connection as Streams}
use Rattle.wtp_connection.specs.declared.connection.Found.{Found}
use Rattle.wtp_connection.specs.declared.stream.Stream.{Stream as Frames}
use Rattle.wtp_connection.specs.declared.stream.Stream.TheVariants as frames
use Rattle.wtp_connection.specs.Receiving.{seen_of, Fits}
use Rattle.wtp_connection.specs.Streams.{Seen, Gave, StreamRun, rests, bytes_seen, of_frames}
use Rattle.wtp_connection.specs.First.{first_intact, first_seen, first_found, found_by, has_none, at_end}
use Rattle.wtp_connection.proofs.FirstLemmas.{first_open}
use Rattle.wtp_webtransport.specs.declared.connection.Connection.{Connection}
use Rattle.wtp_webtransport.specs.declared.stream.Stream.{Stream}
use Rattle.wtp_webtransport.specs.Streams.{with_streams, with_frames}
use Rattle.wtp_webtransport.specs.Receiving.{Outcome, FoundGives, GoesOn, told_more}
use Rattle.wtp_webtransport.proofs.FoundLemmas.{found_from, found_is}
use Rattle.wtp_webtransport.proofs.StopLemmas.{keeps_end}

-- what was found, and what the call returns for it
pub record Finds (limit : ℕ) (c : Connection) (s : Stream) (bytes : List ℕ) (w : StreamRun) (o : Outcome) : Type 0 where
  pub seen : seen_of (found_from w.seen (length bytes) (length w.left)) bytes ≡ w.seen
  pub gives : FoundGives limit (found_from w.seen (length bytes) (length w.left)) (with_streams c w.connection) (with_frames s w.stream) bytes o

found_as : (limit : ℕ) (c : Connection) (s : Stream) (bytes : List ℕ) (w : StreamRun) (o : Outcome) (x : Found) (d : Streams) (t : Frames) → Fits x bytes d t → found_by x bytes d t ≡ w → FoundGives limit x (with_streams c d) (with_frames s t) bytes o → Finds limit c s bytes w o
found_as limit c s bytes w o x d t fits is gives =
    let same : x ≡ found_from w.seen (length bytes) (length w.left) = found_is x bytes d t fits ∙ ap (λ (y : StreamRun). found_from y.seen (length bytes) (length y.left)) is in
    record {
      seen = ap (λ (y : Found). seen_of y bytes) (sym same) ∙ ap (λ (y : StreamRun). y.seen) is;
      gives =
          subst (λ (y : Found). FoundGives limit y (with_streams c w.connection) (with_frames s w.stream) bytes o) same (
          subst (λ (y : StreamRun). FoundGives limit x (with_streams c y.connection) (with_frames s y.stream) bytes o) is gives);
    }

pub find : (limit : ℕ) (c : Connection) (s : Stream) (bytes : List ℕ) (fin : Bool) (w : StreamRun) (o : Outcome) → GoesOn limit c s bytes fin o → first_found fin c.streams s.frames bytes ≡ w → Finds limit c s bytes w o
find limit c s bytes fin w o g e = found_as limit c s bytes w o g.x g.d g.t g.found.fits (g.first ∙ e) g.gives

-- something is found, whether the stream ends after the bytes or not
pub found_some : (limit : ℕ) (c : Connection) (s : Stream) (bytes : List ℕ) (fin : Bool) (w : StreamRun) (o : Outcome) → GoesOn limit c s bytes fin o → first_seen c.streams s.frames bytes ≡ w → has_none w.seen ≡ false → Finds limit c s bytes w o
found_some limit c s bytes fin w o g e some = find limit c s bytes fin w o g (ap (λ (x : StreamRun). at_end fin x) e ∙ keeps_end fin w some)

-- nothing is found, and nothing changes
pub found_none : (limit : ℕ) (c : Connection) (s : Stream) (bytes : List ℕ) (o : Outcome) → GoesOn limit c s bytes false o → first_seen c.streams s.frames bytes ≡ rests c.streams s.frames bytes → o ≡ (0, told_more s.frames, c, s)
found_none limit c s bytes o g e =
    let f : Finds limit c s bytes (rests c.streams s.frames bytes) o = find limit c s bytes false (rests c.streams s.frames bytes) o g e in
    f.gives ∙ ap (λ (n : ℕ). (n, told_more s.frames, c, s)) (omega arith)

-- how many bytes are before those that are left
pub before : (a b : List ℕ) → length (a ++ b) - length b ≡ length a
before a b = omega (arith, length-append a b)

-- the bytes of a piece
pub same_bytes : (a b : List ℕ) → bytes_seen a ≡ bytes_seen b → a ≡ b
same_bytes [] [] e = refl
same_bytes [] (y ∷ b) e = absurd (cc)
same_bytes (x ∷ a) [] e = absurd (cc)
same_bytes (x ∷ a) (y ∷ b) e =
    ap (λ (z : ℕ). z ∷ a) (same_byte x y (one (Gave (Byte x)) (Gave (Byte y)) (bytes_seen a) (bytes_seen b) e))
    ∙ ap (λ (l : List ℕ). y ∷ l) (same_bytes a b (others (Gave (Byte x)) (Gave (Byte y)) (bytes_seen a) (bytes_seen b) e))
  where
    one : (x y : Seen) (a b : List Seen) → x ∷ a ≡ y ∷ b → x ≡ y
    one x y a b e = cc

    others : (x y : Seen) (a b : List Seen) → x ∷ a ≡ y ∷ b → a ≡ b
    others x y a b e = cc

    same_byte : (x y : ℕ) → Gave (Byte x) ≡ Gave (Byte y) → x ≡ y
    same_byte x y e = cc

-- ---- a stream of frames

pub frames_seen : (c : Streams) (f : Frames) (r : Reader) (given : Bool) (bytes : List ℕ) → c.over ≡ false → f ≡ frames.Frames r given → first_seen c f bytes ≡ of_frames c given (first r bytes)
frames_seen c f r given bytes over is = first_open c f bytes over ∙ ap (λ (x : Frames). first_intact c x bytes) is
