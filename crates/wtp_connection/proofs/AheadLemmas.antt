-- A piece that is ahead in the bytes of a stream.
use Rattle.std.proofs.Common.{◌≡◌, ℕ, ◌<◌, ◌==◌, Bool, true, false, cond, List, length, length-drop, Option, Some, None, IfSome, refl, arith}
use Rattle.wtp_frames.specs.declared.reader.Reader.{Reader}
use Rattle.wtp_frames.specs.declared.reader.Step.TheVariants as step
use Rattle.wtp_frames.specs.declared.reader.ahead.Ahead.{Ahead}
use Rattle.wtp_frames.specs.Ahead.{past_piece as reader_past, IsAhead as IsAheadIn}
use Rattle.wtp_connection.specs.declared.stream.Stream.{Stream}
use Rattle.wtp_connection.specs.declared.stream.Stream.TheVariants.{Frames, Session}
use Rattle.wtp_connection.specs.declared.connection.Connection.{Connection}
use Rattle.wtp_connection.specs.declared.connection.Found.{Found}
use Rattle.wtp_connection.specs.declared.connection.Found.TheVariants as found
use Rattle.wtp_connection.specs.Opening.{remaining_of}
use Rattle.wtp_connection.specs.First.{first_seen, first_found, found_by}
use Rattle.wtp_connection.specs.Receiving.{StepIsFound, FoundIs, IsNearer, more_in}
use Rattle.wtp_connection.specs.Ahead.{GivesBytes, past_piece, IsAhead}
use Rattle.wtp_connection.proofs.StreamLemmas.{frames_judged, data_found}
use Rattle.wtp_connection.proofs.FirstLemmas.{frames_first, data_first, goes_first, before_first}
use Rattle.wtp_connection.proofs.FinishLemmas.{found_open, found_before}
use Rattle.wtp_connection.proofs.ProgressLemmas.{frames_nearer}

by_fin : (x : Found) (c d : Connection) (s t : Stream) (bytes : List ℕ) → more_in x ≡ None → StepIsFound x c s bytes d t → (fin : Bool) → FoundIs x c s bytes fin d t
by_fin x c d s t bytes none is true = found_before x c s bytes true d t refl none is
by_fin x c d s t bytes none is false = found_open x c s bytes false d t refl is

first_by_fin : (x : Found) (c d : Connection) (s t : Stream) (bytes : List ℕ) → more_in x ≡ None → StepIsFound x c s bytes d t → found_by x bytes d t ≡ first_seen c s bytes → (fin : Bool) → found_by x bytes d t ≡ first_found fin c s bytes
first_by_fin x c d s t bytes none is e true = before_first x c s bytes true d t refl none is e
first_by_fin x c d s t bytes none is e false = goes_first x c s bytes false d t refl e

-- what a step finds where it is a piece
piece_ahead : (a : Ahead) (c : Connection) (s : Stream) (bytes : List ℕ) → GivesBytes s → remaining_of (past_piece a.remaining s) ≡ a.remaining → StepIsFound (found.Data a.start a.end) c s bytes c (past_piece a.remaining s) → found_by (found.Data a.start a.end) bytes c (past_piece a.remaining s) ≡ first_seen c s bytes → IsNearer (found.Data a.start a.end) s bytes (past_piece a.remaining s) → IsAhead a c s bytes
piece_ahead a c s bytes kind left is e near = record {
  kind = kind;
  left = left;
  finds = by_fin (found.Data a.start a.end) c c s (past_piece a.remaining s) bytes refl is;
  exact = first_by_fin (found.Data a.start a.end) c c s (past_piece a.remaining s) bytes refl is e;
  nearer = near;
}

left_in : (b : Bool) (n : ℕ) (r : Reader) → (cond b (record r { remaining = n; streamed = true; idle = 0 }) (record r { remaining = n })).remaining ≡ n
left_in true n r = refl
left_in false n r = refl

still_left : (n : ℕ) (r : Reader) → (reader_past n r).remaining ≡ n
still_left n r = left_in (r.remaining == 0) n r

pub data_ahead : (a : Ahead) (c : Connection) (r : Reader) (g : Bool) (bytes : List ℕ) → c.over ≡ false → IsAheadIn a r bytes → IsAhead a c (Frames r g) bytes
data_ahead a c r g bytes e is =
    piece_ahead a c (Frames r g) bytes tt (still_left a.remaining r)
    (frames_judged (step.Data a.start a.end) c c r (reader_past a.remaining r) g (Frames (reader_past a.remaining r) g) bytes (found.Data a.start a.end) e is.gives refl)
    (frames_first (step.Data a.start a.end) c c r (reader_past a.remaining r) g (Frames (reader_past a.remaining r) g) bytes (found.Data a.start a.end) e is.exact refl)
    (frames_nearer (step.Data a.start a.end) c c r (reader_past a.remaining r) g g (Frames (reader_past a.remaining r) g) bytes (found.Data a.start a.end) is.gives refl)

pub session_ahead : (c : Connection) (n : ℕ) (bytes : List ℕ) → c.over ≡ false → 0 < length bytes → IsAhead (record { start = 0; end = length bytes; remaining = 0 }) c (Session n) bytes
session_ahead c n bytes e some = piece_ahead (record { start = 0; end = length bytes; remaining = 0 }) c (Session n) bytes tt refl (data_found c n bytes e some) (data_first c n bytes e) (omega (arith, some, length-drop (length bytes) bytes))

pub if_ahead : (o : Option Ahead) (c : Connection) (r : Reader) (g : Bool) (bytes : List ℕ) → c.over ≡ false → IfSome o (λ a. IsAheadIn a r bytes) → IfSome o (λ a. IsAhead a c (Frames r g) bytes)
if_ahead None c r g bytes e is = is
if_ahead (Some a) c r g bytes e is = data_ahead a c r g bytes e is
