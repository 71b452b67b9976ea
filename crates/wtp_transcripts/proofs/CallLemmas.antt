-- Calls of `receive` until more bytes are needed.
use Rattle.std.proofs.Common.{◌≡◌, ℕ, Bool, true, false, List, [], ◌∷◌, drop, refl, sym, ap, ◌∙◌}
use Rattle.std.proofs.lemmas.List.{append-nil}
use Rattle.wtp_connection.specs.declared.connection.Connection.{Connection}
use Rattle.wtp_connection.specs.declared.connection.Found.{Found}
use Rattle.wtp_connection.specs.declared.connection.Found.TheVariants as found
use Rattle.wtp_connection.specs.declared.stream.Stream.{Stream}
use Rattle.wtp_connection.specs.Receiving.{seen_of, rest_after, consumed_in, Finds, FoundIs}
use Rattle.wtp_connection.specs.Streams.{Seen, StreamRun, rests, followed, run_stream}
use Rattle.wtp_connection.proofs.FinishLemmas.{run_no_bytes}
use Rattle.wtp_transcripts.specs.Transcript.{read, AreCalls, IsPiece, seen_by}

-- what one call finds, and what is found after it
pub call_finds : (x : Found) (fin : Bool) (c d : Connection) (s t : Stream) (bytes : List ℕ) → FoundIs x c s bytes fin d t → read fin c s bytes ≡ followed (seen_of x bytes) (read fin d t (rest_after x bytes))
call_finds x true c d s t bytes is = is.finds []
call_finds x false c d s t bytes is =
    ap (λ (l : List ℕ). run_stream c s l) (sym (append-nil bytes))
    ∙ is.finds []
    ∙ ap (λ (l : List ℕ). followed (seen_of x bytes) (run_stream d t l)) (append-nil (rest_after x bytes))

last_call : (n : ℕ) (fin : Bool) (c d : Connection) (s t : Stream) (bytes left : List ℕ) → FoundIs (found.More n) c s bytes fin d t → left ≡ drop n bytes → read fin c s bytes ≡ rests d t left
last_call n true c d s t bytes left is e =
    call_finds (found.More n) true c d s t bytes is
    ∙ ap (λ (y : StreamRun). followed [] y) (is.settled refl)
    ∙ ap (λ (l : List ℕ). rests d t l) (sym e)
last_call n false c d s t bytes left is e =
    call_finds (found.More n) false c d s t bytes is
    ∙ ap (λ (y : StreamRun). followed [] y) is.fits.1.idle
    ∙ ap (λ (l : List ℕ). rests d t l) (sym e)

pub calls_read : (xs : List Found) (fin : Bool) (c d : Connection) (s t : Stream) (bytes left : List ℕ) → AreCalls xs fin c s bytes d t left → read fin c s bytes ≡ record { seen = seen_by xs bytes; connection = d; stream = t; left = left }
calls_read [] fin c d s t bytes left (n, is, e) = last_call n fin c d s t bytes left is e
calls_read (x ∷ xs) fin c d s t bytes left (e, u, is, more) =
    call_finds x fin c e s u bytes is
    ∙ ap (λ (y : StreamRun). followed (seen_of x bytes) y) (calls_read xs fin e d u t (rest_after x bytes) left more)

-- a call that finds a frame or bytes
read_piece : (seen : List Seen) (c d : Connection) (s t : Stream) (front : List ℕ) → Finds c s front seen d t [] → read false c s front ≡ record { seen = seen; connection = d; stream = t; left = [] }
read_piece seen c d s t front h =
    ap (λ (l : List ℕ). run_stream c s l) (sym (append-nil front))
    ∙ h []
    ∙ ap (λ (y : StreamRun). followed seen y) (run_no_bytes d t)
    ∙ ap (λ (l : List Seen). record { seen = l; connection = d; stream = t; left = [] }) (append-nil seen)

pub stops_there : (x : Found) (c d : Connection) (s t : Stream) (bytes : List ℕ) (fin : Bool) → FoundIs x c s bytes fin d t → IsPiece x → read false c s (consumed_in x bytes) ≡ record { seen = seen_of x bytes; connection = d; stream = t; left = [] }
stops_there (found.Settings v start end) c d s t bytes fin is p = read_piece _ c d s t _ is.alone
stops_there (found.Frame kind start end) c d s t bytes fin is p = read_piece _ c d s t _ is.alone
stops_there (found.Data start end) c d s t bytes fin is p = read_piece _ c d s t _ is.alone
stops_there (found.TooLarge size n) c d s t bytes fin is p = read_piece _ c d s t _ is.alone
stops_there (found.Opened q n) c d s t bytes fin is p = absurd p
stops_there (found.More n) c d s t bytes fin is p = absurd p
stops_there (found.Fault f) c d s t bytes fin is p = absurd p
stops_there found.End c d s t bytes fin is p = absurd p
