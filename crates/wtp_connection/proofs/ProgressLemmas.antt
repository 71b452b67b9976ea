-- How many calls a stream takes.
use Rattle.std.proofs.Common.{◌≡◌, ℕ, ◌+◌, ◌<◌, ◌≤◌, Bool, true, false, cond, List, [], ◌∷◌, length, drop, Some, Result, Ok, Err, sym, subst, arith, length-drop}
use Rattle.wtp_frames.specs.declared.fault.Fault.{Fault as StreamFault}
use Rattle.wtp_frames.specs.declared.frame_type.FrameType.{FrameType}
use Rattle.wtp_connection.specs.Streams.{end_of, received_settings}
use Rattle.wtp_frames.specs.declared.frame_type.FrameType.TheVariants as kind
use Rattle.wtp_frames.specs.declared.reader.Reader.{Reader}
use Rattle.wtp_frames.specs.declared.reader.Step.{Step}
use Rattle.wtp_frames.specs.declared.reader.Step.TheVariants as step
use Rattle.wtp_frames.specs.Reading.{StepIs, slice}
use Rattle.wtp_connection.specs.declared.fault.Fault.{Fault}
use Rattle.wtp_connection.specs.declared.settings.PeerSettings.{PeerSettings}
use Rattle.wtp_connection.specs.declared.stream.Stream.{Stream}
use Rattle.wtp_connection.specs.declared.stream.Stream.TheVariants.{Uni, Bi, Frames, Joining, Waiting, Session, Encoder, Decoder, Ignored, Incomplete, Over}
use Rattle.wtp_connection.specs.declared.connection.Connection.{Connection}
use Rattle.wtp_connection.specs.declared.connection.Found.{Found}
use Rattle.wtp_connection.specs.declared.connection.Found.TheVariants as found
use Rattle.wtp_connection.specs.Receiving.{free_calls, calls_left, IsNearer, IsGoing, AreReturned, Outcome, settings_found, frame_found, step_found, rest_after, more_in, finish_by, finish_open, finish_of}

abbrev Nears : Outcome → Stream → List ℕ → Type 0
Nears o s bytes = IsNearer o.0 s bytes o.2

shorter : (n : ℕ) (bytes : List ℕ) → 0 < n → n ≤ length bytes → 1 + length (drop n bytes) < 1 + length bytes
shorter n bytes some within = omega (arith, length-drop n bytes)

settings_nearer : (o : Result PeerSettings Fault) (start end : ℕ) (c : Connection) (old new : Reader) (g h : Bool) (bytes : List ℕ) → 0 < end → end ≤ length bytes → Nears (settings_found c (Frames new h) start end o) (Frames old g) bytes
settings_nearer (Ok v) start end c old new g h bytes some within = shorter end bytes some within
settings_nearer (Err f) start end c old new g h bytes some within = tt

frame_nearer : (k : FrameType) (start end : ℕ) (c : Connection) (old new : Reader) (g h : Bool) (bytes : List ℕ) → 0 < end → end ≤ length bytes → Nears (frame_found c (Frames new h) k start end (slice start end bytes)) (Frames old g) bytes
frame_nearer kind.Settings start end c old new g h bytes some within = settings_nearer (received_settings c (slice start end bytes)) start end c old new g h bytes some within
frame_nearer other start end c old new g h bytes some within = shorter end bytes some within

step_nearer : (x : Step) (c : Connection) (old new : Reader) (g h : Bool) (bytes : List ℕ) → StepIs x old bytes new → Nears (step_found c (Frames new h) x bytes) (Frames old g) bytes
step_nearer (step.Frame k start end) c old new g h bytes is = frame_nearer k start end c old new g h bytes (omega (arith, is.within.0, is.within.1)) is.within.2
step_nearer (step.Data start end) c old new g h bytes is = shorter end bytes (omega (arith, is.within.0)) is.within.1
step_nearer (step.TooLarge size n) c old new g h bytes is = shorter n bytes is.within.0 is.within.1
step_nearer (step.More n) c old new g h bytes is = omega arith
step_nearer (step.Fault f) c old new g h bytes is = tt

pub frames_nearer : (x : Step) (c d : Connection) (old new : Reader) (g h : Bool) (t : Stream) (bytes : List ℕ) (y : Found) → StepIs x old bytes new → (y, d, t) ≡ step_found c (Frames new h) x bytes → IsNearer y (Frames old g) bytes t
frames_nearer x c d old new g h t bytes y is e = subst (λ (z : Outcome). Nears z (Frames old g) bytes) (sym e) (step_nearer x c old new g h bytes is)

-- ---- the end of a stream

finish_by_nearer : (o : Result (Unit {0}) StreamFault) (d : Connection) (s : Stream) (bytes : List ℕ) → 0 < free_calls s → Nears (finish_by d o) s bytes
finish_by_nearer (Ok u) d s bytes some = omega (arith, some)
finish_by_nearer (Err f) d s bytes some = tt

finish_open_nearer : (t : Stream) (d : Connection) (left : List ℕ) (n : ℕ) (s : Stream) (bytes : List ℕ) → free_calls t ≤ free_calls s → Nears (finish_open d t left n) s bytes
finish_open_nearer Uni d left n s bytes l = finish_by_nearer (Ok tt) d s bytes (omega (arith, l))
finish_open_nearer Bi d left n s bytes l = finish_by_nearer (end_of d Bi left) d s bytes (omega (arith, l))
finish_open_nearer (Frames r g) d left n s bytes l = finish_by_nearer (end_of d (Frames r g) left) d s bytes (omega (arith, l))
finish_open_nearer (Joining k) d left n s bytes l = l
finish_open_nearer (Waiting k) d left n s bytes l = l
finish_open_nearer (Session k) d left n s bytes l = finish_by_nearer (Ok tt) d s bytes (omega (arith, l))
finish_open_nearer Encoder d left n s bytes l = finish_by_nearer (end_of d Encoder left) d s bytes (omega (arith, l))
finish_open_nearer (Decoder place) d left n s bytes l = finish_by_nearer (end_of d (Decoder place) left) d s bytes (omega (arith, l))
finish_open_nearer Ignored d left n s bytes l = finish_by_nearer (Ok tt) d s bytes (omega (arith, l))
finish_open_nearer Incomplete d left n s bytes l = l
finish_open_nearer Over d left n s bytes l = l

finish_of_nearer : (b : Bool) (t : Stream) (d : Connection) (left : List ℕ) (n : ℕ) (s : Stream) (bytes : List ℕ) → free_calls t ≤ free_calls s → Nears (cond b (found.More n, d, t) (finish_open d t left n)) s bytes
finish_of_nearer true t d left n s bytes l = l
finish_of_nearer false t d left n s bytes l = finish_open_nearer t d left n s bytes l

pub finish_nearer : (x : Found) (n : ℕ) (d e : Connection) (t u : Stream) (left : List ℕ) (s : Stream) (bytes : List ℕ) (y : Found) → more_in x ≡ Some n → IsNearer x s bytes t → (y, e, u) ≡ finish_of d t left n → IsNearer y s bytes u
finish_nearer (found.More k) n d e t u left s bytes y m near is = subst (λ (z : Outcome). Nears z s bytes) (sym is) (finish_of_nearer d.over t d left n s bytes near)
finish_nearer (found.Opened p k) n d e t u left s bytes y m near is = absurd (cc)
finish_nearer (found.Settings v start end) n d e t u left s bytes y m near is = absurd (cc)
finish_nearer (found.Frame kind start end) n d e t u left s bytes y m near is = absurd (cc)
finish_nearer (found.Data start end) n d e t u left s bytes y m near is = absurd (cc)
finish_nearer (found.TooLarge size k) n d e t u left s bytes y m near is = absurd (cc)
finish_nearer (found.Fault k) n d e t u left s bytes y m near is = absurd (cc)
finish_nearer found.End n d e t u left s bytes y m near is = absurd (cc)

few_free : (s : Stream) → free_calls s ≤ 2
few_free Uni = omega arith
few_free Bi = omega arith
few_free (Frames r g) = omega arith
few_free (Joining n) = omega arith
few_free (Waiting n) = omega arith
few_free (Session n) = omega arith
few_free Encoder = omega arith
few_free (Decoder place) = omega arith
few_free Ignored = omega arith
few_free Incomplete = omega arith
few_free Over = omega arith

nearer : (x : Found) (s : Stream) (bytes : List ℕ) (t : Stream) → IsGoing x → IsNearer x s bytes t → calls_left t (rest_after x bytes) < calls_left s bytes
nearer (found.More n) s bytes t g h = absurd g
nearer (found.Fault f) s bytes t g h = absurd g
nearer (found.Opened p n) s bytes t g h = h
nearer (found.Settings v start end) s bytes t g h = h
nearer (found.Frame k start end) s bytes t g h = h
nearer (found.Data start end) s bytes t g h = h
nearer (found.TooLarge size n) s bytes t g h = h
nearer found.End s bytes t g h = h

returned_few : (xs : List Found) (s : Stream) (bytes : List ℕ) → AreReturned xs s bytes → length xs ≤ calls_left s bytes
returned_few [] s bytes h = omega arith
returned_few (x ∷ xs) s bytes (c, d, fin, t, is, near, going, more) =
    let few : length xs ≤ calls_left t (rest_after x bytes) = returned_few xs t (rest_after x bytes) more in
    let less : calls_left t (rest_after x bytes) < calls_left s bytes = nearer x s bytes t going near in
    omega (arith, few, less)

pub calls_end : (xs : List Found) (s : Stream) (bytes : List ℕ) → AreReturned xs s bytes → length xs ≤ length bytes + 2
calls_end xs s bytes h = omega (arith, returned_few xs s bytes h, few_free s)
