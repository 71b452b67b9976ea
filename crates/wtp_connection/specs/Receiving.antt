-- What one call of a connection does.
use Rattle.std.specs.Prelude.{◌≡◌, ℕ, ◌+◌, ◌<◌, ◌≤◌, if◌then◌else◌, Bool, true, false, List, [], ◌∷◌, ◌++◌, length, take, drop, Option, Some, None, Result, Ok, Err}
use Rattle.std.specs.List.{list_all}
use Rattle.wtp_frames.specs.declared.endpoint.Endpoint.{Endpoint}
use Rattle.wtp_frames.specs.declared.fault.Fault.{Fault as StreamFault}
use Rattle.wtp_frames.specs.declared.frame_type.FrameType.{FrameType}
use Rattle.wtp_frames.specs.declared.frame_type.FrameType.TheVariants as kind
use Rattle.wtp_frames.specs.declared.reader.Step.{Step}
use Rattle.wtp_frames.specs.declared.reader.Step.TheVariants as step
use Rattle.wtp_frames.specs.Item.{Whole, TooLarge}
use Rattle.wtp_frames.specs.Reading.{slice, longest}
use Rattle.wtp_frames.specs.Start.{between}
use Rattle.wtp_connection.specs.declared.fault.Fault.{Fault}
use Rattle.wtp_connection.specs.declared.fault.Fault.TheVariants as fault
use Rattle.wtp_connection.specs.declared.settings.PeerSettings.{PeerSettings}
use Rattle.wtp_connection.specs.declared.stream.Purpose.{Purpose}
use Rattle.wtp_connection.specs.declared.stream.Stream.{Stream}
use Rattle.wtp_connection.specs.declared.stream.Stream.TheVariants.{Uni, Bi, Frames, Joining, Waiting, Decoder, Incomplete, Over}
use Rattle.wtp_connection.specs.declared.instructions.DecoderPlace.{DecoderPlace}
use Rattle.wtp_connection.specs.declared.connection.Connection.{Connection}
use Rattle.wtp_connection.specs.declared.connection.Found.{Found}
use Rattle.wtp_connection.specs.declared.connection.Found.TheVariants as found
use Rattle.wtp_connection.specs.Instructions.{sets_zero}
use Rattle.wtp_connection.specs.Opening.{uni_at, bi_at, over_by}
use Rattle.wtp_connection.specs.Streams.{Seen, Opened, Configured, Gave, Broke, Ended, StreamRun, rests, followed, bytes_seen, run_stream, ended, opens, configured, received_settings, closed_by, end_of}

-- ---- a stream whose purpose is not known yet

abbrev pub IsFirst : Stream → Type 0
IsFirst Uni = Unit {0}
IsFirst Bi = Unit {0}
IsFirst other = ⊥

abbrev pub opening_of : Endpoint → Stream → List ℕ → Option (Purpose × List ℕ)
opening_of e Uni bytes = uni_at e bytes
opening_of e Bi bytes = bi_at e bytes
opening_of e other bytes = None

-- ---- one call

-- what it finds
abbrev pub seen_of : Found → List ℕ → List Seen
seen_of (found.Opened p n) bytes = Opened p ∷ []
seen_of (found.Settings v start end) bytes = Configured v (slice start end bytes) ∷ []
seen_of (found.Frame kind start end) bytes = Gave (Whole kind (slice start end bytes)) ∷ []
seen_of (found.Data start end) bytes = bytes_seen (slice start end bytes)
seen_of (found.TooLarge size n) bytes = Gave (TooLarge size) ∷ []
seen_of (found.More n) bytes = []
seen_of (found.Fault f) bytes = Broke f ∷ []
seen_of found.End bytes = Ended ∷ []

-- the bytes that are left after it
abbrev pub rest_after : Found → List ℕ → List ℕ
rest_after (found.Opened p n) bytes = drop n bytes
rest_after (found.Settings v start end) bytes = drop end bytes
rest_after (found.Frame kind start end) bytes = drop end bytes
rest_after (found.Data start end) bytes = drop end bytes
rest_after (found.TooLarge size n) bytes = drop n bytes
rest_after (found.More n) bytes = drop n bytes
rest_after (found.Fault f) bytes = []
rest_after found.End bytes = []

-- the bytes that it consumes
abbrev pub consumed_in : Found → List ℕ → List ℕ
consumed_in (found.Opened p n) bytes = take n bytes
consumed_in (found.Settings v start end) bytes = take end bytes
consumed_in (found.Frame kind start end) bytes = take end bytes
consumed_in (found.Data start end) bytes = take end bytes
consumed_in (found.TooLarge size n) bytes = take n bytes
consumed_in (found.More n) bytes = take n bytes
consumed_in (found.Fault f) bytes = bytes
consumed_in found.End bytes = bytes

-- how many bytes may be left after `More`: any of a stream that waits for its session, and of each
-- other one few
abbrev pub AreFew : Stream → List ℕ → Type 0
AreFew (Joining s) bytes = Unit {0}
AreFew (Waiting s) bytes = Unit {0}
AreFew (Frames r given) bytes = length bytes ≤ 15 + longest r.endpoint r.place
AreFew other bytes = length bytes ≤ 15

-- nothing can be found before more bytes come, or the session is known
pub record Idle (c : Connection) (s : Stream) (bytes : List ℕ) : Type 0 where
  pub idle : run_stream c s bytes ≡ rests c s bytes
  pub few : AreFew s bytes

-- the reader of a stream is before the next frame, and counts from 0
abbrev pub IsBetween : Stream → Type 0
IsBetween (Frames r given) = r ≡ between r.endpoint r.interims r.place false 0
IsBetween other = ⊥

-- Places are within the bytes. The connection has the settings that are given.
abbrev pub Fits : Found → List ℕ → Connection → Stream → Type 0
Fits (found.Opened p n) bytes c s = n ≤ length bytes
Fits (found.Settings v start end) bytes c s =
    (0 < start) × (start ≤ end) × (end ≤ length bytes) × (c.peer ≡ v)
Fits (found.Frame kind start end) bytes c s =
    (0 < start) × (start ≤ end) × (end ≤ length bytes) × IsBetween s
Fits (found.Data start end) bytes c s = (start < end) × (end ≤ length bytes)
Fits (found.TooLarge size n) bytes c s = (0 < n) × (n ≤ length bytes)
Fits (found.More n) bytes c s = (n ≤ length bytes) × Idle c s (drop n bytes)
Fits (found.Fault f) bytes c s = Unit {0}
Fits found.End bytes c s = Unit {0}

-- ---- where the stream goes on

-- whatever follows these bytes, the run of all is what was found, and then the run of the rest
abbrev pub Finds : Connection → Stream → List ℕ → List Seen → Connection → Stream → List ℕ → Type 0
Finds c s bytes seen d t rest =
    (more : List ℕ) → run_stream c s (bytes ++ more) ≡ followed seen (run_stream d t (rest ++ more))

-- The bytes that are consumed are exactly what is found, whatever follows them: the connection and the
-- stream are those after them. What a stream is for may be found without a byte of it.
abbrev pub IsAlone : Found → Connection → Stream → List ℕ → List Seen → Connection → Stream → Type 0
IsAlone (found.Opened p n) c s bytes seen d t = opens c p ≡ Ok (d, t)
IsAlone (found.Fault f) c s bytes seen d t = Unit {0}
IsAlone found.End c s bytes seen d t = Unit {0}
IsAlone other c s bytes seen d t = Finds c s bytes seen d t []

pub record StepIsFound (x : Found) (c : Connection) (s : Stream) (bytes : List ℕ) (d : Connection)
    (t : Stream) : Type 0 where
  pub fits : Fits x bytes d t
  pub finds : Finds c s bytes (seen_of x bytes) d t (rest_after x bytes)
  pub alone : IsAlone x c s (consumed_in x bytes) (seen_of x bytes) d t

-- ---- where the stream may end

-- all that is found where the stream ends after these bytes, or goes on with more of them
abbrev pub all_found : Bool → Connection → Stream → List ℕ → List ℕ → StreamRun
all_found fin c s bytes more =
    if fin then ended (run_stream c s bytes) else run_stream c s (bytes ++ more)

-- it is neither an error nor the end
abbrev pub LeavesOpen : Found → Type 0
LeavesOpen (found.Fault f) = ⊥
LeavesOpen found.End = ⊥
LeavesOpen other = Unit {0}

-- nothing is found at the end either
abbrev pub Settled : Found → List ℕ → Connection → Stream → Type 0
Settled (found.More n) bytes d t =
    ended (run_stream d t (drop n bytes)) ≡ rests d t (drop n bytes)
Settled other bytes d t = Unit {0}

-- After anything but an error and the end the stream is in the state in which it goes on, also if it ends
-- after these bytes.
pub record FoundIs (x : Found) (c : Connection) (s : Stream) (bytes : List ℕ) (fin : Bool)
    (d : Connection) (t : Stream) : Type 0 where
  pub fits : Fits x bytes d t
  pub finds : (more : List ℕ) → all_found fin c s bytes more
      ≡ followed (seen_of x bytes) (all_found fin d t (rest_after x bytes) more)
  pub goes : LeavesOpen x → Finds c s bytes (seen_of x bytes) d t (rest_after x bytes)
  pub settled : fin ≡ true → Settled x bytes d t
  pub alone : IsAlone x c s (consumed_in x bytes) (seen_of x bytes) d t

-- ---- what the connection and the stream keep

-- the settings of the peer, and whether they are remembered
abbrev pub settings_of : Connection → PeerSettings × Bool
settings_of c = (c.peer, c.resumed)

-- SETTINGS change them, and nothing else does
abbrev pub settings_after : Found → Connection → PeerSettings × Bool
settings_after (found.Settings v start end) c = (v, false)
settings_after other c = settings_of c

-- whether a stream of frames had one that is no DATA
abbrev pub given_of : Stream → Bool
given_of (Frames r given) = given
given_of other = false

-- it has one from the first on that is found, and not before
abbrev pub HasGiven : Found → Stream → Stream → Type 0
HasGiven (found.Opened p n) s t = given_of t ≡ false
HasGiven (found.Settings v start end) s t = given_of t ≡ true
HasGiven (found.Frame kind start end) s t = given_of t ≡ true
HasGiven (found.Data start end) s t = given_of t ≡ given_of s
HasGiven (found.TooLarge size n) s t = given_of t ≡ true
HasGiven other s t = Unit {0}

-- ---- how many calls a stream takes

-- how many calls may return something without a byte of it: what the stream is for, and its end
abbrev pub free_calls : Stream → ℕ
free_calls Uni = 2
free_calls Bi = 2
free_calls Incomplete = 0
free_calls Over = 0
free_calls other = 1

-- at most so many calls return something before More or an error
abbrev pub calls_left : Stream → List ℕ → ℕ
calls_left s bytes = free_calls s + length bytes

-- each of them leaves fewer
abbrev pub IsNearer : Found → Stream → List ℕ → Stream → Type 0
IsNearer (found.More n) s bytes t = free_calls t ≤ free_calls s
IsNearer (found.Fault f) s bytes t = Unit {0}
IsNearer other s bytes t = calls_left t (rest_after other bytes) < calls_left s bytes

-- it returns something, and no error
abbrev pub IsGoing : Found → Type 0
IsGoing (found.More n) = ⊥
IsGoing (found.Fault f) = ⊥
IsGoing other = Unit {0}

-- Calls return these things one after the other, each with the bytes that the one before left, whatever
-- the connection is then and whether the stream ends after them.
abbrev pub AreReturned : List Found → Stream → List ℕ → Type 0
AreReturned [] s bytes = Unit {0}
AreReturned (x ∷ xs) s bytes =
    (c d : Connection)
    × (fin : Bool)
    × (t : Stream)
    × FoundIs x c s bytes fin d t
    × IsNearer x s bytes t
    × IsGoing x
    × AreReturned xs t (rest_after x bytes)

-- ---- what a step of a stream of frames is for the connection

-- what is found, and the connection and the stream after it
abbrev pub Outcome : Type 0
Outcome = Found × Connection × Stream

-- the stream ends by this error
abbrev pub fails : Connection → Fault → Outcome
fails c f = (found.Fault f, closed_by c f, Over)

abbrev pub settings_found : Connection → Stream → ℕ → ℕ → Result PeerSettings Fault → Outcome
settings_found c s start end (Ok v) = (found.Settings v start end, configured c v, s)
settings_found c s start end (Err f) = fails c f

abbrev pub frame_found : Connection → Stream → FrameType → ℕ → ℕ → List ℕ → Outcome
frame_found c s kind.Settings start end payload =
    settings_found c s start end (received_settings c payload)
frame_found c s k start end payload = (found.Frame k start end, c, s)

abbrev pub step_found : Connection → Stream → Step → List ℕ → Outcome
step_found c s (step.Frame k start end) bytes =
    frame_found c s k start end (slice start end bytes)
step_found c s (step.Data start end) bytes = (found.Data start end, c, s)
step_found c s (step.TooLarge size n) bytes = (found.TooLarge size n, c, s)
step_found c s (step.More n) bytes = (found.More n, c, s)
step_found c s (step.Fault f) bytes =
    (found.Fault (fault.Stream f), closed_by c (fault.Stream f), s)

-- ---- the streams of QPACK

abbrev pub with_capacity : Connection → Stream → ℕ → Bool → Outcome
with_capacity c s n true = (found.More n, c, s)
with_capacity c s n false = fails c fault.EncoderStream

abbrev pub encoder_found : Connection → Stream → List ℕ → Outcome
encoder_found c s bytes = with_capacity c s (length bytes) (list_all sets_zero bytes)

abbrev pub decoder_found : Connection → Option DecoderPlace → ℕ → Outcome
decoder_found c None n = fails c fault.DecoderStream
decoder_found c (Some place) n = (found.More n, c, Decoder place)

-- whether it is a frame that is no DATA
abbrev pub has_frame : Step → Bool
has_frame (step.Frame k start end) = true
has_frame (step.TooLarge size n) = true
has_frame other = false

-- its places are within the bytes
abbrev pub IsInside : Step → List ℕ → Type 0
IsInside (step.Frame k start end) bytes = (start ≤ end) × (end ≤ length bytes)
IsInside other bytes = Unit {0}

-- how many bytes are consumed where more are needed
abbrev pub more_in : Found → Option ℕ
more_in (found.More n) = Some n
more_in other = None

-- ---- the end of a stream that is idle, with these bytes left over after those consumed

abbrev pub finish_by : Connection → Result (Unit {0}) StreamFault → Outcome
finish_by c (Ok u) = (found.End, c, Over)
finish_by c (Err f) =
    (found.Fault (fault.Stream f), closed_by c (fault.Stream f), over_by f)

abbrev pub finish_open : Connection → Stream → List ℕ → ℕ → Outcome
finish_open c (Joining s) left consumed = (found.More consumed, c, Joining s)
finish_open c (Waiting s) left consumed = (found.More consumed, c, Waiting s)
finish_open c Incomplete left consumed = (found.More consumed, c, Incomplete)
finish_open c Over left consumed = (found.More consumed, c, Over)
finish_open c other left consumed = finish_by c (end_of c other left)

abbrev pub finish_of : Connection → Stream → List ℕ → ℕ → Outcome
finish_of c s left consumed =
    if c.over
    then (found.More consumed, c, s)
    else finish_open c s left consumed
