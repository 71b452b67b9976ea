-- What one call of a reader does.
use Rattle.std.specs.Prelude.{◌≡◌, ℕ, ◌+◌, ◌-◌, ◌<◌, ◌≤◌, ◌==◌, if◌then◌else◌, Bool, true, false, List, [], ◌∷◌, ◌++◌, map, length, take, drop, Result, Ok, Err}
use Rattle.wtp_frames.specs.declared.endpoint.Endpoint.{Endpoint}
use Rattle.wtp_frames.specs.declared.endpoint.Side.{Side}
use Rattle.wtp_frames.specs.declared.endpoint.Side.TheVariants.{Client, Server}
use Rattle.wtp_frames.specs.declared.fault.Fault.{Fault}
use Rattle.wtp_frames.specs.declared.fault.Fault.TheVariants as fault
use Rattle.wtp_frames.specs.declared.reader.Place.{Place}
use Rattle.wtp_frames.specs.declared.reader.Place.TheVariants.{BeforeHeaders, Body, AfterTrailers, Tunnel, BeforeSettings, AfterSettings, Failed}
use Rattle.wtp_frames.specs.declared.reader.Reader.{Reader}
use Rattle.wtp_frames.specs.declared.reader.Move.{Move}
use Rattle.wtp_frames.specs.declared.reader.Move.TheVariants as move
use Rattle.wtp_frames.specs.declared.reader.Step.{Step}
use Rattle.wtp_frames.specs.declared.reader.Step.TheVariants as step
use Rattle.wtp_frames.specs.declared.frame_type.FrameType.{FrameType}
use Rattle.wtp_frames.specs.Rules.{accepted, after_section}
use Rattle.wtp_frames.specs.Item.{Item, Whole, Byte, TooLarge, Broken}
use Rattle.wtp_frames.specs.Run.{Run, stays, preceded, run}
use Rattle.wtp_frames.specs.Start.{between}

-- Whatever follows these bytes, the run of all is these items, and then the run of the rest.
abbrev pub Gives : Reader → List ℕ → List Item → Reader → List ℕ → Type 0
Gives old bytes items new rest =
    (more : List ℕ) → run old (bytes ++ more) ≡ preceded items (run new (rest ++ more))

-- the longest payload that is given whole
abbrev pub longest : Endpoint → Place → ℕ
longest e BeforeHeaders = e.max_section
longest e Body = e.max_section
longest e AfterTrailers = 0
longest e Tunnel = 0
longest e BeforeSettings = 4096
longest e (AfterSettings goaway push) = 8
longest e (Failed f) = 0

-- The bytes are too few: nothing can be given before more of them come. They are fewer than a frame
-- that is given whole has, with its head.
pub record Waits (r : Reader) (bytes : List ℕ) : Type 0 where
  pub run : run r bytes ≡ stays r bytes
  pub few : length bytes ≤ 15 + longest r.endpoint r.place

abbrev pub slice : ℕ → ℕ → List ℕ → List ℕ
slice start end bytes = take (end - start) (drop start bytes)

-- ---- one call

-- the items that a step gives
abbrev pub items_of : Step → List ℕ → List Item
items_of (step.Frame kind start end) bytes = Whole kind (slice start end bytes) ∷ []
items_of (step.Data start end) bytes = map Byte (slice start end bytes)
items_of (step.TooLarge size n) bytes = TooLarge size ∷ []
items_of (step.More n) bytes = []
items_of (step.Fault f) bytes = Broken f ∷ []

-- the bytes that are left after it
abbrev pub left_after : Step → List ℕ → List ℕ
left_after (step.Frame kind start end) bytes = drop end bytes
left_after (step.Data start end) bytes = drop end bytes
left_after (step.TooLarge size n) bytes = drop n bytes
left_after (step.More n) bytes = drop n bytes
left_after (step.Fault f) bytes = []

-- how many bytes are consumed
abbrev pub consumed : Step → List ℕ → ℕ
consumed (step.Frame kind start end) bytes = end
consumed (step.Data start end) bytes = end
consumed (step.TooLarge size n) bytes = n
consumed (step.More n) bytes = n
consumed (step.Fault f) bytes = length bytes

-- the places are within the bytes, of which at least one is consumed; after More the rest waits
abbrev pub IsWithin : Step → List ℕ → Reader → Type 0
IsWithin (step.Frame kind start end) bytes new =
    (0 < start) × (start ≤ end) × (end ≤ length bytes)
IsWithin (step.Data start end) bytes new = (start < end) × (end ≤ length bytes)
IsWithin (step.TooLarge size n) bytes new = (0 < n) × (n ≤ length bytes)
IsWithin (step.More n) bytes new = (n ≤ length bytes) × Waits new (drop n bytes)
IsWithin (step.Fault f) bytes new = 0 < length bytes

-- how far the stream went, and so many interim responses: only a frame that is given whole, a
-- section and a fault lead to another place
pub record IsAt (p : Place) (old new : Reader) : Type 0 where
  pub place : new.place ≡ p
  pub interims : new.interims ≡ old.interims

-- a frame with this payload was given whole: the reader is before the next one, and counts from 0
pub record IsPast (kind : FrameType) (payload : List ℕ) (old new : Reader) : Type 0 where
  pub place : accepted old.endpoint.side old.place kind payload ≡ Ok new.place
  pub reader : new ≡ between old.endpoint old.interims new.place false 0

abbrev pub IsNext : Step → List ℕ → Reader → Reader → Type 0
IsNext (step.Frame kind start end) bytes old new = IsPast kind (slice start end bytes) old new
IsNext (step.Data start end) bytes old new = IsAt old.place old new
IsNext (step.TooLarge size n) bytes old new = IsAt (after_section old.place) old new
IsNext (step.More n) bytes old new = IsAt old.place old new
IsNext (step.Fault f) bytes old new = IsAt (Failed f) old new

-- The bytes that are consumed are exactly these items, whatever follows them: the reader is the one
-- after them.
pub record StepIs (s : Step) (old : Reader) (bytes : List ℕ) (new : Reader) : Type 0 where
  pub within : IsWithin s bytes new
  pub endpoint : new.endpoint ≡ old.endpoint
  pub next : IsNext s bytes old new
  pub gives : Gives old bytes (items_of s bytes) new (left_after s bytes)
  pub alone : Gives old (take (consumed s bytes) bytes) (items_of s bytes) new []

-- ---- one move, of which a call makes some

abbrev pub moved_items : Move → List ℕ → List Item
moved_items (move.Passed n) bytes = []
moved_items (move.Whole kind start end) bytes = Whole kind (slice start end bytes) ∷ []
moved_items (move.Streamed n) bytes = map Byte (take n bytes)
moved_items (move.TooLarge size n) bytes = TooLarge size ∷ []
moved_items move.Stuck bytes = []
moved_items (move.Failed f) bytes = Broken f ∷ []

abbrev pub moved_left : Move → List ℕ → List ℕ
moved_left (move.Passed n) bytes = drop n bytes
moved_left (move.Whole kind start end) bytes = drop end bytes
moved_left (move.Streamed n) bytes = drop n bytes
moved_left (move.TooLarge size n) bytes = drop n bytes
moved_left move.Stuck bytes = bytes
moved_left (move.Failed f) bytes = []

abbrev pub passed_by : Move → List ℕ → ℕ
passed_by (move.Passed n) bytes = n
passed_by (move.Whole kind start end) bytes = end
passed_by (move.Streamed n) bytes = n
passed_by (move.TooLarge size n) bytes = n
passed_by move.Stuck bytes = 0
passed_by (move.Failed f) bytes = length bytes

abbrev pub IsMove : Move → List ℕ → Reader → Type 0
IsMove (move.Passed n) bytes new = (0 < n) × (n ≤ length bytes)
IsMove (move.Whole kind start end) bytes new =
    (0 < start) × (start ≤ end) × (end ≤ length bytes)
IsMove (move.Streamed n) bytes new = (0 < n) × (n ≤ length bytes)
IsMove (move.TooLarge size n) bytes new = (0 < n) × (n ≤ length bytes)
IsMove move.Stuck bytes new = Waits new bytes
IsMove (move.Failed f) bytes new = 0 < length bytes

-- payload bytes are given or skipped
abbrev pub payload_move : Bool → ℕ → Move
payload_move true n = move.Streamed n
payload_move false n = move.Passed n

-- after a fault all bytes are consumed
abbrev pub all_passed : ℕ → Move
all_passed n = if n == 0 then move.Stuck else move.Passed n

abbrev pub IsAfter : Move → List ℕ → Reader → Reader → Type 0
IsAfter (move.Whole kind start end) bytes old new = IsPast kind (slice start end bytes) old new
IsAfter (move.TooLarge size n) bytes old new = IsAt (after_section old.place) old new
IsAfter (move.Failed f) bytes old new = IsAt (Failed f) old new
IsAfter other bytes old new = IsAt old.place old new

pub record MoveIs (m : Move) (old : Reader) (bytes : List ℕ) (new : Reader) : Type 0 where
  pub within : IsMove m bytes new
  pub endpoint : new.endpoint ≡ old.endpoint
  pub next : IsAfter m bytes old new
  pub gives : Gives old bytes (moved_items m bytes) new (moved_left m bytes)
  pub alone : Gives old (take (passed_by m bytes) bytes) (moved_items m bytes) new []

-- ---- the end of the stream

-- whether bytes of a frame are missing
abbrev pub by_missing : ℕ → Result (Unit {0}) Fault → Result (Unit {0}) Fault
by_missing n whole = if n == 0 then whole else Err fault.Frame

-- no message at all
abbrev pub incomplete : Side → Fault
incomplete Client = fault.Message
incomplete Server = fault.RequestIncomplete

-- what it means that the stream ends after so many bytes of a frame (RFC 9114, sections 4.1, 4.1.2,
-- 6.2.1 and 7.1)
abbrev pub by_end : Side → Place → ℕ → Result (Unit {0}) Fault
by_end side BeforeHeaders n = by_missing n (Err (incomplete side))
by_end side Body n = by_missing n (Ok tt)
by_end side AfterTrailers n = by_missing n (Ok tt)
by_end side Tunnel n = by_missing n (Ok tt)
by_end side BeforeSettings n = Err fault.ClosedCriticalStream
by_end side (AfterSettings goaway push) n = Err fault.ClosedCriticalStream
by_end side (Failed f) n = Ok tt

-- what it means that the stream ends after the bytes of a run
abbrev pub ending_of : Run → Result (Unit {0}) Fault
ending_of r = by_end r.reader.endpoint.side r.reader.place (r.reader.remaining + length r.left)
