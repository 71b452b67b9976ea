-- Reading frames from bytes owned by the caller.
use Rattle.std.specs.Prelude.{◌≡◌, ◌≢◌, ℕ, ◌-◌, ◌<◌, ◌≤◌, nat_lt, if◌then◌else◌, Bool, false, List, [], ◌++◌, Some, None, Result, Ok, Err, length, take, drop}
use Rattle.wtp_core.specs.declared.error.ErrorCode.{ErrorCode}
use Rattle.wtp_core.specs.declared.error.ErrorCode.TheVariants.{Id, ExcessiveLoad}
use Rattle.wtp_wire.specs.Content.{Content, content, kind_in, payload_in, session_in, IsProper}
use Rattle.wtp_wire.specs.Front.{Front, Framed, Unknown, BadId, TooBig, Short, front}
use Rattle.wtp_wire.specs.Held.{Held, front_held}
use Rattle.wtransport_proto.specs.CutFrame.{due_in}
use Rattle.wtransport_proto.specs.HeldRun.{run_held}
use Rattle.wtp_wire.specs.Role.{role_of}
use Rattle.wtp_wire.specs.Rule.{Role, rule}
use Rattle.wtp_wire.specs.Run.{Run, Tail, MayGoOn, Ending, H3, ImmediateFin, ends, follows, skip_unknown}
use Rattle.wtransport_proto.specs.declared.stream.cursor.FrameCursor.{FrameCursor}
use Rattle.wtransport_proto.specs.declared.stream.cursor.FrameSpan.{FrameSpan}
use Rattle.wtransport_proto.specs.declared.stream.cursor.CursorStep.{CursorStep}
use Rattle.wtransport_proto.specs.declared.stream.cursor.CursorStep.TheVariants.{Frame, More, Fault}

-- a cursor as a reading state: it holds no bytes, only the number of payload bytes of an unknown
-- frame left to skip
abbrev pub held_by : FrameCursor → Held
held_by c = record { taken = []; skip_remaining = c.skip_remaining }

-- the run of the bytes at a cursor
abbrev pub run_from : FrameCursor → List ℕ → Tail → Run
run_from c bytes tail = run_held (role_of c.role) c.first (held_by c) bytes tail

-- the bytes from the first frame on that is not unknown
abbrev pub known_from : FrameCursor → List ℕ → List ℕ
known_from c bytes = skip_unknown (drop c.skip_remaining bytes)

-- ---- a frame

-- the payload at a position
abbrev pub payload_at : FrameSpan → List ℕ → List ℕ
payload_at p bytes = take (p.end - p.start) (drop p.start bytes)

-- the frame at a position
abbrev pub frame_at : FrameSpan → List ℕ → Content
frame_at p bytes = content p.kind (payload_at p bytes) p.session_id

-- this is the position of a frame that ends at this offset
pub record IsPlaceOf (p : FrameSpan) (f : Content) (n : ℕ) : Type 0 where
  pub kind : p.kind ≡ kind_in f
  pub session : p.session_id ≡ session_in f
  pub start : p.start ≡ n - length (payload_in f)
  pub end : p.end ≡ n

-- The frame at this position is the first one that is not unknown, and the stream allows it.
pub record TakesFrame (p : FrameSpan) (old : FrameCursor) (bytes : List ℕ) (new : FrameCursor) :
    Type 0 where
  pub within : p.end ≤ length bytes
  pub found : front (known_from old bytes) ≡ Framed (frame_at p bytes) (drop p.end bytes)
  pub proper : IsProper p.kind (payload_at p bytes) p.session_id
  pub allowed : rule (role_of old.role) old.first p.kind ≡ None
  pub cursor : new ≡ record old { first = false; skip_remaining = 0 }

-- ---- more bytes

-- the number of payload bytes of an unknown frame left to skip after these bytes
abbrev pub due_after : FrameCursor → List ℕ → ℕ
due_after c bytes =
    if nat_lt (length bytes) c.skip_remaining then c.skip_remaining - length bytes else due_in (known_from c bytes)

-- The first frame that is not unknown is incomplete, and not an error. The bytes from there on are
-- left, at most 4111; or none, if they are those of an unknown frame.
pub record WantsMore (n : ℕ) (old : FrameCursor) (bytes : List ℕ) (new : FrameCursor) : Type 0 where
  pub within : n ≤ length bytes
  pub short : front (known_from old bytes) ≡ Short
  pub cursor : new ≡ record old { skip_remaining = due_after old bytes }
  pub left : new.skip_remaining ≡ 0 → drop n bytes ≡ known_from old bytes
  pub skipped : 0 < new.skip_remaining → n ≡ length bytes
  pub few : length (drop n bytes) ≤ 4111
  pub still : front_held (held_by new) (drop n bytes) ≡ Short

-- ---- an error

-- the first frame that is not unknown has this error
abbrev pub IsFault : Role → Bool → Front → ErrorCode → Type 0
IsFault role first (Framed f rest) c = rule role first (kind_in f) ≡ Some c
IsFault role first (Unknown rest) c = ⊥
IsFault role first (BadId rest) c = c ≡ Id
IsFault role first (TooBig rest) c = c ≡ ExcessiveLoad
IsFault role first Short c = ⊥

-- ---- one call

-- the effect of one call, given the first frame that is not unknown
abbrev pub StepIs : CursorStep → FrameCursor → List ℕ → FrameCursor → Type 0
StepIs (Frame p) old bytes new = TakesFrame p old bytes new
StepIs (More n) old bytes new = WantsMore n old bytes new
StepIs (Fault c) old bytes new =
    IsFault (role_of old.role) old.first (front (known_from old bytes)) c × (new ≡ old)

-- for all bytes that follow, and however they end, the run of all bytes is `made` from the run of
-- the bytes left
abbrev pub Continues : FrameCursor → List ℕ → FrameCursor → List ℕ → (Run → Run) → Type 0
Continues old bytes new rest made =
    (more : List ℕ) (tail : Tail) → tail ≢ MayGoOn
    → run_from old (bytes ++ more) tail ≡ made (run_from new (rest ++ more) tail)

-- the effect of one call on the run, which shows that the consumed bytes are not needed again
abbrev pub RunGoesOn : CursorStep → FrameCursor → List ℕ → FrameCursor → Type 0
RunGoesOn (Frame p) old bytes new =
    Continues old bytes new (drop p.end bytes) (λ r. follows (frame_at p bytes) r)
RunGoesOn (More n) old bytes new = Continues old bytes new (drop n bytes) (λ r. r)
RunGoesOn (Fault c) old bytes new = Continues old bytes new bytes (λ r. ends (H3 c))

-- ---- the end of the stream

-- the ending of the run if the stream ends with this result
abbrev pub ending_of : Result (Unit {0}) ErrorCode → Ending
ending_of (Ok u) = ImmediateFin
ending_of (Err c) = H3 c
