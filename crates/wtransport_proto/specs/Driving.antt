-- Driving a stream: polling it until a poll waits or fails, or until a number of polls is reached.
use Rattle.std.specs.Prelude.{◌≡◌, ℕ, ◌+◌, ◌*◌, ◌<◌, ◌≤◌, ◌⊎◌, Bool, false, List, [], ◌∷◌, ◌++◌, Err}
use Rattle.wtp_core.specs.declared.bytes.poll.Polled.TheVariants.{Ready, Pending, NoMemory}
use Rattle.wtp_core.specs.Source.{Source}
use Rattle.wtp_core.specs.Polled.{PollsAtMost}
use Rattle.wtp_wire.specs.Content.{Content}
use Rattle.wtp_wire.specs.Held.{Held}
use Rattle.wtransport_proto.specs.declared.stream.driving.Driven.{Driven}
use Rattle.wtransport_proto.specs.declared.stream.driving.Driven.TheVariants as driven
use Rattle.wtp_wire.specs.Rule.{Role}
use Rattle.wtp_wire.specs.Run.{Run}
use Rattle.wtransport_proto.specs.HeldRun.{run_of, size_of}
use Rattle.wtransport_proto.specs.Place.{place_of, SamePlace, AtFault}
use Rattle.wtransport_proto.specs.StreamPolling.{EndsWithFault, Exhausted}
use Rattle.wtransport_proto.specs.Polls.{TakesSome, Series}

-- A stream changed only in whether its next frame is the first one, and only from true to false.
pub record ChangesFirst {X : Type 0} (first : X → Bool) (old new : X) : Type 0 where
  pub same : first new ≡ first old → new ≡ old
  pub for_good : first old ≡ false → first new ≡ false

-- these frames, followed by a run
abbrev pub after : List Content → Run → Run
after fs r = record { frames = fs ++ r.frames; ending = r.ending }

-- The run before is these frames, followed by the run after.
abbrev pub RunsOn : Role → Bool → Bool → Held → Held → List Content → Source → Source → Type 0
RunsOn role first next old new fs a b = run_of role first old a ≡ after fs (run_of role next new b)

-- this many polls made at most 4112 calls each, and the number of bytes held and ahead did not grow
pub record DriveKeeps (old new : Held) (polls : ℕ) (a b : Source) : Type 0 where
  pub size : size_of new b ≤ size_of old a
  pub asks : PollsAtMost (4112 * polls) a b

-- The position where the run ends is unchanged: no byte was lost, not even one after a later error.
abbrev pub KeepsPlace : Role → Bool → Bool → Held → Held → Source → Source → Type 0
KeepsPlace role first next old new a b =
    SamePlace (place_of role first old a) (place_of role next new b)

-- The effect of a drive that output the frames fs, by its result. If it ended, the reading state,
-- the source and the flag are as the failed poll leaves them, at the position where the run ends.
--
-- `Spent`: all polls were made, and each of them took a frame, or skipped an unknown frame or 4096
-- bytes of it. Every other result: fewer such polls were made, followed by one with that result. If
-- allocation failed for the list of frames, there was no such last poll. Each poll that was made
-- made at most 4112 calls.
abbrev pub DriveDid :
    Role → Driven → Bool → Bool → Held → Held → List Content → ℕ → Source → Source → Type 0
DriveDid role (driven.Ended x) first next old new fs polls a b =
    EndsWithFault (run_of role first old a) fs x
    × Exhausted x b
    × DriveKeeps old new polls a b
    × AtFault role (place_of role first old a) next new b.ahead
    × ((n : ℕ) × (n < polls) × PollsAtMost (4112 * (n + 1)) a b
    × Series TakesSome role fs n (Ready (Err x) ∷ []) first next old new a b)
DriveDid role driven.Waiting first next old new fs polls a b =
    RunsOn role first next old new fs a b
    × (a.waits < b.waits)
    × DriveKeeps old new polls a b
    × KeepsPlace role first next old new a b
    × ((n : ℕ) × (n < polls) × PollsAtMost (4112 * (n + 1)) a b
    × Series TakesSome role fs n (Pending ∷ []) first next old new a b)
DriveDid role driven.Spent first next old new fs polls a b =
    RunsOn role first next old new fs a b
    × (size_of new b + polls ≤ size_of old a)
    × DriveKeeps old new polls a b
    × KeepsPlace role first next old new a b
    × Series TakesSome role fs polls [] first next old new a b
DriveDid role driven.NoMemory first next old new fs polls a b =
    RunsOn role first next old new fs a b
    × DriveKeeps old new polls a b
    × KeepsPlace role first next old new a b
    × ((n : ℕ) × (n < polls)
    × ((PollsAtMost (4112 * n) a b × Series TakesSome role fs n [] first next old new a b)
    ⊎ (PollsAtMost (4112 * (n + 1)) a b
    × Series TakesSome role fs n (NoMemory ∷ []) first next old new a b)))

-- how often the source was not ready: once if the result is Waiting, and otherwise never
abbrev pub drive_waits : Driven → ℕ
drive_waits driven.Waiting = 1
drive_waits other = 0

-- the count of waits rose by one if the result is Waiting, and otherwise not
abbrev pub DriveWaits : Driven → Source → Source → Type 0
DriveWaits result a b = b.waits ≡ a.waits + drive_waits result

-- the effect of a drive so far, in this many polls that each took or skipped something
pub record Drove (role : Role) (first next : Bool) (old new : Held) (fs : List Content) (polls : ℕ)
    (a b : Source) : Type 0 where
  pub run : RunsOn role first next old new fs a b
  pub place : KeepsPlace role first next old new a b
  pub shorter : size_of new b + polls ≤ size_of old a
  pub asks : PollsAtMost (4112 * polls) a b
  pub series : Series TakesSome role fs polls [] first next old new a b
