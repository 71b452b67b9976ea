-- The results of polls, and the errors with which reading and writing stop.
use Rattle.std.specs.Prelude.{◌≡◌, ℕ, ◌+◌, ◌≤◌, ◌==◌, if◌then◌else◌, length}
use Rattle.std.specs.declared.io.ErrorKind.{ErrorKind}
use Rattle.std.specs.declared.io.ErrorKind.TheVariants.{ConnectionReset}
use Rattle.wtp_core.specs.declared.bytes.poll.Polled.{Polled}
use Rattle.wtp_core.specs.declared.bytes.poll.Polled.TheVariants.{Ready, Pending, Again, NoMemory}
use Rattle.wtp_core.specs.declared.bytes.error.IoReadError.{IoReadError}
use Rattle.wtp_core.specs.declared.bytes.error.IoReadError.TheVariants as read
use Rattle.wtp_core.specs.declared.bytes.error.IoWriteError.{IoWriteError}
use Rattle.wtp_core.specs.declared.bytes.error.IoWriteError.TheVariants as write
use Rattle.wtp_core.specs.Source.{Source, SourceEnding, AtEnd, AtReset, AtDisconnection}

-- the read error at this ending of the source, after this many bytes of the item
abbrev pub stop : ℕ → SourceEnding → IoReadError
stop taken AtEnd = if taken == 0 then read.ImmediateFin else read.UnexpectedFin
stop taken AtReset = read.Reset
stop taken AtDisconnection = read.NotConnected

-- the read error that an IO error is converted to
abbrev pub read_fault : ErrorKind → IoReadError
read_fault ConnectionReset = read.Reset
read_fault _ = read.NotConnected

-- the write error that an IO error is converted to
abbrev pub write_fault : ErrorKind → IoWriteError
write_fault ConnectionReset = write.Stopped
write_fault _ = write.NotConnected

-- at most this many calls were counted; the ending is unchanged, and no count decreased
pub record PollsAtMost (calls : ℕ) (a b : Source) : Type 0 where
  pub asked : b.asked ≤ a.asked + calls
  pub no_less : a.asked ≤ b.asked
  pub ending : b.ending ≡ a.ending
  pub waits : a.waits ≤ b.waits

-- the source was called at most once more than it gave bytes
abbrev pub IsPaced : Source → Source → Type 0
IsPaced a b = b.asked + length b.ahead ≤ a.asked + length a.ahead + 1

-- how often the source was not ready in one poll: once if the result is Pending, and otherwise
-- never
abbrev pub polled_waits : {T : Type 0} → Polled T → ℕ
polled_waits (Ready _) = 0
polled_waits Pending = 1
polled_waits Again = 0
polled_waits NoMemory = 0

-- the count of waits rose by one if the result is Pending, and otherwise not
abbrev pub WaitsAs : {T : Type 0} → Polled T → Source → Source → Type 0
WaitsAs result a b = b.waits ≡ a.waits + polled_waits result
