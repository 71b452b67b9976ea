-- Polled writing of bytes.
use Rattle.std.specs.Prelude.{◌≡◌, ℕ, ◌<◌, ◌≤◌, List, length, take, drop, Result, Ok, Err}
use Rattle.wtp_core.specs.declared.bytes.poll.Polled.{Polled}
use Rattle.wtp_core.specs.declared.bytes.poll.Polled.TheVariants.{Ready, Pending, Again, NoMemory}
use Rattle.wtp_core.specs.declared.bytes.error.IoWriteError.{IoWriteError}
use Rattle.wtp_core.specs.declared.bytes.error.IoWriteError.TheVariants as fault
use Rattle.wtp_core.specs.Sink.{Sink, Took}

-- all the bytes to be written, and the number of bytes sent
pub record Writing : Type 0 where
  pub bytes : List ℕ
  pub sent : ℕ

-- the state of writing these bytes, of which this many are sent
abbrev pub writing : List ℕ → ℕ → Writing
writing bytes sent = record { bytes = bytes; sent = sent }

-- the state of writing these bytes, of which none is sent
abbrev pub unsent : List ℕ → Writing
unsent bytes = writing bytes 0

-- new writes the same bytes as old, and has sent at least as many
pub record GoesOn (old new : Writing) : Type 0 where
  pub same : new.bytes ≡ old.bytes
  pub forward : old.sent ≤ new.sent
  pub within : new.sent ≤ length new.bytes

-- The result is Ok exactly if all bytes are sent. This holds for every sink, even without a model.
abbrev pub IsSent : {U : Type 0} → Polled (Result U IoWriteError) → Writing → Type 0
IsSent (Ready (Ok _)) new = new.sent ≡ length new.bytes
IsSent (Ready (Err e)) new = new.sent < length new.bytes
IsSent Pending new = new.sent < length new.bytes
IsSent Again new = ⊥
IsSent NoMemory new = new.sent < length new.bytes

-- the bytes sent between old and new
abbrev pub between : Writing → Writing → List ℕ
between old new = drop old.sent (take new.sent old.bytes)

-- The sink took these bytes, and the counts agree with the result: Pending, Stopped and
-- NotConnected raise their own count by exactly one, and no other count changed.
abbrev pub SinkTook : {U : Type 0} → Polled (Result U IoWriteError) → List ℕ → Sink → Sink → Type 0
SinkTook (Ready (Ok _)) bytes a b = Took a b bytes 0 0 0
SinkTook (Ready (Err fault.Stopped)) bytes a b = Took a b bytes 0 1 0
SinkTook (Ready (Err fault.NotConnected)) bytes a b = Took a b bytes 0 0 1
SinkTook Pending bytes a b = Took a b bytes 1 0 0
SinkTook Again bytes a b = ⊥
SinkTook NoMemory bytes a b = Took a b bytes 0 0 0

-- the effect of one poll on the model of a sink: it took the bytes sent between old and new, and
-- its counts agree with the result
abbrev pub WritePolled :
    {U : Type 0} → Polled (Result U IoWriteError) → Writing → Writing → Sink → Sink → Type 0
WritePolled result old new a b = SinkTook result (between old new) a b
