-- What is bounded by the configuration.
use Rattle.std.specs.Prelude.{◌≤◌, ◌+◌, ℕ, List, length}
use Rattle.vesgrauf_queue.specs.State.{counted}
use Rattle.vesgrauf.specs.declared.config.Config.{Config}
use Rattle.vesgrauf.specs.declared.connection.Connection.{Connection}
use Rattle.vesgrauf.specs.declared.entry.Entry.{Entry}
use Rattle.vesgrauf.specs.Theirs.{Theirs, Gone, Unread, theirs_at}

-- How many bytes of one stream may be kept: those by which QUIC's windows were extended, and those that are held back,
-- because the stream waits or is paused.
abbrev pub most_kept : Config → ℕ
most_kept c = c.receive_buffer + c.max_paused

-- no more of a stream are: none of one that is not read
abbrev pub Fits : ℕ → Theirs → Type 0
Fits most Gone = Unit {0}
Fits most (Unread bytes ended s) = length bytes ≤ most

-- of each of these streams
pub record AllFit (most : ℕ) (streams : List (ℕ × Entry)) : Type 0 where
  pub each : (id : ℕ) → Fits most (theirs_at streams id)

-- of each stream of the connection no more bytes are kept than may
abbrev pub IsBounded : Connection → Type 0
IsBounded c = AllFit (most_kept c.config) c.streams.entries

-- whatever of one stream may be kept: if it was no more before, it is no more after
pub data KeepsFit : Theirs → Theirs → Type 0 where
  StillFits : {x y : Theirs} → ((most : ℕ) → Fits most x → Fits most y) → KeepsFit x y

-- no more of each stream is kept than may be, if that was so before
pub data KeepsBoundAll : (a : Config) (es : List (ℕ × Entry)) (b : Config) (fs : List (ℕ × Entry)) → Type 0 where
  StillBounded : {a : Config} {es : List (ℕ × Entry)} {b : Config} {fs : List (ℕ × Entry)}
      → (AllFit (most_kept a) es → AllFit (most_kept b) fs) → KeepsBoundAll a es b fs

abbrev pub KeepsBound : Connection → Connection → Type 0
KeepsBound c d = KeepsBoundAll c.config c.streams.entries d.config d.streams.entries

-- no more bytes of the own decoder stream count than may wait for QUIC
abbrev pub InstructionsFit : Connection → Type 0
InstructionsFit c = counted c.decoder.queue ≤ c.config.max_instructions
