-- What a queue says of its stream.
use Rattle.std.specs.Prelude.{◌≡◌, ◌≢◌, ℕ, ◌+◌, ◌-◌, ◌*◌, ◌^◌, ◌<◌, ◌≤◌, ◌&&◌, ◌||◌, ◌==◌, not, if◌then◌else◌, nat_lt, nat_le, Bool, true, false, List, [], length}
use Rattle.std.specs.List.{concat}
use Rattle.vesgrauf_queue.specs.Pieces.{shown_first, shown_second, shown}
use Rattle.vesgrauf_queue.specs.declared.config.QueueConfig.{QueueConfig}
use Rattle.vesgrauf_queue.specs.declared.error.NotQueued.{NotQueued}
use Rattle.vesgrauf_queue.specs.declared.error.NotQueued.TheVariants.{Over, TooLong, Memory}
use Rattle.vesgrauf_queue.specs.declared.ending.Reset.{Reset}
use Rattle.vesgrauf_queue.specs.declared.ending.Ending.{Ending}
use Rattle.vesgrauf_queue.specs.declared.ending.Ending.TheVariants.{Open, Finishing, Finished, Resetting, WasReset}

-- The pieces that wait, each in one slice; the bytes that QUIC took and that are kept; how many bytes it took, and how
-- many of them are acknowledged; how the stream ends; whether a `Writable` is owed.
pub record State : Type 0 where
  pub pieces : List (List ℕ)
  pub kept : List ℕ
  pub put : ℕ
  pub acked : ℕ
  pub ending : Ending
  pub owed : Bool
  pub config : QueueConfig

-- the bytes that wait
abbrev pub waiting : State → List ℕ
waiting s = concat s.pieces

-- how many bytes count to the mark
abbrev pub counted : State → ℕ
counted s = length (waiting s) + (if s.config.bound_by_acked then s.put - s.acked else 0)

-- as many bytes count as the mark says, and at least one
abbrev pub is_full : State → Bool
is_full s = nat_lt 0 (counted s) && nat_le s.config.mark (counted s)

-- at most half as many count
abbrev pub is_half_free : State → Bool
is_half_free s = nat_le (2 * counted s) s.config.mark

-- the end follows the bytes that wait
abbrev pub is_finishing : Ending → Bool
is_finishing Finishing = true
is_finishing other = false

-- it was reset, whether QUIC was told so or not
abbrev pub is_reset : Ending → Bool
is_reset (Resetting r) = true
is_reset (WasReset r) = true
is_reset other = false

-- QUIC took the end or the reset
abbrev pub is_taken : Ending → Bool
is_taken Finished = true
is_taken (WasReset r) = true
is_taken other = false

-- QUIC took the end or the reset, and all bytes that it took have come, if they are kept or counted until then
abbrev pub is_done : State → Bool
is_done s =
    is_taken s.ending
    && (not (s.config.keep_until_acked || s.config.bound_by_acked) || s.put == s.acked)

-- nothing is to be put
pub record IsIdle (s : State) : Type 0 where
  pub none : waiting s ≡ []
  pub ended : is_finishing s.ending ≡ false

-- What is put next: these bytes, those after them, and whether the end follows.
pub record Shows (s : State) (bytes more : List ℕ) (fin : Bool) : Type 0 where
  pub first : bytes ≡ shown_first s.pieces
  pub second : more ≡ shown_second s.pieces
  pub ends : fin ≡ (is_finishing s.ending && length (shown s.pieces) == length (waiting s))
  pub some : bytes ≡ [] → fin ≡ true

-- no `Writable` is to be told now
abbrev pub IsNotDue : State → Type 0
IsNotDue s = s.ending ≡ Open → s.owed ≡ true → is_half_free s ≡ false

-- no reset is to be put now
abbrev pub HasNoReset : State → Type 0
HasNoReset s = (r : Reset) → s.ending ≡ Resetting r → waiting s ≢ []

-- so many more bytes may be queued: of a stream that was neither finished nor reset, and that stays below 2 ^ 62 bytes
pub record CanQueue (s : State) (n : ℕ) : Type 0 where
  pub from : s.ending ≡ Open
  pub fits : s.put + length (waiting s) + n < 2 ^ 62

-- why so many bytes are not queued: the first of these that holds
abbrev pub IsWhyNot : State → ℕ → NotQueued → Type 0
IsWhyNot s n Over = s.ending ≢ Open
IsWhyNot s n TooLong = (s.ending ≡ Open) × (2 ^ 62 ≤ s.put + length (waiting s) + n)
IsWhyNot s n Memory = CanQueue s n

-- why so many bytes are never queued, whatever memory there is
abbrev pub IsWhyNever : State → ℕ → NotQueued → Type 0
IsWhyNever s n Over = s.ending ≢ Open
IsWhyNever s n TooLong = (s.ending ≡ Open) × (2 ^ 62 ≤ s.put + length (waiting s) + n)
IsWhyNever s n Memory = ⊥

-- the counts of a queue, of which the stream has less than 2 ^ 62 bytes (RFC 9000, section 19.8)
pub record IsCounted (pieces : List (List ℕ)) (held : List ℕ) (count sent confirmed : ℕ) (config : QueueConfig) : Type 0 where
  pub waits : count ≡ length (concat pieces)
  pub acked : confirmed ≤ sent
  pub small : sent + count < 2 ^ 62
  pub kept : length held ≡ (if config.keep_until_acked then sent - confirmed else 0)
