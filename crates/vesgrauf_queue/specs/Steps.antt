-- The steps that a queue takes. Each call takes one, or none.
use Rattle.std.specs.Prelude.{◌≡◌, ℕ, ◌+◌, ◌-◌, ◌≤◌, ◌&&◌, ◌||◌, ◌==◌, if◌then◌else◌, not, min, Bool, true, false, List, [], ◌∷◌, ◌++◌, length, take, drop}
use Rattle.vesgrauf_queue.specs.declared.config.QueueConfig.{QueueConfig}
use Rattle.vesgrauf_queue.specs.declared.ending.Ending.TheVariants.{Open, Finishing, Finished, Resetting, WasReset}
use Rattle.vesgrauf_queue.specs.State.{State, waiting, is_full, is_half_free, is_finishing, is_reset}

-- Queues: bytes are queued, and whether there is room after them. Refuses: a call is told that there is no room.
-- Finishes: the end follows what is queued. Resets: the stream is reset, but for its first `size` bytes. Puts: QUIC
-- takes bytes, and maybe the end after them. PutsReset: it takes the reset. Acknowledges: so many more bytes have come.
-- Tells: there is room again.
pub data Step : Type 0 where
  Queues : List ℕ → (room : Bool) → Step
  Refuses : Step
  Finishes : Step
  Resets : (code size : ℕ) → Step
  Puts : List ℕ → (fin : Bool) → Step
  PutsReset : (code size : ℕ) → Step
  Acknowledges : ℕ → Step
  Tells : Step

-- what QUIC took, and what is known of it, is as it was
pub record SameSent (s t : State) : Type 0 where
  pub put : t.put ≡ s.put
  pub acked : t.acked ≡ s.acked
  pub kept : t.kept ≡ s.kept
  pub config : t.config ≡ s.config

-- bytes are queued, with room after them or not
pub record IsQueued (s : State) (bytes : List ℕ) (room : Bool) (t : State) : Type 0 where
  pub from : s.ending ≡ Open
  pub waits : waiting t ≡ waiting s ++ bytes
  pub left : room ≡ not (is_full t)
  pub owed : t.owed ≡ (s.owed || not room)
  pub ending : t.ending ≡ s.ending
  pub sent : SameSent s t

-- a call is told that there is no room
pub record IsRefused (s t : State) : Type 0 where
  pub from : s.ending ≡ Open
  pub full : is_full s ≡ true
  pub waits : waiting t ≡ waiting s
  pub owed : t.owed ≡ true
  pub ending : t.ending ≡ s.ending
  pub sent : SameSent s t

-- the end is to follow what is queued
pub record IsFinished (s t : State) : Type 0 where
  pub from : s.ending ≡ Open
  pub waits : waiting t ≡ waiting s
  pub owed : t.owed ≡ s.owed
  pub ending : t.ending ≡ Finishing
  pub sent : SameSent s t

-- The bytes beyond the first `size` of the stream that QUIC did not take are dropped (RFC 9000, section 3.1); those
-- before are still to be put: the reliable size of draft-ietf-quic-reliable-stream-reset.
pub record IsReset (s : State) (code size : ℕ) (t : State) : Type 0 where
  pub from : is_reset s.ending ≡ false
  pub waits : waiting t ≡ take (size - s.put) (waiting s)
  pub owed : t.owed ≡ s.owed
  pub ending : t.ending ≡ Resetting (record { code = code; size = min size (s.put + length (waiting s)) })
  pub sent : SameSent s t

-- the end goes with the last bytes
abbrev pub ends_with : State → List ℕ → Bool
ends_with s rest = is_finishing s.ending && length rest == 0

-- QUIC takes bytes, and the end if it follows them
pub record IsPut (s : State) (bytes : List ℕ) (fin : Bool) (t : State) : Type 0 where
  pub waits : waiting s ≡ bytes ++ waiting t
  pub few : length bytes ≤ 16384
  pub ends : fin ≡ ends_with s (waiting t)
  pub owed : t.owed ≡ s.owed
  pub ending : t.ending ≡ (if fin then Finished else s.ending)
  pub put : t.put ≡ s.put + length bytes
  pub acked : t.acked ≡ s.acked
  pub kept : t.kept ≡ (if s.config.keep_until_acked then s.kept ++ bytes else s.kept)
  pub config : t.config ≡ s.config

-- QUIC takes the reset, after all bytes that are reliable
pub record IsResetPut (s : State) (code size : ℕ) (t : State) : Type 0 where
  pub from : s.ending ≡ Resetting (record { code = code; size = size })
  pub none : waiting s ≡ []
  pub waits : waiting t ≡ waiting s
  pub owed : t.owed ≡ s.owed
  pub ending : t.ending ≡ WasReset (record { code = code; size = size })
  pub sent : SameSent s t

-- so many more of the bytes that QUIC took have come
pub record IsAcknowledged (s : State) (n : ℕ) (t : State) : Type 0 where
  pub within : s.acked + n ≤ s.put
  pub waits : waiting t ≡ waiting s
  pub owed : t.owed ≡ s.owed
  pub ending : t.ending ≡ s.ending
  pub put : t.put ≡ s.put
  pub acked : t.acked ≡ s.acked + n
  pub kept : t.kept ≡ drop n s.kept
  pub config : t.config ≡ s.config

-- a `Writable` is told
pub record IsTold (s t : State) : Type 0 where
  pub from : s.ending ≡ Open
  pub due : s.owed ≡ true
  pub free : is_half_free s ≡ true
  pub waits : waiting t ≡ waiting s
  pub owed : t.owed ≡ false
  pub ending : t.ending ≡ s.ending
  pub sent : SameSent s t

-- what a step does
abbrev pub Does : Step → State → State → Type 0
Does (Queues bytes room) s t = IsQueued s bytes room t
Does Refuses s t = IsRefused s t
Does Finishes s t = IsFinished s t
Does (Resets code size) s t = IsReset s code size t
Does (Puts bytes fin) s t = IsPut s bytes fin t
Does (PutsReset code size) s t = IsResetPut s code size t
Does (Acknowledges n) s t = IsAcknowledged s n t
Does Tells s t = IsTold s t

-- nothing was queued
pub record IsNew (bounds : QueueConfig) (s : State) : Type 0 where
  pub waits : waiting s ≡ []
  pub owed : s.owed ≡ false
  pub ending : s.ending ≡ Open
  pub put : s.put ≡ 0
  pub acked : s.acked ≡ 0
  pub kept : s.kept ≡ []
  pub config : s.config ≡ bounds

-- These steps lead from one state to the other.
abbrev pub Leads : List Step → State → State → Type 0
Leads [] s t = t ≡ s
Leads (x ∷ xs) s t = (m : State) × Does x s m × Leads xs m t

-- a run from the beginning
abbrev pub Run : QueueConfig → List Step → State → Type 0
Run config steps t = (s : State) × IsNew config s × Leads steps s t
