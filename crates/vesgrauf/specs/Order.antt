-- What is taken out, what is to be looked at, and which session is the first.
use Rattle.std.specs.Prelude.{◌≡◌, ◌≤◌, ◌<◌, ◌^◌, ℕ, true, List, [], ◌∷◌, Option, None, Some, Ok}
use Rattle.std.specs.List.{list_any}
use Rattle.std.specs.Ordering.{nat_cmp}
use Rattle.std.specs.BTreeMap.{is_at}
use Rattle.wtp_webtransport.specs.Streams.{waits_for}
use Rattle.wtp_webtransport.specs.declared.event.Waits.{Waits}
use Rattle.vesgrauf.specs.declared.connection.Connection.{Connection}
use Rattle.vesgrauf.specs.declared.entry.Entry.{Entry}
use Rattle.vesgrauf.specs.declared.output.Output.{Output}
use Rattle.vesgrauf.specs.declared.output.Output.TheVariants as output
use Rattle.vesgrauf.specs.State.{open_session}

-- ---- what waits

-- the first of what waits is taken out, if there is one
abbrev pub TakesFirst : {A : Type 0} → List A → List A → Type 0
TakesFirst [] ys = ys ≡ []
TakesFirst (x ∷ xs) ys = ys ≡ xs

-- nothing is to be done, or a stream is to be opened
abbrev pub IsNoneOrOpen : Option Output → Type 0
IsNoneOrOpen None = Unit {0}
IsNoneOrOpen (Some (output.Open id kind)) = Unit {0}
IsNoneOrOpen other = ⊥

-- what a stream waits for whose bytes came and cannot be read yet
abbrev pub waits_on : Option Entry → Option Waits
waits_on None = None
waits_on (Some e) = waits_for e.reading.stream

-- all streams that wait, or are paused, are to be looked at
abbrev pub LooksAtAll : Connection → Type 0
LooksAtAll c = (c.pending.is_woken ≡ true) × (c.pending.cursor ≡ 0)

-- this one is among them
pub record LooksAt (id : ℕ) (c : Connection) : Type 0 where
  pub waits : list_any (is_at (nat_cmp id)) c.waiting.keys ≡ true
  pub woken : LooksAtAll c

-- ---- sessions

-- no session is open from one ID up to another, which is not among them
abbrev pub NoneOpen : Connection → (from to : ℕ) → Type 0
NoneOpen c from to = (k : ℕ) → from ≤ k → k < to → open_session c k ≡ Ok tt → ⊥

-- the first session that is open, from an ID on, which has 64 bits
abbrev pub IsFirstOpen : Connection → ℕ → Option ℕ → Type 0
IsFirstOpen c from None = NoneOpen c from (2 ^ 64)
IsFirstOpen c from (Some id) = (from ≤ id) × (open_session c id ≡ Ok tt) × NoneOpen c from id
