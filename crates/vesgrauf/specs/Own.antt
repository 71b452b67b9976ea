-- What is sent on the streams of a connection: the bytes that QUIC took and those that wait for it.
use Rattle.std.specs.Prelude.{◌≡◌, ◌⊎◌, ◌||◌, ◌+◌, ◌++◌, ℕ, if◌then◌else◌, Bool, true, false, List, [], length, take, Option, None, Some}
use Rattle.std.specs.Ordering.{nat_cmp}
use Rattle.std.specs.Map.{lookup}
use Rattle.std.specs.BTreeMap.{is_at}
use Rattle.vesgrauf_queue.specs.State.{waiting, is_reset}
use Rattle.vesgrauf_stream.specs.declared.writing.Writing.{Writing}
use Rattle.vesgrauf_stream.specs.Writing.{is_none, is_done, is_finished, is_connect}
use Rattle.vesgrauf.specs.declared.entry.Entry.{Entry}
use Rattle.vesgrauf.specs.declared.connection.ids.Ids.{Ids}
use Rattle.vesgrauf.specs.Ids.{was}

-- Finished: the end follows what waits, or QUIC took it. Open: more may follow; of a CONNECT, nothing does once it is
-- refused, or its session over.
pub data End : Type 0 where
  Finished : End
  Open : (connect : Bool) → End

-- Over: nothing more is sent on the stream, since it was reset or is forgotten, or it has no own half, or there is none yet.
-- Sends: QUIC took so many bytes, these wait, and this follows.
pub data Own : Type 0 where
  Over : Own
  Sends : (put : ℕ) → (waits : List ℕ) → (end : End) → Own

abbrev pub end_of : Writing → End
end_of w = if is_finished w.queue.ending then Finished else Open (is_connect w.half)

abbrev pub own_of : Writing → Own
own_of w = if is_none w.half || is_reset w.queue.ending then Over else Sends w.queue.put (waiting w.queue) (end_of w)

abbrev pub own_in : Option Entry → Own
own_in None = Over
own_in (Some e) = own_of e.writing

-- the stream with this ID
abbrev pub entry_at : List (ℕ × Entry) → ℕ → Option Entry
entry_at streams id = lookup (is_at (nat_cmp id)) streams

abbrev pub own_at : List (ℕ × Entry) → ℕ → Own
own_at streams id = own_in (entry_at streams id)

-- the end follows what waits, on a CONNECT
abbrev pub IsClosed : Own → Own → Type 0
IsClosed (Sends put waits (Open true)) y = y ≡ Sends put waits Finished
IsClosed x y = ⊥

-- No byte is added or taken, and no end: what is sent is the same, unless the stream was reset or forgotten, or is a CONNECT
-- that the connection ends.
abbrev pub IsUntouched : Own → Own → Type 0
IsUntouched x y = (y ≡ x) ⊎ ((y ≡ Over) ⊎ IsClosed x y)

-- The same of a stream that may begin, if its ID was not seen before.
abbrev pub IsUntouchedOrNew : Bool → Own → Own → Type 0
IsUntouchedOrNew seen x y = IsUntouched x y ⊎ ((seen ≡ false) × (y ≡ Sends 0 [] (Open false)))

-- nothing is left to be sent on it: QUIC took the end or the reset, or there is no own half
abbrev pub is_sent : Option Entry → Bool
is_sent None = true
is_sent (Some e) = is_done e.writing

-- nothing more is sent on this stream, or nothing was left to be sent
abbrev pub EndsOwn : ℕ → (c d : List (ℕ × Entry)) → Type 0
EndsOwn id c d = (own_at d id ≡ Over) ⊎ (is_sent (entry_at c id) ≡ true)

-- QUIC took the first `len` bytes that wait, and the end if it follows them
abbrev pub Took : ℕ → Own → Own → Type 0
Took len Over y = y ≡ Over
Took len (Sends put waits end) y =
    (rest : List ℕ) × (waits ≡ take len waits ++ rest) × (y ≡ Sends (put + length (take len waits)) rest end)

-- and then no byte is added or taken
pub record TookAlone (len : ℕ) (x y : Own) : Type 0 where
  pub between : Own
  pub took : Took len x between
  pub kept : IsUntouched between y

-- that of all streams
pub record Untouched (c d : List (ℕ × Entry)) : Type 0 where
  pub each : (id : ℕ) → IsUntouched (own_at c id) (own_at d id)

-- that of all streams, where some may begin
pub record UntouchedOrNew (ids : Ids) (c d : List (ℕ × Entry)) : Type 0 where
  pub each : (id : ℕ) → IsUntouchedOrNew (was ids id) (own_at c id) (own_at d id)

-- that of all streams but this one
pub record UntouchedBut (but : ℕ) (c d : List (ℕ × Entry)) : Type 0 where
  pub each : (id : ℕ) → is_at (nat_cmp but) id ≡ false → IsUntouched (own_at c id) (own_at d id)
