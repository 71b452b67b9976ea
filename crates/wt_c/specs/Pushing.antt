-- Bytes of a stream that come once, in chunks. Those that are not consumed are held, in an array of
-- the caller.
use Rattle.std.specs.Prelude.{◌≡◌, ◌≢◌, ℕ, ◌+◌, ◌-◌, ◌≤◌, ◌<◌, ◌==◌, nat_lt, nat_le, ◌&&◌, ◌||◌, not, ◌⊎◌, if◌then◌else◌, Bool, true, List, [], ◌∷◌, ◌++◌, length, take, drop, replicate}
use Rattle.wt_c.specs.declared.connections.events.WtEvent.{WtEvent}
use Rattle.wt_c.specs.declared.connections.hold.WtHold.{WtHold}

-- the bytes that are held, of the array
abbrev pub held_of : WtHold → List ℕ → List ℕ
held_of h room = take (h.end - h.start) (drop h.start room)

-- a struct of this version, with an array of this size
pub record IsHold (h : WtHold) (room : ℕ) : Type 0 where
  pub order : h.start ≤ h.end
  pub within : h.end ≤ room
  pub fin : h.fin ≤ 1
  pub in_array : h.in_array ≤ 1
  pub reserved : h.reserved ≡ replicate 6 0

-- The bytes that a call reads, with an array of this size: the chunk if none are held, and otherwise
-- those that are held and as many of the chunk as the array has room for.
abbrev pub read_of : List ℕ → ℕ → List ℕ → List ℕ
read_of [] room chunk = chunk
read_of (b ∷ held) room chunk = (b ∷ held) ++ take (room - length (b ∷ held)) chunk

abbrev pub read_by : WtHold → List ℕ → List ℕ → List ℕ
read_by h room chunk = read_of (held_of h room) (length room) chunk

-- whether these are all that came
abbrev pub is_whole : List ℕ → ℕ → List ℕ → Bool
is_whole [] room chunk = true
is_whole (b ∷ held) room chunk = nat_le (length (b ∷ held) + length chunk) room

abbrev pub reads_all : WtHold → List ℕ → List ℕ → Bool
reads_all h room chunk = is_whole (held_of h room) (length room) chunk

-- the stream ends with the chunk, or ended before
abbrev pub is_ended : WtHold → ℕ → Bool
is_ended h fin = not (fin == 0) || not (h.fin == 0)

-- An event, by whether all that came were read. If there is nothing in those that were read, some of
-- them are consumed and others follow, there was nothing for the application in these.
abbrev pub event_in : Bool → WtEvent → WtEvent
event_in whole e =
    if not whole && (nat_le e.kind 1 && nat_lt 0 e.consumed) then record e { kind = 16 } else e

-- What is held after an event of this kind, with which so many bytes were consumed. What is held and
-- what is left of the chunk are the bytes that were not consumed. After an event for the application
-- no byte of the chunk is held. After the others all are, or there are more than the array has room
-- for.
pub record Holds (held chunk : List ℕ) (room kind consumed : ℕ) (new : WtHold) (room_new : List ℕ)
    : Type 0 where
  pub hold : IsHold new room
  pub taken : new.taken ≤ length chunk
  pub rest : held_of new room_new ++ drop new.taken chunk ≡ drop consumed (held ++ chunk)
  pub alone : 1 < kind → held_of new room_new ≡ drop consumed held
  pub all : kind ≤ 1 → (new.taken ≡ length chunk) ⊎ (room < length (drop consumed (held ++ chunk)))

-- where the bytes are that were read, and in which the bytes of an event are: in the chunk, or at the
-- start of the array
pub record AreRead (new : WtHold) (room_new chunk read : List ℕ) : Type 0 where
  pub chunk_is : new.in_array ≡ 0 → read ≡ chunk
  pub array_is : new.in_array ≢ 0 → take (length read) room_new ≡ read
