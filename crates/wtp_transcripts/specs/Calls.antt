-- Calls on many streams, one by one, in any order: a stream need not be read until more bytes are needed
-- before another one is.
use Rattle.std.specs.Prelude.{◌≡◌, ℕ, ◌==◌, ◌||◌, if◌then◌else◌, Bool, true, false, List, [], ◌∷◌, ◌++◌, Option}
use Rattle.wtp_connection.specs.declared.connection.Connection.{Connection}
use Rattle.wtp_connection.specs.declared.connection.Found.{Found}
use Rattle.wtp_connection.specs.declared.fault.Fault.{Fault}
use Rattle.wtp_connection.specs.declared.stream.Purpose.{Purpose}
use Rattle.wtp_connection.specs.Datagrams.{taken, after_taken}
use Rattle.wtp_connection.specs.Receiving.{seen_of, rest_after, FoundIs, settings_of, settings_after}
use Rattle.wtp_connection.specs.Streams.{without_resumption, accepts, Seen, rests, stops}
use Rattle.wtp_transcripts.specs.Transcript.{read, Held, Event, called, Table, with_held}

-- bytes come, which may be the last, and are held; `receive` returns this; or another call is made, which
-- returns this
pub data Call : Type 0 where
  Arrived : List ℕ → Bool → Call
  Returned : Found → Call
  Made : Event → Option Fault → Call

-- What it does to the connection and to a stream.
abbrev pub CallIs : Call → Connection → Held → Connection → Held → Type 0
CallIs (Arrived bytes fin) c h d k =
    (d ≡ c)
    × (k ≡ record { stream = h.stream; left = h.left ++ bytes; fin = h.fin || fin })
CallIs (Returned x) c h d k =
    FoundIs x c h.stream h.left h.fin d k.stream
    × (k.left ≡ rest_after x h.left)
    × (k.fin ≡ h.fin)
    × (settings_of d ≡ settings_after x c)
CallIs (Made e f) c h d k = (d, k.stream, f) ≡ called c h.stream e

-- the peer opens a stream, asks to stop an own one, sends a datagram, or does not accept 0-RTT; or a call
-- on a stream
pub data CallStep : Type 0 where
  Accepts : ℕ → CallStep
  Stops : Purpose → CallStep
  Datagram : List ℕ → CallStep
  EarlyDataRefused : CallStep
  At : ℕ → Call → CallStep

-- These steps lead from a connection and its streams to those after them.
abbrev pub Leads : List CallStep → Connection → Table → Connection → Table → Type 0
Leads [] c t d u = (d ≡ c) × ((k : ℕ) → u k ≡ t k)
Leads (Accepts n ∷ steps) c t d u = Leads steps (accepts c n).0 t d u
Leads (Stops p ∷ steps) c t d u = Leads steps (stops c p).0 t d u
Leads (Datagram bytes ∷ steps) c t d u = Leads steps (after_taken c (taken c bytes)) t d u
Leads (EarlyDataRefused ∷ steps) c t d u = Leads steps (without_resumption c) t d u
Leads (At n x ∷ steps) c t d u =
    (e : Connection) × (k : Held) × CallIs x c (t n) e k × Leads steps e (with_held n k t) d u

-- the calls on stream n
abbrev pub calls_on : ℕ → List CallStep → List Call
calls_on n [] = []
calls_on n (At m x ∷ steps) = if m == n then x ∷ calls_on n steps else calls_on n steps
calls_on n (other ∷ steps) = calls_on n steps

-- Bytes of a stream come, none of them after its end, and it is read; no other call is made on it.
abbrev pub AreReads : Bool → List Call → Type 0
AreReads ended [] = Unit {0}
AreReads ended (Arrived bytes fin ∷ calls) =
    (ended ≡ true → bytes ≡ []) × AreReads (ended || fin) calls
AreReads ended (Returned x ∷ calls) = AreReads ended calls
AreReads ended (other ∷ calls) = ⊥

-- all bytes that come, joined
abbrev pub arrived : List Call → List ℕ
arrived [] = []
arrived (Arrived bytes fin ∷ calls) = bytes ++ arrived calls
arrived (other ∷ calls) = arrived calls

-- whether the end comes
abbrev pub end_arrived : List Call → Bool
end_arrived [] = false
end_arrived (Arrived bytes fin ∷ calls) = fin || end_arrived calls
end_arrived (other ∷ calls) = end_arrived calls

-- what `receive` finds, where these bytes are left at first
abbrev pub found_in : List Call → List ℕ → List Seen
found_in [] left = []
found_in (Arrived bytes fin ∷ calls) left = found_in calls (left ++ bytes)
found_in (Returned x ∷ calls) left = seen_of x left ++ found_in calls (rest_after x left)
found_in (other ∷ calls) left = found_in calls left

-- nothing more can be found on a stream before bytes come
pub record IsIdle (d : Connection) (k : Held) : Type 0 where
  pub idle : read k.fin d k.stream k.left ≡ rests d k.stream k.left
