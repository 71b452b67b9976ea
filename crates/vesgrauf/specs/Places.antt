-- The order of sending (RFC 9218, section 10): which streams have a place in it.
use Rattle.std.specs.Prelude.{◌≡◌, ◌==◌, ◌&&◌, ◌||◌, not, ℕ, Bool, true, false, if◌then◌else◌, List, length, Option, None, Some}
use mathlib.Core.Bool.{Bool-set}
use Rattle.std.specs.Coded.{Π_prop}
use Rattle.vesgrauf_queue.specs.State.{State as QueueOf, waiting, is_finishing}
use Rattle.vesgrauf_ready.specs.declared.rank.Priority.{Priority}
use Rattle.vesgrauf_ready.specs.declared.rank.Rank.{Rank}
use Rattle.vesgrauf_ready.specs.Ranks.{class_of, rank_of}
use Rattle.vesgrauf_ready.specs.Turns.{State, is_ready, Joins, Leaves as LeavesTurns, Moves}
use Rattle.vesgrauf.specs.declared.entry.Entry.{Entry}
use Rattle.vesgrauf.specs.Own.{entry_at}
use Rattle.vesgrauf.specs.Streams.{is_it, kind_of_entry, may_send}

-- bytes wait, or the end
abbrev pub has_more : QueueOf → Bool
has_more q = not (length (waiting q) == 0) || is_finishing q.ending

-- QUIC has opened a stream and takes bytes of it, and some wait, or its end
abbrev pub is_sending : Entry → Bool
is_sending e = may_send e && has_more e.writing.queue

-- it is, and this is its place, by its priority
abbrev pub sends_in : Rank → Option Entry → Bool
sends_in x None = false
sends_in x (Some e) = is_sending e && x.class == class_of (kind_of_entry e)

-- this one is given its place in the next step
abbrev pub is_later : ℕ → Option ℕ → Bool
is_later id later = is_it id later

-- The streams that have a place are exactly those that may be sent from, but for one that is given its own later.
pub data Ordered (es : List (ℕ × Entry)) (ranks : List Rank) (later : Option ℕ) : Type 0 where
  EachOrdered : ((x : Rank) → is_ready x ranks ≡ (sends_in x (entry_at es x.id) && not (is_later x.id later)))
      → Ordered es ranks later

-- there is one way in which they are
pub Ordered-prop : (es : List (ℕ × Entry)) (ranks : List Rank) (later : Option ℕ) → IsProp (Ordered es ranks later)
Ordered-prop es ranks later (EachOrdered f) (EachOrdered g) i = EachOrdered
    (Π_prop (λ x. Bool-set (is_ready x ranks) (sends_in x (entry_at es x.id) && not (is_later x.id later))) f g i)

-- ---- changes

-- none is given its place later, if it was this one
abbrev pub not_later : ℕ → Option ℕ → Option ℕ
not_later id None = None
not_later id (Some k) = if k == id then None else Some k

-- a stream has its place, and is not given it later
pub data GivesPlace (id : ℕ) (e : Entry) (r s : State) (later next : Option ℕ) : Type 0 where
  Gives : Joins (rank_of id (kind_of_entry e)) r s → next ≡ not_later id later → GivesPlace id e r s later next

-- it does, if QUIC takes bytes of it
pub data TakesPlace (id : ℕ) (e : Entry) (r s : State) (later next : Option ℕ) : Type 0 where
  Takes : may_send e ≡ true → GivesPlace id e r s later next → TakesPlace id e r s later next
  Waits : may_send e ≡ false → s ≡ r → next ≡ later → TakesPlace id e r s later next

-- it keeps its place only if something waits
pub data KeepsPlace (id : ℕ) (e : Entry) (r s : State) : Type 0 where
  Keeps : has_more e.writing.queue ≡ true → s ≡ r → KeepsPlace id e r s
  Leaves : has_more e.writing.queue ≡ false → LeavesTurns (rank_of id (kind_of_entry e)) r s → KeepsPlace id e r s

-- it has another one, by another priority
pub data MovesPlace (id : ℕ) (e : Entry) (p : Priority) (r s : State) : Type 0 where
  IsMoved : Moves (rank_of id (kind_of_entry e)) (rank_of id (kind_of_entry (record e { priority = p }))) r s
      → MovesPlace id e p r s
