-- The streams of a connection.
use Rattle.std.specs.Prelude.{◌≡◌, ℕ, ◌==◌, ◌&&◌, ◌⊎◌, not, if◌then◌else◌, Bool, true, false, List, [], take, drop, Option, None, Some}
use Rattle.vesgrauf_queue.specs.State.{IsIdle, Shows, waiting}
use Rattle.vesgrauf_queue.specs.Steps.{Does, Queues, Puts, ends_with}
use Rattle.vesgrauf.specs.declared.critical.Critical.{Critical}
use Rattle.vesgrauf_ready.specs.declared.rank.Kind.{Kind}
use Rattle.vesgrauf_ready.specs.declared.rank.Kind.TheVariants as order
use Rattle.vesgrauf_stream.specs.declared.reading.Reading.{Reading}
use Rattle.vesgrauf_stream.specs.declared.writing.Writing.{Writing}
use Rattle.vesgrauf_stream.specs.Writing.{is_done as is_written}
use Rattle.vesgrauf.specs.declared.entry.Entry.{Entry}
use Rattle.vesgrauf.specs.declared.entry.Told.{Told}
use Rattle.vesgrauf.specs.declared.entry.Told.TheVariants as told
use Rattle.vesgrauf.specs.declared.entry.Peer.{Peer}
use Rattle.vesgrauf.specs.declared.entry.Peer.TheVariants as peer

-- a stream of which nothing came: of urgency 3, not incremental (RFC 9218, section 4)
abbrev pub new_entry : Reading → Peer → Writing → Entry
new_entry r p w = record {
  reading = r;
  peer = p;
  writing = w;
  session = None;
  user = None;
  priority = record { urgency = 3; incremental = false };
  told = told.NotYet;
  is_opened = true;
  is_closed = false;
  is_blocked = false;
  is_paused = false;
  is_awaited = false;
  may_cancel = false;
  is_session = false;
  has_session = false;
  is_ended = false;
  has_tunnel = false;
  is_quiet = false;
  is_decoder = false;
  withheld = 0;
  since = 0;
  offset = 0;
  is_reset = false;
  is_rejected = false;
  stops = None;
  stopped = None;
}

-- the program knows of it, and was not told that it is over
abbrev pub is_known : Told → Bool
is_known told.Known = true
is_known other = false

-- the program is told of it: one that is over stays so
abbrev pub becomes_known : Told → Told
becomes_known told.NotYet = told.Known
becomes_known other = other

-- it was told that it is over
abbrev pub is_told_over : Told → Bool
is_told_over told.Over = true
is_told_over other = false

-- its place in the order of sending
abbrev pub kind_of_entry : Entry → Kind
kind_of_entry e = order.Message e.priority

-- QUIC has opened it, and takes bytes of it
abbrev pub may_send : Entry → Bool
may_send e = e.is_opened && not e.is_blocked

abbrev pub is_over : Peer → Bool
is_over peer.Over = true
is_over other = false

-- both halves are over, and QUIC took what was queued
abbrev pub is_done : Entry → Bool
is_done e = is_over e.peer && (e.is_opened && is_written e.writing)

-- the session that events of it show: its own, or that of which it is a stream
abbrev pub shown_session : ℕ → Entry → Option ℕ
shown_session id e = if e.is_session then Some id else e.session

-- ---- own critical streams

-- it has this ID
abbrev pub is_it : ℕ → Option ℕ → Bool
is_it id None = false
is_it id (Some own) = own == id

-- QUIC has opened it and takes bytes of it, and there are some
abbrev pub IsDue : Critical → Type 0
IsDue c = (c.is_opened ≡ true) × (c.is_blocked ≡ false) × ¬ (IsIdle c.queue)

-- it has no ID, or is not due
abbrev pub IsNotDue : Critical → Type 0
IsNotDue c = (c.id ≡ None) ⊎ ¬ (IsDue c)

-- it is due, and these are its next bytes
abbrev pub ShowsOwn : Critical → (id : ℕ) → (bytes more : List ℕ) → (fin : Bool) → Type 0
ShowsOwn c id bytes more fin = IsDue c × (c.id ≡ Some id) × Shows c.queue bytes more fin

-- QUIC took the first `len` bytes that wait
pub record TookOwn (len : ℕ) (c d : Critical) : Type 0 where
  pub queue : Does (Puts (take len (waiting c.queue)) (ends_with c.queue (drop len (waiting c.queue)))) c.queue d.queue
  pub others : d ≡ record c { queue = d.queue }

-- these bytes are queued: no bytes are none
pub record Says (bytes : List ℕ) (c d : Critical) : Type 0 where
  pub id : d.id ≡ c.id
  pub opened : d.is_opened ≡ c.is_opened
  pub blocked : d.is_blocked ≡ c.is_blocked
  pub queued : ((bytes ≡ []) × (d.queue ≡ c.queue)) ⊎ ((room : Bool) × Does (Queues bytes room) c.queue d.queue)
