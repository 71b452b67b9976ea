-- Calls of the layer below that leave the own dynamic table alone.
use Rattle.std.proofs.Common.{◌≡◌, ◌++◌, ℕ, List, [], ◌∷◌, Option, None, Some, Bool, true, false, refl, sym, ap, subst, ◌∙◌}
use Rattle.std.specs.Prelude.{if◌then◌else◌, ◌||◌, ◌&&◌, not, Result, Ok, Err}
use Rattle.wtp_connection.specs.declared.connection.Connection.{Connection as Streams}
use Rattle.wtp_connection.specs.declared.connection.Known.{Known}
use Rattle.wtp_connection.specs.declared.fault.Fault.{Fault as StreamsFault}
use Rattle.wtp_connection.specs.declared.stream.Stream.{Stream as Frames}
use Rattle.wtp_connection.specs.declared.stream.Purpose.{Purpose}
use Rattle.wtp_connection.specs.Streams.{Joined as After, joins as joins_streams, resets as resets_frames, abandons as abandons_frames, overflows as overflows_frames, stops as stops_streams}
use Rattle.wtp_connection.specs.Datagrams.{taken as streams_taken, after_taken as streams_after}
use Rattle.wtp_connection.specs.Fault.{scope_of as streams_scope}
use Rattle.wtp_core.specs.declared.error.scope.ErrorScope.{ErrorScope}
use Rattle.wtp_core.specs.declared.error.scope.ErrorScope.TheVariants as scope
use Rattle.wtp_dynamic.specs.declared.error.SectionError.TheVariants.{TooManyBlocked}
use Rattle.wtp_webtransport.specs.declared.connection.Connection.{Connection as Shared}
use Rattle.wtp_webtransport.specs.declared.fault.Fault.{Fault}
use Rattle.wtp_webtransport.specs.declared.fault.Fault.TheVariants as fault
use Rattle.wtp_webtransport.specs.declared.stream.Stream.{Stream}
use Rattle.wtp_webtransport.specs.Events.{Told as Say, More}
use Rattle.wtp_webtransport.specs.Fault.{scope_of}
use Rattle.wtp_webtransport.specs.Joining.{Outcome, Taken, joining_of, joined_by, joins, reset_in, reset_by, resets, abandoned_by, abandons, overflowed_by, overflows, rejected_by, rejects, is_request, is_beyond, stops_half, stopped_by, stops, taken_of, after_taken, taken_by, after_datagram}
use Rattle.wtp_webtransport.specs.Receiving.{closed_in, closed_by}
use Rattle.wtp_webtransport.specs.Streams.{with_streams, accepted, is_held, is_done}
use Rattle.wtp_webtransport.specs.Tables.{told_last, too_many_blocked}
use Rattle.vesgrauf_queue.specs.State.{waiting}
use Rattle.vesgrauf.specs.Instructions.{Table, table_by}
use Rattle.vesgrauf.specs.State.{View}

-- that of a view
abbrev pub table_in : View → Table
table_in v = table_by v.shared (waiting v.decoder.queue ++ v.told)

-- the table, and the section that was read with it, are what they were
abbrev pub IsSameTable : Shared → Shared → Type 0
IsSameTable c d = (d.decoder ≡ c.decoder) × (d.read ≡ c.read)

pub same_table : (c d : Shared) (bytes : List ℕ) → IsSameTable c d → table_by d bytes ≡ table_by c bytes
same_table c d bytes h = rw (h.0, h.1) refl

-- what a call says of itself, of which the second part is the connection after it
pub told_table : (c d : Shared) {a : Say} {s : Stream} {x : Outcome} → (a, d, s) ≡ x → IsSameTable c x.1
    → IsSameTable c d
told_table c d h same = subst (λ o. IsSameTable c o) (sym (ap (λ p. p.1) h)) same

closed_as : (c : Shared) (f : Fault) (x : ErrorScope) → IsSameTable c (closed_in c f x).0
closed_as c f scope.Stream = (refl, refl)
closed_as c f other = (refl, refl)

closed_same : (c : Shared) (f : Fault) → IsSameTable c (closed_by c f).0
closed_same c f = closed_as c f (scope_of f)

-- ---- a session is joined

joined_same : (c : Shared) (s : Stream) (before : Option ℕ) (x : After) → IsSameTable c (joined_by c s before x).1
joined_same c s before (d, t, None) = (refl, refl)
joined_same c s before (d, t, Some f) = closed_same (with_streams c d) (fault.Streams f)

joins_if : (b : Bool) (c : Shared) (s : Stream) (k : Known)
    → IsSameTable c (if b then (More, c, s) else joined_by c s (joining_of s.frames) (joins_streams c.streams s.frames k)).1
joins_if true c s k = (refl, refl)
joins_if false c s k = joined_same c s (joining_of s.frames) (joins_streams c.streams s.frames k)

pub joins_same : (c : Shared) (s : Stream) (k : Known) → IsSameTable c (joins c s k).1
joins_same c s k = joins_if c.over c s k

-- ---- a stream is reset

reset_in_same : (x : ErrorScope) (held : Bool) (c : Shared) (s : Stream) (f : StreamsFault)
    → IsSameTable c (reset_in x held c s f).1
reset_in_same scope.Stream held c s f = (refl, refl)
reset_in_same other held c s f = closed_same c (fault.Streams f)

reset_same : (held : Bool) (c : Shared) (s : Stream) (x : After) → IsSameTable c (reset_by held c s x).1
reset_same held c s (d, t, None) = (refl, refl)
reset_same held c s (d, t, Some f) = reset_in_same (streams_scope f) held (with_streams c d) _ f

resets_if : (b : Bool) (c : Shared) (s : Stream)
    → IsSameTable c (if b then (More, c, s) else reset_by (is_held s.part) c s (resets_frames c.streams s.frames)).1
resets_if true c s = (refl, refl)
resets_if false c s = reset_same (is_held s.part) c s (resets_frames c.streams s.frames)

pub resets_same : (c : Shared) (s : Stream) → IsSameTable c (resets c s).1
resets_same c s = resets_if (c.over || is_done s.part s.frames) c s

-- ---- one is read no further, or stopped

abandons_if : (b : Bool) (c : Shared) (s : Stream)
    → IsSameTable c (if b then (More, c, s) else abandoned_by c s (abandons_frames c.streams s.frames)).1
abandons_if true c s = (refl, refl)
abandons_if false c s = (refl, refl)

pub abandons_same : (c : Shared) (s : Stream) → IsSameTable c (abandons c s).1
abandons_same c s = abandons_if c.over c s

stops_if : (b : Bool) (c : Shared) (s : Stream) → IsSameTable c (if b then abandons c s else (More, c, s)).1
stops_if true c s = abandons_same c s
stops_if false c s = (refl, refl)

pub stops_same : (c : Shared) (s : Stream) → IsSameTable c (stops_half c s).1
stops_same c s = stops_if (is_held s.part) c s

overflowed_same : (c : Shared) (s : Stream) (x : After) → IsSameTable c (overflowed_by c s x).1
overflowed_same c s (d, t, None) = (refl, refl)
overflowed_same c s (d, t, Some f) = closed_same (with_streams c d) (fault.Streams f)

overflows_if : (b : Bool) (c : Shared) (s : Stream)
    → IsSameTable c (if b then (More, c, s) else overflowed_by c s (overflows_frames c.streams s.frames)).1
overflows_if true c s = (refl, refl)
overflows_if false c s = overflowed_same c s (overflows_frames c.streams s.frames)

pub overflows_same : (c : Shared) (s : Stream) → IsSameTable c (overflows c s).1
overflows_same c s = overflows_if c.over c s

rejects_if : (b : Bool) (c : Shared) (s : Stream)
    → IsSameTable c (if b then rejected_by c s (abandons_frames c.streams s.frames) else (More, c, s)).1
rejects_if true c s = (refl, refl)
rejects_if false c s = (refl, refl)

pub rejects_same : (c : Shared) (s : Stream) (id : ℕ) (goaway : Option ℕ) → IsSameTable c (rejects c s id goaway).1
rejects_same c s id goaway =
    rejects_if (not c.over && (is_request c.endpoint.side s.part && is_beyond goaway id)) c s

-- ---- calls without a stream of the peer

stopped_same : (c : Shared) (x : Streams × Option StreamsFault) → IsSameTable c (stopped_by c x).0
stopped_same c (d, None) = (refl, refl)
stopped_same c (d, Some f) = closed_same (with_streams c d) (fault.Streams f)

stopped_if : (b : Bool) (c : Shared) (own : Purpose)
    → IsSameTable c (if b then (c, None) else stopped_by c (stops_streams c.streams own)).0
stopped_if true c own = (refl, refl)
stopped_if false c own = stopped_same c (stops_streams c.streams own)

pub own_stopped_same : (c : Shared) (own : Purpose) → IsSameTable c (stops c own).0
own_stopped_same c own = stopped_if c.over c own

taken_same : (c : Shared) (x : Taken) → IsSameTable c (after_taken c x)
taken_same c (Ok d) = (refl, refl)
taken_same c (Err f) = closed_same c f

datagram_if : (b : Bool) (c : Shared) (bytes : List ℕ)
    → IsSameTable c (if b then c else taken_by c (streams_taken c.streams bytes))
datagram_if true c bytes = (refl, refl)
datagram_if false c bytes =
    taken_same (with_streams c (streams_after c.streams (streams_taken c.streams bytes))) (taken_of (streams_taken c.streams bytes))

pub datagram_same : (c : Shared) (bytes : List ℕ) → IsSameTable c (after_datagram c bytes)
datagram_same c bytes = datagram_if c.over c bytes

blocked_if : (b : Bool) (c : Shared)
    → IsSameTable c (if b then (More, c) else told_last (closed_by c (fault.TableSection TooManyBlocked))).1
blocked_if true c = (refl, refl)
blocked_if false c = closed_same c (fault.TableSection TooManyBlocked)

pub blocked_same : (c : Shared) → IsSameTable c (too_many_blocked c).1
blocked_same c = blocked_if c.over c
