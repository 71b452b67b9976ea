-- What the program may count on of the halves of the streams that it knows of: none is reset, given up or left unread unless
-- it is told so, or an event is queued that says so.
use Rattle.std.specs.Prelude.{◌≡◌, ◌==◌, ◌++◌, ◌||◌, ℕ, if◌then◌else◌, Bool, true, false, List, [], ◌∷◌, Option, None, Some, not}
use Rattle.std.specs.Ordering.{nat_cmp}
use Rattle.std.specs.BTreeMap.{is_at}
use Rattle.vesgrauf.specs.declared.connection.Connection.{Connection}
use Rattle.vesgrauf.specs.declared.entry.Entry.{Entry}
use Rattle.vesgrauf.specs.declared.event.Event.{Event}
use Rattle.vesgrauf.specs.declared.event.EventKind.{EventKind}
use Rattle.vesgrauf.specs.declared.event.EventKind.TheVariants as event
use Rattle.vesgrauf.specs.Own.{Own, Over, Sends, own_in, entry_at}
use Rattle.vesgrauf.specs.State.{is_over, knows_of}
use Rattle.vesgrauf.specs.declared.entry.Peer.{Peer}
use Rattle.vesgrauf.specs.declared.entry.Peer.TheVariants as peer
use Rattle.vesgrauf.specs.Told.{GoesOn, Sound}

-- NotKnown: the program does not know of the stream, or was told that it is over. Has: it knows of it; whether its own half
-- was neither reset nor given up, and whether the peer's is read.
pub data Halves : Type 0 where
  NotKnown : Halves
  Has : (sends reads : Bool) → Halves

abbrev pub is_sending : Own → Bool
is_sending Over = false
is_sending (Sends put waits end) = true

-- the peer's half is read, as one of which bytes are unread, or may come to be (`Unread` in Theirs.antt)
abbrev pub reads_by : Peer → Bool → Bool
reads_by peer.Reads is_decoder = not is_decoder
reads_by other is_decoder = false

abbrev pub reads_in : Option Entry → Bool
reads_in None = false
reads_in (Some e) = reads_by e.peer e.is_decoder

abbrev pub halves_if : Bool → Own → Bool → Halves
halves_if true x reads = Has (is_sending x) reads
halves_if false x reads = NotKnown

abbrev pub halves_in : Option Entry → Halves
halves_in o = halves_if (knows_of o) (own_in o) (reads_in o)

abbrev pub halves_at : List (ℕ × Entry) → ℕ → Halves
halves_at es id = halves_in (entry_at es id)

-- ---- what events say of halves

-- that nothing more is sent on the own one, that the peer's is read no further, or that both are over
pub data Ending : Type 0 where
  OfOwn : Ending
  OfPeer : Ending
  OfBoth : Ending

-- an event that is queued
abbrev pub ending_queued : EventKind → Option Ending
ending_queued (event.Stopped code) = Some OfOwn
ending_queued (event.Reset code) = Some OfPeer
ending_queued (event.Closed why) = Some OfBoth
ending_queued other = None

-- one that is told: the end of the peer's half is read, and so never queued
abbrev pub ending_told : EventKind → Option Ending
ending_told event.End = Some OfPeer
ending_told other = ending_queued other

-- what the program may count on after that
abbrev pub after : Option Ending → Halves → Halves
after None h = h
after (Some w) NotKnown = NotKnown
after (Some OfOwn) (Has sends reads) = Has false reads
after (Some OfPeer) (Has sends reads) = Has sends false
after (Some OfBoth) (Has sends reads) = NotKnown

abbrev pub after_if : Bool → Option Ending → Halves → Halves
after_if true w h = after w h
after_if false w h = h

-- after these events, of which some are of the stream with this ID
abbrev pub after_told : ℕ → List Event → Halves → Halves
after_told id [] h = h
after_told id (e ∷ es) h = after_told id es (after_if (e.stream == id) (ending_told e.kind) h)

abbrev pub after_queued : ℕ → List Event → Halves → Halves
after_queued id [] h = h
after_queued id (e ∷ es) h = after_queued id es (after_if (e.stream == id) (ending_queued e.kind) h)

-- ---- steps

-- what the program counts on is so
abbrev pub Holds : Halves → Halves → Type 0
Holds NotKnown x = Unit {0}
Holds (Has sends reads) NotKnown = ⊥
Holds (Has sends reads) (Has s r) = (sends ≡ true → s ≡ true) × (reads ≡ true → r ≡ true)

-- that the program knows of it alone
abbrev pub alone : Halves → Halves
alone NotKnown = NotKnown
alone (Has sends reads) = Has false false

-- nothing is said of the halves of one stream
abbrev pub but_for : Option ℕ → ℕ → Halves → Halves
but_for None id h = h
but_for (Some k) id h = if is_at (nat_cmp k) id then alone h else h

-- From these streams and queued events to those, where the program was told this meanwhile. What it may count on once it
-- is told what is queued is so before, and after. No last event of a stream is lost.
pub record Lasts (but : Option ℕ) (said : List Event) (es : List (ℕ × Entry)) (q : List Event)
    (fs : List (ℕ × Entry)) (r : List Event) : Type 0 where
  pub holds : (id : ℕ) (h : Halves)
      → Holds (after_queued id q (but_for but id h)) (but_for but id (halves_at es id))
      → Holds (after_queued id r (after_told id said (but_for but id h))) (but_for but id (halves_at fs id))
  pub over : (id : ℕ) (h : Halves) → after_queued id q h ≡ NotKnown
      → after_queued id r (after_told id said h) ≡ NotKnown

-- of a connection that is not over afterwards
abbrev pub LastsOn : List Event → Connection → Connection → Type 0
LastsOn said c d = is_over d ≡ false → Sound c.streams.entries c.ids
    → Lasts None said c.streams.entries c.events.items d.streams.entries d.events.items

-- the same, but for one stream, that a call is about
abbrev pub LastsBut : ℕ → Connection → Connection → Type 0
LastsBut id c d = is_over d ≡ false → Sound c.streams.entries c.ids
    → Lasts (Some id) [] c.streams.entries c.events.items d.streams.entries d.events.items

-- ---- runs

-- Hears: a call of `next_event` tells these events. Calls: any other call, which may end halves of this stream, or of none.
pub data Turn : Type 0 where
  Hears : (said : List Event) → Turn
  Calls : (on : Option ℕ) → Turn

abbrev pub said_by : Turn → List Event
said_by (Hears said) = said
said_by (Calls on) = []

abbrev pub ends_on : Turn → Option ℕ
ends_on (Hears said) = None
ends_on (Calls on) = on

-- a turn after which the connection is not over, as the contract of the call says
pub record Takes (t : Turn) (c d : Connection) : Type 0 where
  pub remains : is_over d ≡ false
  pub goes : GoesOn (said_by t) c d
  pub lasts : Sound c.streams.entries c.ids
      → Lasts (ends_on t) (said_by t) c.streams.entries c.events.items d.streams.entries d.events.items

-- such turns, one after the other
abbrev pub Turns : List Turn → Connection → Connection → Type 0
Turns [] c d = d ≡ c
Turns (t ∷ turns) c d = (m : Connection) × Takes t c m × Turns turns m d

-- all that they told
abbrev pub told_by_all : List Turn → List Event
told_by_all [] = []
told_by_all (t ∷ turns) = said_by t ++ told_by_all turns

abbrev pub is_on : ℕ → Option ℕ → Bool
is_on id None = false
is_on id (Some k) = is_at (nat_cmp k) id

-- a call that may end halves of this stream is among them
abbrev pub may_end : ℕ → List Turn → Bool
may_end id [] = false
may_end id (t ∷ turns) = is_on id (ends_on t) || may_end id turns
