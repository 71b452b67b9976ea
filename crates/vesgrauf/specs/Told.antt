-- What the program is told of the streams of a connection.
use Rattle.std.specs.Prelude.{◌≡◌, ◌⊎◌, ◌==◌, ◌+◌, ◌%◌, ◌++◌, ℕ, if◌then◌else◌, Bool, true, false, List, [], ◌∷◌, Option, None, Some, is_some, not, Result, Ok, Err}
use Rattle.std.specs.Ordering.{nat_cmp}
use Rattle.std.specs.BTreeMap.{is_at}
use Rattle.std.specs.Map.{set_value}
use Rattle.vesgrauf.specs.declared.entry.Told.{Told}
use Rattle.vesgrauf.specs.declared.entry.Told.TheVariants as told
use Rattle.vesgrauf.specs.declared.entry.Entry.{Entry}
use Rattle.vesgrauf.specs.declared.event.EventKind.{EventKind}
use Rattle.vesgrauf.specs.declared.event.EventKind.TheVariants as event
use Rattle.vesgrauf.specs.declared.event.Event.{Event}
use Rattle.vesgrauf.specs.declared.connection.Connection.{Connection}
use Rattle.vesgrauf.specs.declared.connection.Step.{Step}
use Rattle.vesgrauf.specs.declared.connection.Step.TheVariants as step
use Rattle.vesgrauf.specs.declared.connection.ids.Ids.{Ids}
use Rattle.vesgrauf.specs.Ids.{own_bit, peer_bit, was}
use Rattle.vesgrauf.specs.Members.{Linked}
use Rattle.vesgrauf.specs.Own.{entry_at}
use Rattle.vesgrauf.specs.State.{knows_of}
use Rattle.vesgrauf.specs.Streams.{is_told_over}

-- ---- one stream

-- What an event says of its stream: that there is something of it; that the peer violated a rule on it, of which the
-- program need not know; or that it is over.
pub data Word : Type 0 where
  Says : Word
  Fails : Word
  Closes : Word

-- an event of the connection says nothing of a stream
abbrev pub word_of : EventKind → Option Word
word_of (event.Ready settings) = None
word_of (event.GoAway first) = None
word_of event.Idle = None
word_of (event.ConnectionClosed code by_peer) = None
word_of event.DatagramsWritable = None
word_of (event.Openable kind) = None
word_of (event.Failed failure) = Some Fails
word_of (event.Closed why) = Some Closes
word_of other = Some Says

abbrev pub ends : Option Word → Bool
ends (Some Closes) = true
ends other = false

abbrev pub on_by : Option Word → Bool → List Word → List Word
on_by None here ws = ws
on_by (Some w) true ws = w ∷ ws
on_by (Some w) false ws = ws

-- what events say of the stream with this ID, in order
abbrev pub on : ℕ → List Event → List Word
on id [] = []
on id (e ∷ es) = on_by (word_of e.kind) (e.stream == id) (on id es)

-- what the program knows of a stream after it was told this
abbrev pub after : Word → Told → Told
after Says p = told.Known
after Fails p = p
after Closes p = told.Over

-- Without an event a stream stays what it is for the program, unless the program does not know of it: then the program may
-- open it, or it may be forgotten.
abbrev pub Stays : Told → Told → Type 0
Stays told.NotYet q = Unit {0}
Stays p q = q ≡ p

-- These words lead from one to the other. None follows the last one.
abbrev pub Path : Told → List Word → Told → Type 0
Path p [] q = Stays p q
Path p (w ∷ ws) q = (is_told_over p ≡ false) × Path (after w p) ws q

-- ---- all streams

abbrev pub ended_by : Option Entry → ℕ → List (ℕ × Entry) → List (ℕ × Entry)
ended_by None id es = es
ended_by (Some e) id es = set_value (is_at (nat_cmp id)) es (record e { told = told.Over })

-- the streams once the last event of this one is told, or queued
abbrev pub ended_at : List (ℕ × Entry) → ℕ → List (ℕ × Entry)
ended_at es id = ended_by (entry_at es id) id es

-- there is an entry, or there was a stream with this ID
abbrev pub status_by : Option Entry → Bool → Told
status_by (Some e) seen = e.told
status_by None true = told.Over
status_by None false = told.NotYet

-- what the program knows of the stream with this ID, once it is told what is queued
abbrev pub status_at : List (ℕ × Entry) → Ids → ℕ → Told
status_at es ids id = status_by (entry_at es id) (was ids id)

abbrev pub status_in : Option Entry → Option Told
status_in None = None
status_in (Some e) = Some e.told

-- there is an entry, and its last event was not queued
abbrev pub may_fail : Option Entry → Bool
may_fail None = false
may_fail (Some e) = not (is_told_over e.told)

abbrev pub knows : Connection → ℕ → Bool
knows c id = knows_of (entry_at c.streams.entries id)

-- the entry of this stream is this now, and those of others are what they were
abbrev pub Sets : ℕ → Option Entry → (es fs : List (ℕ × Entry)) → Type 0
Sets id w es fs = (k : ℕ) → entry_at fs k ≡ (if is_at (nat_cmp id) k then w else entry_at es k)

-- the entries of other streams are what they were
abbrev pub AreOthers : ℕ → (es fs : List (ℕ × Entry)) → Type 0
AreOthers id es fs = (k : ℕ) → is_at (nat_cmp id) k ≡ false → entry_at fs k ≡ entry_at es k

-- and none of this stream is there, unless it is what it was
abbrev pub IsUndone : ℕ → (es fs : List (ℕ × Entry)) → Type 0
IsUndone id es fs = AreOthers id es fs × ((entry_at fs id ≡ entry_at es id) ⊎ (entry_at fs id ≡ None))

-- the next IDs are of their kinds (RFC 9000, section 2.1)
pub record AreIds (ids : Ids) : Type 0 where
  pub own_both : ids.bidirectional % 4 ≡ own_bit ids.side
  pub own_one : ids.unidirectional % 4 ≡ own_bit ids.side + 2
  pub peer_both : ids.peer_bidirectional % 4 ≡ peer_bit ids.side
  pub peer_one : ids.peer_unidirectional % 4 ≡ peer_bit ids.side + 2

-- there was each stream of which there is an entry, and each stream of a session is noted as one of it
pub record Sound (es : List (ℕ × Entry)) (ids : Ids) : Type 0 where
  pub ids_are : AreIds ids
  pub were : (id : ℕ) → is_some (entry_at es id) ≡ true → was ids id ≡ true
  pub linked : Linked es ids

-- From these streams, IDs and queued events to those, where the program was told this meanwhile. What it is told of a
-- stream leads on to what it knows of it once it is told what is queued. What was seen stays so.
pub record Goes (said : List Event) (es : List (ℕ × Entry)) (ids : Ids) (q : List Event)
    (fs : List (ℕ × Entry)) (jds : Ids) (r : List Event) : Type 0 where
  pub seen : (id : ℕ) → was ids id ≡ true → was jds id ≡ true
  pub sound : Sound es ids → Sound fs jds
  pub told : Sound es ids → (id : ℕ) (p : Told) → Path p (on id q) (status_at es ids id)
      → Path p (on id (said ++ r)) (status_at fs jds id)

abbrev pub GoesOn : List Event → Connection → Connection → Type 0
GoesOn said c d = Goes said c.streams.entries c.ids c.events.items d.streams.entries d.ids d.events.items

-- what a step tells
abbrev pub said_in : Step → List Event
said_in (step.Told e) = e ∷ []
said_in other = []

abbrev pub said_by : {E : Type 0} → Result Step E → List Event
said_by (Ok s) = said_in s
said_by (Err e) = []

abbrev pub said_if : Option Step → List Event
said_if (Some s) = said_in s
said_if None = []

abbrev pub said_if_ok : {E : Type 0} → Result (Option Step) E → List Event
said_if_ok (Ok s) = said_if s
said_if_ok (Err e) = []

-- what a call tells
abbrev pub told_now : Option Event → List Event
told_now (Some e) = e ∷ []
told_now None = []

abbrev pub told_by_call : {E : Type 0} → Result (Option Event) E → List Event
told_by_call (Ok r) = told_now r
told_by_call (Err e) = []
