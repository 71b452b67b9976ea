-- Progress: what is so where nothing is left to be told, and where nothing is left to be sent.
use Rattle.std.specs.Prelude.{◌≡◌, ◌⊎◌, ◌≤◌, ℕ, Bool, true, false, List, [], length, Option, None, Some}
use Rattle.vesgrauf_queue.specs.State.{IsIdle}
use Rattle.vesgrauf_ready.specs.declared.rank.Rank.{Rank}
use Rattle.vesgrauf_ready.specs.Turns.{IsNext}
use Rattle.vesgrauf.specs.declared.connection.Connection.{Connection}
use Rattle.vesgrauf.specs.declared.connection.Ended.{Ended}
use Rattle.vesgrauf.specs.declared.critical.Critical.{Critical}
use Rattle.vesgrauf.specs.declared.entry.Entry.{Entry}
use Rattle.vesgrauf.specs.declared.input.Input.{Input}
use Rattle.vesgrauf.specs.declared.input.Report.TheVariants as report
use Rattle.vesgrauf.specs.Places.{is_later, is_sending}
use Rattle.vesgrauf.specs.Streams.{IsNotDue, ShowsOwn}
use Rattle.vesgrauf.specs.State.{stream_at}

-- ---- what is told

-- instructions are queued on the own stream of QPACK that they are for, if it has an ID
abbrev pub AreQueued : List ℕ → Critical → Type 0
AreQueued bytes c = (bytes ≡ []) ⊎ (c.id ≡ None)

-- both kinds of instructions are (RFC 9204, section 4.2)
abbrev pub IsInstructed : Connection → Type 0
IsInstructed c = AreQueued c.told.items c.decoder × AreQueued c.tools.instructions.items c.encoder

-- Nothing is due before an input: the connection is not over; no event is queued; no stream is being read again; the own
-- table was begun, if it is to be; what came before a session was told or dropped, if that is open or refused;
-- instructions are queued; and each stream that may be sent from has its place in the order of sending.
pub record IsQuiet (c : Connection) : Type 0 where
  pub lasts : c.ended ≡ None
  pub events : c.events.items ≡ []
  pub resumed : c.pending.resumed ≡ None
  pub table : c.pending.begins_table ≡ false
  pub sessions : c.datagrams.opened.items ≡ []
  pub instructed : IsInstructed c
  pub placed : c.unplaced ≡ None

-- Nothing is left of the connection: no stream but those that the peer keeps for it, and nothing that waits for QUIC.
abbrev pub IsSpent : Connection → Type 0
IsSpent c =
    (length c.streams.entries ≤ c.quiet)
    × IsIdle c.control.queue × IsIdle c.decoder.queue × IsIdle c.encoder.queue
    × (c.outputs.items ≡ []) × (c.datagrams.queue.items ≡ [])

-- Nothing is due without an input: each stream that waits was looked at since something came that it may wait for; each
-- stream that was full was, since QUIC took bytes of one; each request that a GOAWAY leaves was told to be over; and a
-- connection that was shut down is not spent.
pub record IsStill (c : Connection) : Type 0 where
  pub waits : c.pending.is_woken ≡ false
  pub room : c.pending.has_room ≡ false
  pub unprocessed : c.pending.unprocessed ≡ None
  pub leaving : c.is_leaving ≡ true → ¬ (IsSpent c)

-- nothing is due; or the connection is over, and its last event was told
abbrev pub IsSettledBy : Option Ended → Connection → Type 0
IsSettledBy (Some e) c = (e.is_told ≡ true) × (c.events.items ≡ [])
IsSettledBy None c = IsQuiet c × IsStill c

-- Nothing is left to be told: the input is taken in, and nothing is due.
pub record IsSettled (c : Connection) (i : Input) : Type 0 where
  pub taken : i.report ≡ report.Nothing
  pub rests : IsSettledBy c.ended c

-- ---- what is sent

-- it is the turn of the stream with this ID
pub data IsTurnOf (c : Connection) (id : ℕ) : Type 0 where
  Turns : (x : Rank) → x.id ≡ id → IsNext c.ready x → IsTurnOf c id

-- the next bytes are those of an own critical stream that is due, or it is the turn of this stream
abbrev pub IsTurn : Connection → (id : ℕ) → (bytes more : List ℕ) → (fin : Bool) → Type 0
IsTurn c id bytes more fin =
    ShowsOwn c.control id bytes more fin
    ⊎ (ShowsOwn c.decoder id bytes more fin ⊎ (ShowsOwn c.encoder id bytes more fin ⊎ IsTurnOf c id))

-- Of no stream is QUIC to take bytes, or the end, of which it may; but for one that is given its place in the order of
-- sending in the next step.
pub data NoneIsSending (c : Connection) : Type 0 where
  AllAreSent : ((id : ℕ) (e : Entry) → stream_at c id ≡ Some e → is_sending e ≡ true → is_later id c.unplaced ≡ true)
      → NoneIsSending c

-- nothing is to be sent: no own critical stream is due, and of the others none may be sent from
pub record IsSent (c : Connection) : Type 0 where
  pub control : IsNotDue c.control
  pub decoder : IsNotDue c.decoder
  pub encoder : IsNotDue c.encoder
  pub others : NoneIsSending c
