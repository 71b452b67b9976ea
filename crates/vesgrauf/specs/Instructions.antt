-- What the peer's encoder is told on the own decoder stream: that a field section was read, that a stream is left, and
-- how many entries were inserted (RFC 9204, sections 2.2.2 and 4.4).
use Rattle.std.specs.Prelude.{◌≡◌, ◌⊎◌, ◌==◌, ◌++◌, ℕ, if◌then◌else◌, Bool, true, false, List, [], ◌∷◌, Option, None, Some, option_map}
use Rattle.wtp_dynamic.specs.declared.acknowledgment.Acknowledgment.{Acknowledgment}
use Rattle.wtp_dynamic.specs.declared.acknowledgment.Acknowledgment.TheVariants as instruction
use Rattle.wtp_dynamic.specs.DecoderStream.{acknowledgment_bytes}
use Rattle.wtp_dynamic_decoder.specs.Decoder.{Decoder, incremented, cancelled, told as with_told}
use Rattle.wtp_webtransport.specs.declared.connection.Connection.{Connection as Shared}
use Rattle.wtp_webtransport.specs.declared.stream.Stream.{Stream}
use Rattle.wtp_webtransport.specs.declared.unacknowledged.Unacknowledged.{Unacknowledged}
use Rattle.wtp_webtransport.specs.Events.{Told as Say}
use Rattle.wtp_webtransport.specs.Events as say
use Rattle.wtp_webtransport.specs.Unacknowledged.{still_due}
use Rattle.wtp_webtransport.specs.Tables.{Call, due_read, after_read, due_inserts, after_inserts, due_cancel, after_cancel}
use Rattle.vesgrauf_queue.specs.State.{waiting}
use Rattle.vesgrauf_stream.specs.declared.bytes.Chunk.{Chunk}
use Rattle.vesgrauf_stream.specs.declared.heard.Heard.TheVariants as heard
use Rattle.vesgrauf_stream.specs.declared.reading.Found.{Found}
use Rattle.vesgrauf_stream.specs.declared.reading.Found.TheVariants as found
use Rattle.vesgrauf_stream.specs.declared.reading.Reading.{Reading}
use Rattle.vesgrauf_stream.specs.Reading.{Hears}
use Rattle.vesgrauf.specs.declared.config.Config.{Config}
use Rattle.vesgrauf.specs.declared.connection.Connection.{Connection}
use Rattle.vesgrauf.specs.declared.entry.Entry.{Entry}
use Rattle.vesgrauf.specs.State.{stream_at, view_of, with_stream, IsStill}

-- The own dynamic table, the section that was read with it and is not acknowledged, and the bytes that are still to be sent
-- on the own decoder stream: those that are queued there, and those that are queued next.
pub record Table : Type 0 where
  pub decoder : Option Decoder
  pub read : Option Unacknowledged
  pub bytes : List ℕ

abbrev pub table_by : Shared → List ℕ → Table
table_by c bytes = record { decoder = c.decoder; read = c.read; bytes = bytes }

abbrev pub table_of : Connection → Table
table_of c = table_by c.shared (waiting c.decoder.queue ++ c.told.items)

-- the first bytes of the own decoder stream: its type (section 4.2), if the peer may use a dynamic table
abbrev pub first_bytes : Config → List ℕ
first_bytes c = if c.qpack_max_table_capacity == 0 then [] else 0x03 ∷ []

-- nothing is to be acknowledged: there is no table, or no section that was read with it
abbrev pub IsPaid : Option Decoder → Option Unacknowledged → Type 0
IsPaid None read = Unit {0}
IsPaid (Some d) read = read ≡ None

-- ---- what is said

-- Reads: bytes of this stream are looked at, and the section that is read with the table is acknowledged. Leaves: this
-- stream is read no further. Counts: the insertions of which the peer's encoder does not know are counted.
pub data Deed : Type 0 where
  Reads : (id : ℕ) → Deed
  Leaves : (id : ℕ) → Deed
  Counts : Deed

-- A call of the layer below with bytes of a stream, from this table. If it read a section with the table, whose Required
-- Insert Count is not 0, its acknowledgment with the ID of the stream is said, and nothing else (section 4.4.1).
pub record Acknowledges (id : ℕ) (t u : Table) : Type 0 where
  pub limit : ℕ
  pub c : Shared
  pub d : Shared
  pub s : Stream
  pub n : Stream
  pub bytes : List ℕ
  pub fin : Bool
  pub consumed : ℕ
  pub say : Say
  pub from : c.decoder ≡ t.decoder
  pub gives : Call limit c s bytes fin (consumed, say, d, n)
  pub to : u ≡ table_by (after_read d.decoder d.read id d) (with_told t.bytes (due_read d.decoder d.read id))

-- the section that is to be acknowledged once a stream is left
abbrev pub read_after_leaving : Option Decoder → ℕ → Option Unacknowledged → Option Unacknowledged
read_after_leaving None id read = read
read_after_leaving (Some d) id read = still_due read id

-- the cancellation of a stream is said, if there is a table of a capacity above 0 (sections 2.2.2.2 and 4.4.2)
abbrev pub left : ℕ → Table → Table
left id t = record {
  decoder = option_map (λ d. cancelled id d) t.decoder;
  read = read_after_leaving t.decoder id t.read;
  bytes = with_told t.bytes (due_cancel t.decoder id);
}

-- how many insertions the peer's encoder does not know of is said, if there are any (section 4.4.3)
abbrev pub counted : Table → Table
counted t = record t {
  decoder = option_map (λ d. incremented d) t.decoder;
  bytes = with_told t.bytes (due_inserts t.decoder);
}

abbrev pub Does : Deed → Table → Table → Type 0
Does (Reads id) t u = Acknowledges id t u
Does (Leaves id) t u = u ≡ left id t
Does Counts t u = u ≡ counted t

-- these deeds, one after the other, and nothing else
abbrev pub Deeds : List Deed → Table → Table → Type 0
Deeds [] t u = u ≡ t
Deeds (x ∷ xs) t u = (m : Table) × Does x t m × Deeds xs m u

-- ---- the instructions

-- what a deed may say
abbrev pub IsSaidBy : Deed → Acknowledgment → Type 0
IsSaidBy (Reads id) a = a ≡ instruction.Section id
IsSaidBy (Leaves id) a = a ≡ instruction.Cancellation id
IsSaidBy Counts a = (n : ℕ) × (a ≡ instruction.Increment n)

-- the instructions of these deeds, in their order: one of each, or none
abbrev pub AreSaid : List Deed → List Acknowledgment → Type 0
AreSaid [] said = said ≡ []
AreSaid (x ∷ xs) said =
    AreSaid xs said
    ⊎ ((a : Acknowledgment) × (rest : List Acknowledgment) × (said ≡ a ∷ rest) × IsSaidBy x a × AreSaid xs rest)

-- their bytes
abbrev pub bytes_of_all : List Acknowledgment → List ℕ
bytes_of_all [] = []
bytes_of_all (a ∷ rest) = acknowledgment_bytes a ++ bytes_of_all rest

-- ---- and what is sent of them

-- Works: these deeds are done. Takes: QUIC takes these bytes of the own decoder stream.
pub data Turn : Type 0 where
  Works : (deeds : List Deed) → Turn
  Takes : (bytes : List ℕ) → Turn

-- the first bytes are taken, and nothing else changes
pub record Took (bytes : List ℕ) (t u : Table) : Type 0 where
  pub from : t.bytes ≡ bytes ++ u.bytes
  pub others : u ≡ record t { bytes = u.bytes }

abbrev pub Turns : List Turn → Table → Table → Type 0
Turns [] t u = u ≡ t
Turns (Works deeds ∷ turns) t u = (m : Table) × Deeds deeds t m × Turns turns m u
Turns (Takes bytes ∷ turns) t u = (m : Table) × Took bytes t m × Turns turns m u

abbrev pub all_deeds : List Turn → List Deed
all_deeds [] = []
all_deeds (Works deeds ∷ turns) = deeds ++ all_deeds turns
all_deeds (Takes bytes ∷ turns) = all_deeds turns

abbrev pub all_taken : List Turn → List ℕ
all_taken [] = []
all_taken (Works deeds ∷ turns) = all_taken turns
all_taken (Takes bytes ∷ turns) = bytes ++ all_taken turns

-- ---- what calls do

-- a piece of content, or of a stream of a session
abbrev pub is_piece : Say → Bool
is_piece (say.Data piece) = true
is_piece (say.StreamData piece) = true
is_piece other = false

abbrev pub is_found_piece : Found → Bool
is_found_piece (found.Heard (heard.Data piece)) = true
is_found_piece (found.Heard (heard.StreamData piece)) = true
is_found_piece other = false

-- What is next in the bytes of the stream with this ID is heard, in a connection that no error has ended, and the section
-- that was read with the table, if one was, is acknowledged after these bytes.
pub record HearsAndSays (id limit : ℕ) (c : Shared) (r : Reading) (i : Chunk) (before : List ℕ) (found : Found)
    (e : Shared) (s : Reading) (j : Chunk) (after : List ℕ) : Type 0 where
  pub d : Shared
  pub lives : c.over ≡ false
  pub hears : Hears limit c r i found d s j
  pub shared : e ≡ after_read d.decoder d.read id d
  pub bytes : after ≡ with_told before (due_read d.decoder d.read id)

-- The peer's encoder is told of the insertions, and nothing else changes.
abbrev pub TellsInserts : Connection → Connection → Type 0
TellsInserts c d = view_of d ≡ record (view_of c) {
  shared = after_inserts c.shared.decoder c.shared;
  told = with_told c.told.items (due_inserts c.shared.decoder);
}

-- It is told that a stream is left, if it is to be told, and is not to be told so again. Nothing else changes.
abbrev pub CancelsIf : Bool → Entry → ℕ → Connection → Connection → Type 0
CancelsIf true e id c d = view_of d ≡ record (with_stream (view_of c) id (record e { may_cancel = false })) {
  shared = after_cancel c.shared.decoder id c.shared;
  told = with_told c.told.items (due_cancel c.shared.decoder id);
}
CancelsIf false e id c d = IsStill c d

abbrev pub CancelsBy : Option Entry → ℕ → Connection → Connection → Type 0
CancelsBy None id c d = IsStill c d
CancelsBy (Some e) id c d = CancelsIf e.may_cancel e id c d

abbrev pub Cancels : ℕ → Connection → Connection → Type 0
Cancels id c d = CancelsBy (stream_at c id) id c d
