-- QPACK's dynamic table in memory of the caller (RFC 9204, sections 3.2 and 4.4): two words for the
-- section that is to be acknowledged, and then the bytes of a decoder.
use Rattle.std.specs.Prelude.{◌≡◌, ℕ, ◌+◌, ◌^◌, ◌<◌, ◌≤◌, List, [], ◌++◌, length, drop, Option, Some, None}
use Rattle.wtp_dynamic.specs.declared.acknowledgment.Acknowledgment.{Acknowledgment}
use Rattle.wtp_dynamic.specs.Table.{empty_table}
use Rattle.wtp_dynamic_decoder.specs.Decoder.{Decoder, Runs, due_increment, due_cancellation, incremented, cancelled, told}
use Rattle.wtp_dynamic.specs.Stored.{word}
use Rattle.wtp_dynamic_decoder.specs.Stored.{decoder_bytes, most_stored, IsDecoder}
use Rattle.wtp_webtransport.specs.declared.connection.Connection.{Connection}
use Rattle.wtp_webtransport.specs.declared.unacknowledged.Unacknowledged.{Unacknowledged}
use Rattle.wtp_webtransport.specs.Unacknowledged.{due_on, still_due}
use Rattle.wtp_webtransport.specs.Tables.{due_section_of, acknowledged_by}
use Rattle.wt_c.specs.declared.connections.table.TableCall.{TableCall}
use Rattle.wt_c.specs.declared.connections.table.TableCall.TheVariants as call
use Rattle.wt_c.specs.Output.{WritesPrefix, TooShort}

-- ---- the bytes

-- 1, or 2 and the ID of the stream that was cancelled since
abbrev pub due_flag : Option ℕ → ℕ
due_flag None = 1
due_flag (Some id) = 2 + id

-- how many insertions the section needed that is to be acknowledged: a flag and their number, or 0 and 0
abbrev pub due_bytes : Option Unacknowledged → List ℕ
due_bytes None = word 0 ++ word 0
due_bytes (Some u) = word (due_flag u.cancelled) ++ word u.required

abbrev pub table_bytes : Decoder → Option Unacknowledged → List ℕ
table_bytes d due = due_bytes due ++ decoder_bytes d

-- the room that a table with this limit of its capacity needs: no state of it needs more
abbrev pub room_for : ℕ → ℕ
room_for limit = 16 + most_stored limit

-- the ID of a stream
abbrev pub IsStreamId : Option ℕ → Type 0
IsStreamId None = Unit {0}
IsStreamId (Some id) = id < 2 ^ 62

-- it fits the words
abbrev pub IsCount : Option Unacknowledged → Type 0
IsCount None = Unit {0}
IsCount (Some u) = (u.required < 2 ^ 64) × IsStreamId u.cancelled

-- a table, with what is to be acknowledged, is at the start of these bytes, which have room for each
-- state of it
pub record IsTable (d : Decoder) (due : Option Unacknowledged) (bytes : List ℕ) : Type 0 where
  pub is : IsDecoder d
  pub count : IsCount due
  pub room : room_for d.table.limit ≤ length bytes
  pub rest : List ℕ
  pub bytes_are : bytes ≡ table_bytes d due ++ rest

-- no table is
pub record IsNoTable (bytes : List ℕ) : Type 0 where
  pub none : (d : Decoder) (due : Option Unacknowledged) → ¬ (IsTable d due bytes)

-- a table was put to the start of bytes, and what follows it is unchanged
pub record PutsTable (d : Decoder) (due : Option Unacknowledged) (old new : List ℕ) : Type 0 where
  pub is : IsTable d due new
  pub rest_is : drop (length (table_bytes d due)) new ≡ drop (length (table_bytes d due)) old

-- a table of this capacity into which nothing was inserted
abbrev pub new_table : ℕ → Decoder
new_table capacity = record {
  table = empty_table capacity;
  progress = Runs [];
  known = 0;
  waiting = [];
  most = 0;
}

-- ---- the table of a connection

-- it is in these bytes, of which there are none without a table
abbrev pub HasTableBy : Option Decoder → Option Unacknowledged → List ℕ → Type 0
HasTableBy None due bytes = (due ≡ None) × (bytes ≡ [])
HasTableBy (Some d) due bytes = IsTable d due bytes

abbrev pub HasTable : Connection → List ℕ → Type 0
HasTable c bytes = HasTableBy c.decoder c.read bytes

-- These are its bytes, and none without a table. A table of which no stream waits is stored.
abbrev pub IsStoredBy : Option Decoder → Option Unacknowledged → List ℕ → Type 0
IsStoredBy None due bytes = bytes ≡ []
IsStoredBy (Some d) due bytes =
    (bytes ≡ table_bytes d due)
    × IsCount due
    × (length bytes ≤ room_for d.table.limit)
    × (d.waiting ≡ [] → d.most ≡ 0 → IsDecoder d)

-- it was put there
abbrev pub LeavesTableBy : Option Decoder → Option Unacknowledged → (old new : List ℕ) → Type 0
LeavesTableBy None due old new = new ≡ old
LeavesTableBy (Some d) due old new = PutsTable d due old new

abbrev pub LeavesTable : Connection → (old new : List ℕ) → Type 0
LeavesTable c old new = LeavesTableBy c.decoder c.read old new

-- ---- what is due on the own decoder stream

-- the instruction that is due, and the table after it
abbrev pub Change : Type 0
Change = Option Acknowledgment × Decoder × Option Unacknowledged

-- the acknowledgment of the section that was read, once, unless its stream was cancelled since
abbrev pub acknowledges : ℕ → Decoder → Option Unacknowledged → Change
acknowledges id d due =
    (due_section_of d (due_on due id) id, acknowledged_by d (due_on due id), None)

-- the insertions of which the peer does not know that they were received
abbrev pub increments : Decoder → Option Unacknowledged → Change
increments d due = (due_increment d, incremented d, due)

-- the cancellation of a stream, of which no section is to be acknowledged after it
abbrev pub cancels : ℕ → Decoder → Option Unacknowledged → Change
cancels id d due = (due_cancellation id d, cancelled id d, still_due due id)

abbrev pub change_of : TableCall → Decoder → Option Unacknowledged → Change
change_of (call.Acknowledge id) d due = acknowledges id d due
change_of call.Increment d due = increments d due
change_of (call.Cancel id) d due = cancels id d due

-- the instruction was written, and the table after it was put to its place
pub record WritesDue (change : Decoder → Option Unacknowledged → Change) (table table_after out out_after : List ℕ)
    (used : ℕ) : Type 0 where
  pub d : Decoder
  pub due : Option Unacknowledged
  pub is : IsTable d due table
  pub written : WritesPrefix (told [] (change d due).0) out out_after used
  pub after : PutsTable (change d due).1 (change d due).2 table table_after

-- there is no room for it
pub record LacksRoom (change : Decoder → Option Unacknowledged → Change) (table out out_after : List ℕ)
    (needed : ℕ) : Type 0 where
  pub d : Decoder
  pub due : Option Unacknowledged
  pub is : IsTable d due table
  pub short : TooShort (told [] (change d due).0) out out_after needed

-- what is known of a table
pub record Counts (table : List ℕ) (count : Decoder → ℕ) (result : ℕ) : Type 0 where
  pub d : Decoder
  pub due : Option Unacknowledged
  pub is : IsTable d due table
  pub counts : result ≡ count d
