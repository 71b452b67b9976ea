-- Field sections as an encoder wrote them, at a connection that may have its table (RFC 9204, sections 2.2
-- and 4.5).
use Rattle.std.specs.Prelude.{◌≡◌, ◌⊎◌, ℕ, ◌-◌, ◌<◌, ◌≤◌, ◌^◌, ◌==◌, if◌then◌else◌, Bool, true, false, List, [], ◌++◌, length, Option, Some, None, Ok}
use Rattle.wtp_qpack.specs.Field.{Field}
use Rattle.wtp_fields.specs.FieldList.{Reaches}
use Rattle.wtp_dynamic.specs.Table.{Table, Later, insert_count, table_size}
use Rattle.wtp_dynamic.specs.EncoderState.{Encoder, Owes, IsOpen}
use Rattle.wtp_dynamic_decoder.specs.Decoder.{Decoder}
use Rattle.wtp_dynamic_encoder.specs.Encoding.{State, needed, sent_of}
use Rattle.wtp_dynamic_fields.specs.Reading.{HasLinesIn, IsBlockedIn}
use Rattle.wtp_frames.specs.declared.endpoint.Endpoint.{Endpoint}
use Rattle.wtp_sending.specs.Encoded.{IsEncoded, sent_in, section_wire}
use Rattle.wtp_webtransport.specs.declared.connection.Connection.{Connection}
use Rattle.wtp_webtransport.specs.declared.event.Waits.TheVariants as wait
use Rattle.wtp_webtransport.specs.declared.stream.Delay.TheVariants as delay
use Rattle.wtp_webtransport.specs.declared.stream.Stream.{Stream}
use Rattle.wtp_webtransport.specs.declared.stream.Unread.TheVariants as unread
use Rattle.wtp_webtransport.specs.Calls.{HasMemory}
use Rattle.wtp_webtransport.specs.Events.{Told, Waits}
use Rattle.wtp_webtransport.specs.Prefix.{names_table}
use Rattle.wtp_webtransport.specs.Receiving.{Outcome, Receives}
use Rattle.wtp_webtransport.specs.Unacknowledged.{just_read}
use Rattle.wtp_pairs.specs.Messages.{IsSectionRead}
use Rattle.wtp_pairs.specs.Reads.{IsGoing}

-- ---- the receiver

-- What a connection notes of a section that it read: nothing, or how many insertions it needed. It is then
-- to be acknowledged.
abbrev pub noted_in : Option ℕ → Connection → Connection
noted_in None c = c
noted_in (Some required) c = record c { read = Some (just_read required) }

-- a section that needs no insertions names no table
abbrev pub need_of : ℕ → Option ℕ
need_of required = if required == 0 then None else Some required

-- The lines of the section are these fields: it names no table; or it names the table, which is there with
-- all insertions that the section needs.
pub data HasFields (limit : ℕ) (table : Option Decoder) (section : List ℕ) (fields : List Field)
    (need : Option ℕ) : Type 0 where
  Alone : names_table section ≡ false → Reaches limit section fields [] → need ≡ None
      → HasFields limit table section fields need
  WithTable : (d : Decoder) (required : ℕ) → table ≡ Some d → names_table section ≡ true
      → HasLinesIn limit d.table section required (Ok fields) → need ≡ Some required
      → HasFields limit table section fields need

-- The receiver accepts a section of this size, and has what it needs to read it as these fields: its limits
-- are e.max_section for the encoded section, and `limit` for the decoded one.
pub record IsReadable (e : Endpoint) (limit : ℕ) (c : Connection) (section : List ℕ)
    (fields : List Field) (need : Option ℕ) : Type 0 where
  pub encoded : length section ≤ e.max_section
  pub has : HasFields limit c.decoder section fields need

-- The receiver accepts a section of this size, and lacks insertions that it needs.
pub record IsAhead (e : Endpoint) (c : Connection) (section : List ℕ) (required : ℕ) : Type 0 where
  pub encoded : length section ≤ e.max_section
  pub decoder : Decoder
  pub is : c.decoder ≡ Some decoder
  pub names : names_table section ≡ true
  pub blocked : IsBlockedIn decoder.table section required

-- a stream at a section of this size, which waits for so many insertions
abbrev pub waiting_at : Stream → (size required : ℕ) → Stream
waiting_at s size required = record s { unread = unread.Early size (delay.Table required) }

-- HEADERS of a section that the receiver can read with this connection: however they are cut, they give this
-- event. With a connection that lacks insertions, as an earlier one, the section waits, and the event comes
-- once it can be read.
pub record IsEncodedRead (e : Endpoint) (limit : ℕ) (c : Connection) (t : Stream) (section : List ℕ)
    (told : Told) (d : Connection) (u : Stream) : Type 0 where
  pub read : IsSectionRead limit c t (section_wire section) told d u
  pub held : Stream
  pub waits :
      (before : Connection) (required : ℕ) (more : List ℕ) (fin : Bool) (o : Outcome)
      → IsGoing before → IsAhead e before section required
      → Receives limit before t (section_wire section ++ more) fin o
      → o ≡ (
        length (section_wire section) - length section,
        Waits (wait.Table required),
        before,
        waiting_at held (length section) required,
      )
  pub resumed :
      (required : ℕ) (more : List ℕ) (fin : Bool) (o : Outcome)
      → Receives limit c (waiting_at held (length section) required) (section ++ more) fin o
      → HasMemory o → o ≡ (length section, told, d, u)

-- ---- both ends

-- A section was written, and is to be read. The encoder may have gone on, but the section is not
-- acknowledged. The table of the decoder follows that of the encoder: it has the entries of which the
-- encoder knows (RFC 9204, sections 2.1.1 and 2.1.4).
pub record IsUnderWay (stream : ℕ) (fields : List Field) (old new : State)
    (before after section : List ℕ)
    (encoded : IsEncoded stream fields old new before after section) (now : Encoder) (table : Table)
    : Type 0 where
  pub owes : Owes now
  pub kept :
      let sent = sent_in stream fields old new before after section encoded in
      (needed sent.plans ≡ 0) ⊎ IsOpen (sent_of stream sent.plans sent.lowest) now.sections
  pub later : Later new.table now.table
  pub behind : Later table now.table
  pub fits : table_size now.table.live ≤ now.table.limit
  pub known : now.known ≤ insert_count table
  pub few : insert_count new.table < 2 ^ 62
  pub limited : table.limit < 2 ^ 62

-- how many insertions it needs
abbrev pub needed_by : (stream : ℕ) (fields : List Field) (old new : State)
    (before after section : List ℕ)
    (encoded : IsEncoded stream fields old new before after section) → ℕ
needed_by stream fields old new before after section encoded =
    needed (sent_in stream fields old new before after section encoded).plans
