-- The dynamic table of a connection: its encoder stream, and what is due on the decoder stream (RFC 9204,
-- sections 2.1, 2.2, 4.3 and 4.4).
use Rattle.std.specs.Prelude.{◌≡◌, ℕ, min, if◌then◌else◌, Bool, List, ◌∷◌, length, Option, Some, None, Result, MatchResult}
use Rattle.wtp_dynamic.specs.declared.acknowledgment.Acknowledgment.{Acknowledgment}
use Rattle.wtp_dynamic.specs.declared.error.EncoderStreamError.{EncoderStreamError}
use Rattle.wtp_dynamic.specs.declared.error.SectionError.TheVariants.{TooManyBlocked}
use Rattle.wtp_dynamic.specs.Table.{insert_count}
use Rattle.wtp_dynamic_decoder.specs.Decoder.{Decoder, PieceRead, due_section, due_increment, due_cancellation, acknowledged, incremented, cancelled, told as with_told}
use Rattle.wtp_connection.specs.declared.stream.Stream.{Stream as Frames}
use Rattle.wtp_connection.specs.declared.stream.Stream.TheVariants as frames
use Rattle.wtp_webtransport.specs.declared.connection.Connection.{Connection}
use Rattle.wtp_webtransport.specs.declared.fault.Fault.TheVariants as fault
use Rattle.wtp_webtransport.specs.declared.stream.Stream.{Stream}
use Rattle.wtp_webtransport.specs.declared.unacknowledged.Unacknowledged.{Unacknowledged}
use Rattle.wtp_webtransport.specs.Unacknowledged.{due_on, still_due}
use Rattle.wtp_webtransport.specs.Events.{Told, Inserted, More}
use Rattle.wtp_webtransport.specs.Receiving.{Outcome, Receives, closed_by, fails}

-- ---- the encoder stream (section 4.3)

abbrev pub with_decoder : Connection → Decoder → Connection
with_decoder c d = record c { decoder = Some d }

-- the decoder for bytes of this stream: that of the connection, if the stream is the encoder stream and
-- bytes came
abbrev pub instructed_by : Option Decoder → Frames → List ℕ → Option Decoder
instructed_by d frames.Encoder (b ∷ bytes) = d
instructed_by d t bytes = None

-- after an error of the connection no instruction is read
abbrev pub instructed : Connection → Stream → List ℕ → Option Decoder
instructed c s bytes = if c.over then None else instructed_by c.decoder s.frames bytes

-- Instructions are read, however they are cut: their insertions are made. Or one of them is wrong, or there
-- is no memory for it, which ends the connection.
abbrev pub InstructionsGive : Decoder → Connection → Stream → List ℕ → Outcome → Type 0
InstructionsGive d c s bytes o =
    (e : Decoder)
    × (r : Result (Unit {0}) EncoderStreamError)
    × PieceRead d.progress bytes d e r
    × MatchResult r
    (λ _. o ≡ (length bytes, Inserted (insert_count e.table), with_decoder c e, s))
    (λ f. o ≡ fails (with_decoder c e) s (fault.Instructions f) (length bytes))

abbrev pub CallBy : Option Decoder → ℕ → Connection → Stream → List ℕ → Bool → Outcome → Type 0
CallBy None limit c s bytes fin o = Receives limit c s bytes fin o
CallBy (Some d) limit c s bytes fin o = InstructionsGive d c s bytes o

-- what was read before is no longer to be acknowledged
abbrev pub without_read : Connection → Connection
without_read c = record c { read = None }

-- What one call of a connection gives: bytes of the encoder stream go to the table, if one is allowed. After
-- it a section is to be acknowledged exactly if this call read it with the table.
abbrev pub Call : ℕ → Connection → Stream → List ℕ → Bool → Outcome → Type 0
Call limit c s bytes fin o =
    CallBy (instructed c s bytes) limit (without_read c) s bytes fin o

-- ---- the limits of a table

-- another state of the table of a connection: its limits are the same
pub record HasLimits (old new : Decoder) : Type 0 where
  pub limit : new.table.limit ≡ old.table.limit
  pub waiting : new.waiting ≡ old.waiting
  pub most : new.most ≡ old.most

-- there is a table exactly if there was one, with the same limits
abbrev pub KeepsLimits : Option Decoder → Option Decoder → Type 0
KeepsLimits None new = new ≡ None
KeepsLimits (Some old) None = ⊥
KeepsLimits (Some old) (Some new) = HasLimits old new

-- ---- the decoder stream (section 4.4)

-- the instruction that is due, if there is one, was appended to bytes; or one is due and allocation
-- failed, and nothing changed
abbrev pub Says : {E : Type 0} → Option Acknowledgment → (made old new : Connection)
    → (before after : List ℕ) → Result (Unit {0}) E → Type 0
Says due made old new before after result =
    MatchResult result (λ _. (new ≡ made) × (after ≡ with_told before due))
    (λ _. (instruction : Acknowledgment) × (due ≡ Some instruction) × (new ≡ old)
    × (after ≡ before))

-- no more insertions are acknowledged than there were
abbrev pub bounded : ℕ → Decoder → ℕ
bounded required d = min required (insert_count d.table)

-- the acknowledgment of a section that needed so many insertions
abbrev pub due_section_of : Decoder → Option ℕ → ℕ → Option Acknowledgment
due_section_of d None id = None
due_section_of d (Some required) id = due_section id (bounded required d)

-- that of the section that the last call read with the table (section 4.4.1), once, unless its stream was
-- cancelled since
abbrev pub due_read : Option Decoder → Option Unacknowledged → ℕ → Option Acknowledgment
due_read None read id = None
due_read (Some d) read id = due_section_of d (due_on read id) id

-- the table after it
abbrev pub acknowledged_by : Decoder → Option ℕ → Decoder
acknowledged_by d None = d
acknowledged_by d (Some required) = acknowledged (bounded required d) d

abbrev pub after_read : Option Decoder → Option Unacknowledged → ℕ → Connection → Connection
after_read None read id c = c
after_read (Some d) read id c =
    record c { decoder = Some (acknowledged_by d (due_on read id)); read = None }

-- the insertions of which the peer does not know that they were received (section 4.4.3)
abbrev pub due_inserts : Option Decoder → Option Acknowledgment
due_inserts None = None
due_inserts (Some d) = due_increment d

abbrev pub after_inserts : Option Decoder → Connection → Connection
after_inserts None c = c
after_inserts (Some d) c = with_decoder c (incremented d)

-- the cancellation of a stream that is read no further (section 4.4.2), after which no section of it is to
-- be acknowledged
abbrev pub due_cancel : Option Decoder → ℕ → Option Acknowledgment
due_cancel None id = None
due_cancel (Some d) id = due_cancellation id d

abbrev pub after_cancel : Option Decoder → ℕ → Connection → Connection
after_cancel None id c = c
after_cancel (Some d) id c =
    record c { decoder = Some (cancelled id d); read = still_due c.read id }

-- how many entries were inserted
abbrev pub inserts_of : Option Decoder → ℕ
inserts_of None = 0
inserts_of (Some d) = insert_count d.table

-- ---- too many streams wait (section 2.1.2)

abbrev pub told_last : Connection × Told → Told × Connection
told_last x = (x.1, x.0)

abbrev pub too_many_blocked : Connection → Told × Connection
too_many_blocked c =
    if c.over then (More, c) else told_last (closed_by c (fault.TableSection TooManyBlocked))
