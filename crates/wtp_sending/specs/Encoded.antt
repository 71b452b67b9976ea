-- HEADERS whose sections refer to the dynamic table: what is proposed to the encoder, what is written,
-- and what the encoder is then (RFC 9204, sections 2.1 and 4.5; RFC 9114, section 4.1).
use Rattle.std.specs.Prelude.{◌≡◌, ◌⊎◌, ℕ, ◌<◌, ◌≤◌, ◌^◌, List, [], ◌∷◌, ◌++◌, map, length, take, Option, Result, Ok}
use Rattle.wtp_core.specs.Writer.{LacksRoom}
use Rattle.wtp_wire.specs.Content.{HeadersOf}
use Rattle.wtp_wire.specs.Wire.{wire}
use Rattle.wtp_qpack.specs.Field.{Field}
use Rattle.wtp_fields.specs.FieldList.{list_size}
use Rattle.wtp_frames.specs.declared.endpoint.Endpoint.{Endpoint}
use Rattle.wtp_frames.specs.declared.reader.Reader.{Reader}
use Rattle.wtp_frames.specs.Grammar.{section_item}
use Rattle.wtp_frames.specs.Run.{run, preceded}
use Rattle.wtp_dynamic_encoder.specs.declared.proposal.Indexing.{Indexing}
use Rattle.wtp_dynamic_encoder.specs.declared.proposal.Proposal.{Proposal}
use Rattle.wtp_dynamic_encoder.specs.Acknowledging.{Ledger}
use Rattle.wtp_dynamic_encoder.specs.Choosing.{field_of}
use Rattle.wtp_dynamic_encoder.specs.Encoding.{State, AreOffered, Ordered, Encodes, IsSent}
use Rattle.wtp_sending.specs.declared.error.SendError.{SendError}
use Rattle.wtp_sending.specs.declared.error.SendError.TheVariants as error
use Rattle.wtp_sending.specs.declared.message.Place.TheVariants.{Head, Content, Trailers}
use Rattle.wtp_sending.specs.declared.message.Sending.{Sending}
use Rattle.wtp_sending.specs.Indexing.{indexing_of}
use Rattle.wtp_sending.specs.Message.{interims_of, IsHead, MayBeHead, RefusesHead, AreTrailers, MayBeTrailers, RefusesTail}
use Rattle.wtp_sending.specs.Sent.{IsAfter}

-- ---- what is proposed

-- a field that is proposed, and how it is indexed
abbrev pub proposed : Proposal → Field × Indexing
proposed proposal = (field_of proposal, proposal.indexing)

abbrev pub with_indexing : Field → Field × Indexing
with_indexing field = (field, indexing_of field)

-- proposals of these fields, in their order
abbrev pub AreProposals : List Field → List Proposal → Type 0
AreProposals fields proposals = map proposed proposals ≡ map with_indexing fields

-- ---- the encoder

-- a call that succeeded
abbrev pub done : Result (Unit {0}) SendError
done = Ok tt

-- the fields were encoded as this section of a stream
pub record IsEncoded (stream : ℕ) (fields : List Field) (old new : State) (before after : List ℕ)
    (section : List ℕ) : Type 0 where
  pub proposals : List Proposal
  pub are : AreProposals fields proposals
  pub encodes : Encodes stream proposals old new before after [] section done

-- what the encoder wrote of it
abbrev pub sent_in : (stream : ℕ) (fields : List Field) (old new : State) (before after : List ℕ)
    (section : List ℕ) (encoded : IsEncoded stream fields old new before after section)
    → IsSent stream old.most old.policy encoded.proposals new.table old.ledger new.ledger [] section
sent_in stream fields old new before after section encoded = encoded.encodes.4.1

-- the encoder with these unacknowledged sections
abbrev pub with_ledger : State → Ledger → State
with_ledger state ledger = record state { ledger = ledger }

-- The fields were encoded as this section of a stream, which was then taken back: the sections that
-- are not acknowledged are those of before.
abbrev pub IsTakenBack : (stream : ℕ) → List Field → (old new : State) → (before after : List ℕ)
    → (section : List ℕ) → Type 0
IsTakenBack stream fields old new before after section =
    (ledger : Ledger)
    × IsEncoded stream fields old (with_ledger new ledger) before after section
    × (new.ledger ≡ old.ledger)

-- Allocation failed: only the first so many fields were offered to the table, and the sections that
-- are not acknowledged are those of before.
pub record IsStopped (fields : List Field) (old new : State) (before after : List ℕ) : Type 0 where
  pub offered : List Proposal
  pub are : AreProposals (take (length offered) fields) offered
  pub inserts : AreOffered old.policy offered old.ledger old.table new.table before after
  pub orders : Ordered old.table new.table before after
  pub same : new ≡ record old { table = new.table }

-- nothing was encoded
abbrev pub IsIdle : (old new : State) → (before after : List ℕ) → Type 0
IsIdle old new before after = (new ≡ old) × (after ≡ before)

-- ---- the frame

-- the HEADERS frame of a section
abbrev pub section_wire : List ℕ → List ℕ
section_wire section = wire (HeadersOf section)

-- why the frame of a section is not written; allocation may fail
abbrev pub LacksFrame : List ℕ → Option (List ℕ) → SendError → Type 0
LacksFrame section room error.TooLarge = 2 ^ 62 ≤ length section
LacksFrame section room error.EndOfBuffer = LacksRoom room (length (section_wire section))
LacksFrame section room error.Memory = Unit {0}
LacksFrame section room other = ⊥

-- Why the frame of fields that may be sent is not written, and what the encoder is then. Allocation
-- may fail.
abbrev pub LacksEncoded : (stream : ℕ) → List Field → (old new : State) → (before after : List ℕ)
    → Option (List ℕ) → SendError → Type 0
LacksEncoded stream fields old new before after room error.TooLarge =
    (section : List ℕ) × IsTakenBack stream fields old new before after section
    × (2 ^ 62 ≤ length section)
LacksEncoded stream fields old new before after room error.EndOfBuffer =
    (section : List ℕ) × IsTakenBack stream fields old new before after section
    × LacksRoom room (length (section_wire section))
LacksEncoded stream fields old new before after room error.Memory =
    IsStopped fields old new before after
LacksEncoded stream fields old new before after room other = ⊥

-- ---- the head of a message

-- the fields are sent in this section as the head of the message, or as an interim response
pub record SendsHeadAs (section : List ℕ) (old : Sending) (fields : List Field) (new : Sending) :
    Type 0 where
  pub at : old.place ≡ Head (interims_of old.place)
  pub fits : list_size fields ≤ old.peer.max_section
  pub framed : length section < 2 ^ 62
  pub head : IsHead old (interims_of old.place) fields new.message new.place
  pub others : new ≡ record old { message = new.message; place = new.place }

-- Why HEADERS of a head are refused: it may not be sent, and the encoder is not asked; or else its frame
-- is not written.
abbrev pub RefusesHeadersWith : Sending → List Field → (old new : State) → (before after : List ℕ)
    → Option (List ℕ) → SendError → Type 0
RefusesHeadersWith s fields old new before after room error.TooLarge =
    (RefusesHead s fields error.TooLarge × IsIdle old new before after)
    ⊎ (MayBeHead s fields × LacksEncoded s.id fields old new before after room error.TooLarge)
RefusesHeadersWith s fields old new before after room error.EndOfBuffer =
    MayBeHead s fields × LacksEncoded s.id fields old new before after room error.EndOfBuffer
RefusesHeadersWith s fields old new before after room error.Memory =
    MayBeHead s fields × LacksEncoded s.id fields old new before after room error.Memory
RefusesHeadersWith s fields old new before after room other =
    RefusesHead s fields other × IsIdle old new before after

-- ---- trailers

-- the fields are sent in this section as the trailers of the message
pub record SendsTrailersAs (section : List ℕ) (old : Sending) (fields : List Field) (new : Sending) :
    Type 0 where
  pub at : old.place ≡ Content
  pub none : old.owed ≡ 0
  pub fits : list_size fields ≤ old.peer.max_section
  pub framed : length section < 2 ^ 62
  pub are : AreTrailers old fields new.message
  pub others : new ≡ record old { message = new.message; place = Trailers }

-- why trailers are refused, in the same way
abbrev pub RefusesTrailersWith : Sending → List Field → (old new : State)
    → (before after : List ℕ) → Option (List ℕ) → SendError → Type 0
RefusesTrailersWith s fields old new before after room error.TooLarge =
    (RefusesTail s fields error.TooLarge × IsIdle old new before after)
    ⊎ (MayBeTrailers s fields × LacksEncoded s.id fields old new before after room error.TooLarge)
RefusesTrailersWith s fields old new before after room error.EndOfBuffer =
    MayBeTrailers s fields × LacksEncoded s.id fields old new before after room error.EndOfBuffer
RefusesTrailersWith s fields old new before after room error.Memory =
    MayBeTrailers s fields × LacksEncoded s.id fields old new before after room error.Memory
RefusesTrailersWith s fields old new before after room other =
    RefusesTail s fields other × IsIdle old new before after

-- ---- the other end

-- The HEADERS frame of this section is read as it, whatever follows, and the reader goes on with the
-- sender.
pub record ReadsSection (e : Endpoint) (section : List ℕ) (new : Sending) (r : Reader) : Type 0 where
  pub next : Reader
  pub gives :
      (more : List ℕ)
      → run r (section_wire section ++ more)
      ≡ preceded (section_item e.max_section section ∷ []) (run next more)
  pub at : IsAfter e new.place new.owed next
