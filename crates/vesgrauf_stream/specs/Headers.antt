-- HEADERS on the own half of a stream, in sections of the connection's encoder (RFC 9114, section 4.1; RFC 9204, sections
-- 2.1 and 4.5).
use Rattle.std.specs.Prelude.{◌≡◌, ◌⊎◌, ℕ, Bool, true, List, length, None, Result, Ok, Err}
use Rattle.wtp_qpack.specs.Field.{Field}
use Rattle.wtp_dynamic_encoder.specs.Encoding.{State as Encoder, first_sections}
use Rattle.wtp_messages.specs.declared.message.Role.TheVariants as role
use Rattle.wtp_sending.specs.declared.error.SendError.{SendError}
use Rattle.wtp_sending.specs.declared.error.SendError.TheVariants.{Unexpected}
use Rattle.wtp_sending.specs.declared.message.Sending.{Sending}
use Rattle.wtp_sending.specs.declared.peer.Peer.{Peer}
use Rattle.wtp_sending.specs.Encoded.{section_wire, IsEncoded, IsIdle, IsTakenBack, SendsHeadAs, SendsTrailersAs, RefusesHeadersWith, RefusesTrailersWith}
use Rattle.wtp_sending.specs.Message.{sending_of}
use Rattle.vesgrauf_stream.specs.declared.error.NotSent.{NotSent}
use Rattle.vesgrauf_stream.specs.declared.error.NotSent.TheVariants as error
use Rattle.vesgrauf_stream.specs.declared.tools.Tools.{Tools}
use Rattle.vesgrauf_stream.specs.declared.writing.half.Half.{Half}
use Rattle.vesgrauf_stream.specs.declared.writing.half.Half.TheVariants as half
use Rattle.vesgrauf_stream.specs.declared.writing.Writing.{Writing}
use Rattle.vesgrauf_stream.specs.Errors.{and_then, sending}
use Rattle.vesgrauf_stream.specs.Writing.{is_none, open_if, message_of, open_half, message_at, ends_if, IsQueued, RefusesBy}

-- ---- the message

-- the message of a request, if none began
abbrev pub request_of : ℕ → Peer → Half → Result Sending NotSent
request_of id peer half.Idle = Ok (sending_of id (role.Request peer.extended_connect) peer)
request_of id peer other = Err (error.Send Unexpected)

-- it may be sent, or why not
abbrev pub request_at : Writing → ℕ → Peer → Result Sending NotSent
request_at w id peer = and_then (request_of id peer) (open_if (is_none w.half) w)

-- the response to a request that came, of which interim ones may have been sent
abbrev pub response_of : ℕ → Peer → Half → Result Sending NotSent
response_of id peer (half.Asked asked) = Ok (sending_of id (role.Response asked) peer)
response_of id peer other = message_of other

-- it may be sent, or why not
abbrev pub response_at : Writing → ℕ → Peer → Result Sending NotSent
response_at w id peer = and_then (response_of id peer) (open_half w)

-- ---- the encoder

-- the fields were encoded as this section of a stream
abbrev pub Encodes : ℕ → List Field → List ℕ → Tools → Tools → Type 0
Encodes stream fields section t u =
    IsEncoded stream fields t.encoder u.encoder t.instructions.items u.instructions.items section

-- they were, and the section was taken back
abbrev pub TakesBack : ℕ → List Field → List ℕ → Tools → Tools → Type 0
TakesBack stream fields section t u =
    IsTakenBack stream fields t.encoder u.encoder t.instructions.items u.instructions.items section

-- nothing was encoded
abbrev pub LeavesTools : Tools → Tools → Type 0
LeavesTools t u = IsIdle t.encoder u.encoder t.instructions.items u.instructions.items

-- the sections that are not acknowledged are the first so many
abbrev pub keeps_sections : ℕ → Encoder → Encoder
keeps_sections count e = record e { ledger = first_sections count e.ledger }

-- ---- one frame

-- How a section leads from one state of a message to another: that of `wtp_sending`.
abbrev pub Leading : Type 1
Leading = List ℕ → Sending → List Field → Sending → Type 0

-- The fields are queued as one HEADERS frame of this message, and then maybe the end.
pub record SendsFrame (F : Leading) (first : Sending) (fields : List Field) (fin : Bool) (t u : Tools) (old new : Writing) :
    Type 0 where
  pub section : List ℕ
  pub next : Sending
  pub last : Sending
  pub room : Bool
  pub leads : F section first fields next
  pub encodes : Encodes first.id fields section t u
  pub ends : ends_if fin next ≡ Ok last
  pub now : new.half ≡ half.Message last
  pub queued : IsQueued (section_wire section) room fin old new

-- The fields were encoded, and their section taken back: the end may not follow it, or else it is not queued.
abbrev pub RefusesEnd : Leading → Sending → List Field → (fin : Bool) → Tools → Tools → Writing → NotSent → Type 0
RefusesEnd F first fields fin t u w e =
    (section : List ℕ) × (next : Sending) × F section first fields next
    × TakesBack first.id fields section t u
    × RefusesBy (sending (ends_if fin next)) w (length (section_wire section)) e

-- Why no frame of this message is queued: `wtp_sending` refuses it, or the end that follows it; or else it is not queued.
abbrev pub RefusesFrame : Leading → (Sending → SendError → Type 0) → Sending → List Field → (fin : Bool) → Tools → Tools
    → Writing → NotSent → Type 0
RefusesFrame F G first fields fin t u w e =
    ((x : SendError) × (e ≡ error.Send x) × G first x) ⊎ RefusesEnd F first fields fin t u w e

-- ---- calls

-- the frame is queued if this is its message
abbrev pub SendsBy : Result Sending NotSent → Leading → List Field → (fin : Bool) → Tools → Tools → Writing → Writing
    → Type 0
SendsBy (Err r) F fields fin t u old new = ⊥
SendsBy (Ok first) F fields fin t u old new = SendsFrame F first fields fin t u old new

-- Why it is not: there is no message, and nothing is encoded; or it is refused.
abbrev pub RefusesFor : Result Sending NotSent → Leading → (Sending → SendError → Type 0) → List Field → (fin : Bool) → Tools
    → Tools → Writing → NotSent → Type 0
RefusesFor (Err r) F G fields fin t u w e = (e ≡ r) × LeavesTools t u
RefusesFor (Ok first) F G fields fin t u w e = RefusesFrame F G first fields fin t u w e

-- why `wtp_sending` refuses HEADERS of a head
abbrev pub RefusesAsHead : List Field → Tools → Tools → Sending → SendError → Type 0
RefusesAsHead fields t u s e =
    RefusesHeadersWith s fields t.encoder u.encoder t.instructions.items u.instructions.items None e

-- why it refuses trailers
abbrev pub RefusesAsTrailers : List Field → Tools → Tools → Sending → SendError → Type 0
RefusesAsTrailers fields t u s e =
    RefusesTrailersWith s fields t.encoder u.encoder t.instructions.items u.instructions.items None e

-- HEADERS of this message are queued, and then maybe the end
abbrev pub SendsHeaders : Result Sending NotSent → List Field → (fin : Bool) → Tools → Tools → Writing → Writing → Type 0
SendsHeaders message fields fin t u old new = SendsBy message SendsHeadAs fields fin t u old new

-- why they are not
abbrev pub RefusesHeaders : Result Sending NotSent → List Field → (fin : Bool) → Tools → Tools → Writing → NotSent → Type 0
RefusesHeaders message fields fin t u w e =
    RefusesFor message SendsHeadAs (RefusesAsHead fields t u) fields fin t u w e

-- trailers are queued, and the end
abbrev pub SendsTrailers : List Field → Tools → Tools → Writing → Writing → Type 0
SendsTrailers fields t u old new = SendsBy (message_at old) SendsTrailersAs fields true t u old new

-- why they are not
abbrev pub RefusesTrailers : List Field → Tools → Tools → Writing → NotSent → Type 0
RefusesTrailers fields t u w e =
    RefusesFor (message_at w) SendsTrailersAs (RefusesAsTrailers fields t u) fields true t u w e
