-- What may be sent on the stream of a message: interim responses, the head of the message, DATA
-- with its bytes, trailers, and the end (RFC 9114, sections 4.1 and 4.4).
use Rattle.std.specs.Prelude.{◌≡◌, ◌⊎◌, ℕ, ◌+◌, ◌-◌, ◌<◌, ◌≤◌, ◌^◌, ◌==◌, nat_lt, Bool, true, false, not, ◌&&◌, if◌then◌else◌, List, length, Option, Some, Result, Ok, Err}
use Rattle.wtp_core.specs.Writer.{LacksRoom}
use Rattle.wtp_wire.specs.Content.{HeadersOf}
use Rattle.wtp_wire.specs.Wire.{wire}
use Rattle.wtp_qpack.specs.Field.{Field}
use Rattle.wtp_qpack.specs.FieldSection.{shortest_section}
use Rattle.wtp_fields.specs.FieldList.{list_size}
use Rattle.wtp_messages.specs.declared.malformed.Malformed.TheVariants.{ContentTooLong, InvalidContentLength, MissingHead}
use Rattle.wtp_messages.specs.declared.message.Message.{Message}
use Rattle.wtp_messages.specs.declared.message.Role.{Role}
use Rattle.wtp_messages.specs.declared.message.Role.TheVariants as role
use Rattle.wtp_messages.specs.declared.message.Section.{Section}
use Rattle.wtp_messages.specs.declared.message.Section.TheVariants as found
use Rattle.wtp_messages.specs.declared.response.Asked.TheVariants as asked
use Rattle.wtp_messages.specs.declared.malformed.Malformed.{Malformed as Rule}
use Rattle.wtp_messages.specs.Content.{fits, left_after}
use Rattle.wtp_messages.specs.Message.{message_of, is_head_stage, end_of, SectionComes}
use Rattle.wtp_messages.specs.Request.{is_connect, asks_for_session}
use Rattle.wtp_messages.specs.Response.{is_success, has_forbidden_length}
use Rattle.wtp_sending.specs.declared.error.SendError.{SendError}
use Rattle.wtp_sending.specs.declared.error.SendError.TheVariants as error
use Rattle.wtp_sending.specs.declared.peer.Peer.{Peer}
use Rattle.wtp_sending.specs.declared.message.Place.{Place}
use Rattle.wtp_sending.specs.declared.message.Place.TheVariants.{Head, Content, Connecting, Tunnel, Session, Trailers, Ended}
use Rattle.wtp_sending.specs.declared.message.Sending.{Sending}
use Rattle.wtp_sending.specs.Writing.{two_numbers}

-- what a peer allows by the default values of its settings
abbrev pub default_peer : Peer
default_peer = record { extended_connect = false; sessions = false; max_section = 2 ^ 64 - 1 }

-- a stream on which nothing was sent
abbrev pub sending_of : ℕ → Role → Peer → Sending
sending_of id r peer = record {
  id = id;
  role = r;
  peer = peer;
  message = message_of r;
  place = Head 0;
  owed = 0;
}

-- ---- the head of a message

-- the HEADERS frame of these fields
abbrev pub headers_wire : List Field → List ℕ
headers_wire fields = wire (HeadersOf (shortest_section fields))

-- the head is still to be sent
abbrev pub is_head : Place → Bool
is_head (Head k) = true
is_head other = false

abbrev pub is_at_head : Sending → Bool
is_at_head s = is_head s.place && is_head_stage s.message.stage

-- so many interim responses were sent before it
abbrev pub interims_of : Place → ℕ
interims_of (Head k) = k
interims_of other = 0

-- A CONNECT request is followed by its end alone until it is answered with a 2xx status (RFC 9114,
-- section 4.4).
abbrev pub after_request : List Field → Place
after_request fields = if is_connect fields then Connecting (asks_for_session fields) else Content

-- A 2xx response to it opens a tunnel or a session.
abbrev pub after_response : Role → ℕ → Place
after_response (role.Response asked.Connect) status =
    if is_success (Some status) then Tunnel else Content
after_response (role.Response asked.Session) status =
    if is_success (Some status) then Session else Content
after_response other status = Content

-- where the section leads, which is that of a head after so many interim responses
abbrev pub after_head : Role → ℕ → List Field → Section → Place
after_head r k fields (found.Request request) = after_request fields
after_head r k fields (found.Interim response) = Head (k + 1)
after_head r k fields (found.Response response) = after_response r response.status
after_head r k fields found.Trailers = Trailers

-- the request asks for a session, which the peer does not support
abbrev pub is_unsupported : Peer → List Field → Bool
is_unsupported peer fields = asks_for_session fields && not peer.sessions

-- a response to this request with this status has a content-length that a server must not send
abbrev pub has_length_at : Role → List Field → ℕ → Bool
has_length_at (role.Request extended) fields status = false
has_length_at (role.Response kind) fields status = has_forbidden_length kind fields status

-- the section has a content-length that a server must not send (RFC 9110, section 8.6)
abbrev pub has_wrong_length : Role → List Field → Section → Bool
has_wrong_length r fields (found.Request request) = false
has_wrong_length r fields (found.Interim response) = has_length_at r fields response.status
has_wrong_length r fields (found.Response response) = has_length_at r fields response.status
has_wrong_length r fields found.Trailers = false

-- it may be sent: sessions are supported, and interim responses are at most 64
abbrev pub IsAllowed : Peer → ℕ → List Field → Section → Type 0
IsAllowed peer k fields (found.Request request) = is_unsupported peer fields ≡ false
IsAllowed peer k fields (found.Interim response) = k < 64
IsAllowed peer k fields (found.Response response) = Unit {0}
IsAllowed peer k fields found.Trailers = ⊥

-- after so many interim responses the section is a head that may be sent; it leads to this message
-- and this place
pub record IsHead (s : Sending) (k : ℕ) (fields : List Field) (m : Message) (place : Place) :
    Type 0 where
  pub found : Section
  pub comes : SectionComes s.message.stage s.message fields (Ok found) m
  pub no_length : has_wrong_length s.role fields found ≡ false
  pub allowed : IsAllowed s.peer k fields found
  pub leads : after_head s.role k fields found ≡ place

-- the fields may be sent as the head of the message, or as an interim response; they lead to this
-- message and this place
abbrev pub LeadsToHead : Sending → List Field → Message → Place → Type 0
LeadsToHead s fields m place =
    (s.place ≡ Head (interims_of s.place)) × (list_size fields ≤ s.peer.max_section)
    × IsHead s (interims_of s.place) fields m place

abbrev pub MayBeHead : Sending → List Field → Type 0
MayBeHead s fields = (m : Message) × (place : Place) × LeadsToHead s fields m place

-- the section is sent as the head of the message, or as an interim response
pub record SendsHead (old : Sending) (fields : List Field) (new : Sending) : Type 0 where
  pub at : old.place ≡ Head (interims_of old.place)
  pub fits : list_size fields ≤ old.peer.max_section
  pub framed : length (shortest_section fields) < 2 ^ 62
  pub head : IsHead old (interims_of old.place) fields new.message new.place
  pub others : new ≡ record old { message = new.message; place = new.place }

-- ---- a head that is refused

-- the section breaks this rule of its message
abbrev pub Breaks : Sending → List Field → Rule → Type 0
Breaks s fields rule = SectionComes s.message.stage s.message fields (Err rule) s.message

-- the section breaks no rule of its message, and is this one
abbrev pub IsSection : Sending → List Field → Section → Type 0
IsSection s fields found =
    (m : Message) × SectionComes s.message.stage s.message fields (Ok found) m

-- The section breaks this rule of its message, or one of what is sent: it has a content-length.
abbrev pub BreaksHead : Sending → List Field → Rule → Type 0
BreaksHead s fields rule =
    Breaks s fields rule
    ⊎ ((found : Section) × IsSection s fields found × (has_wrong_length s.role fields found ≡ true)
    × (rule ≡ InvalidContentLength))

-- why the section, after so many interim responses, may not be sent: it asks for a session, which
-- the peer does not support, or there are too many interim responses
abbrev pub Hinders : Peer → ℕ → List Field → Section → SendError → Type 0
Hinders peer k fields (found.Request request) error.Unsupported = is_unsupported peer fields ≡ true
Hinders peer k fields (found.Interim response) error.TooManyInterim = 64 ≤ k
Hinders peer k fields other e = ⊥

-- the section breaks no rule, and may not be sent for this reason
abbrev pub IsHindered : Sending → List Field → SendError → Type 0
IsHindered s fields e =
    (found : Section) × IsSection s fields found × (has_wrong_length s.role fields found ≡ false)
    × Hinders s.peer (interims_of s.place) fields found e

-- a head may be sent, and the peer accepts sections of this size
abbrev pub FitsHead : Sending → List Field → Type 0
FitsHead s fields = (is_at_head s ≡ true) × (list_size fields ≤ s.peer.max_section)

-- Why a head may not be sent. Of several reasons it is the first of these: it is not the time; the
-- section is larger than the peer accepts; it breaks a rule, of which any may be named; the peer does
-- not support what it asks for, or there are too many interim responses.
abbrev pub RefusesHead : Sending → List Field → SendError → Type 0
RefusesHead s fields error.Unexpected = is_at_head s ≡ false
RefusesHead s fields error.TooLarge =
    (is_at_head s ≡ true) × (s.peer.max_section < list_size fields)
RefusesHead s fields (error.Malformed rule) = FitsHead s fields × BreaksHead s fields rule
RefusesHead s fields error.Unsupported = FitsHead s fields × IsHindered s fields error.Unsupported
RefusesHead s fields error.TooManyInterim =
    FitsHead s fields × IsHindered s fields error.TooManyInterim
RefusesHead s fields other = ⊥

-- why the HEADERS frame of a section that may be sent is not written; allocation may fail
abbrev pub LacksSection : List Field → Option (List ℕ) → SendError → Type 0
LacksSection fields room error.TooLarge = 2 ^ 62 ≤ length (shortest_section fields)
LacksSection fields room error.EndOfBuffer = LacksRoom room (length (headers_wire fields))
LacksSection fields room error.Memory = Unit {0}
LacksSection fields room other = ⊥

-- Why HEADERS of a head are refused: it may not be sent, or else its frame is not written.
abbrev pub RefusesHeaders : Sending → List Field → Option (List ℕ) → SendError → Type 0
RefusesHeaders s fields room error.TooLarge =
    RefusesHead s fields error.TooLarge
    ⊎ (MayBeHead s fields × LacksSection fields room error.TooLarge)
RefusesHeaders s fields room error.EndOfBuffer =
    MayBeHead s fields × LacksSection fields room error.EndOfBuffer
RefusesHeaders s fields room error.Memory =
    MayBeHead s fields × LacksSection fields room error.Memory
RefusesHeaders s fields room other = RefusesHead s fields other

-- ---- content

-- the head of a DATA frame with so many bytes
abbrev pub data_head : ℕ → List ℕ
data_head n = two_numbers 0x00 n

abbrev pub announces : Sending → ℕ → Sending
announces s n = record s { owed = n }

-- so many bytes less of the content are still to come
abbrev pub with_content : Message → ℕ → Message
with_content m n = record m { content = record { left = left_after m.content.left n } }

-- after so many bytes of the content that content-length announced, or why they are too many
abbrev pub counts : Sending → ℕ → Result Sending SendError
counts s n =
    if fits s.message.content.left n
    then Ok (record s { message = with_content s.message n; owed = n })
    else Err (error.Malformed ContentTooLong)

-- a tunnel has any number of bytes
abbrev pub with_data : Place → Sending → ℕ → Result Sending SendError
with_data Content s n = counts s n
with_data Tunnel s n = Ok (announces s n)
with_data other s n = Err error.Unexpected

-- the same for a length that a frame can have
abbrev pub data_at : Sending → ℕ → Result Sending SendError
data_at s n =
    if nat_lt 0 s.owed then Err error.DataMissing else
    if n == 0 then Err error.EmptyData else with_data s.place s n

-- after the head of a DATA frame with so many bytes, or why it may not be sent
abbrev pub after_data : Sending → ℕ → Result Sending SendError
after_data s n = if nat_lt n (2 ^ 62) then data_at s n else Err error.TooLarge

-- after so many bytes of the payload
abbrev pub after_bytes : Sending → ℕ → Result Sending SendError
after_bytes s n =
    if nat_lt s.owed n then Err error.DataExceeded else Ok (record s { owed = s.owed - n })

-- ---- trailers

-- the message is complete, and these are trailers of it; it leads to this message
pub record AreTrailers (s : Sending) (fields : List Field) (m : Message) : Type 0 where
  pub whole : end_of s.message.stage s.message.content.left ≡ Ok tt
  pub comes : SectionComes s.message.stage s.message fields (Ok found.Trailers) m

-- the section is sent as the trailers of the message
pub record SendsTrailers (old : Sending) (fields : List Field) (new : Sending) : Type 0 where
  pub at : old.place ≡ Content
  pub none : old.owed ≡ 0
  pub fits : list_size fields ≤ old.peer.max_section
  pub framed : length (shortest_section fields) < 2 ^ 62
  pub are : AreTrailers old fields new.message
  pub others : new ≡ record old { message = new.message; place = Trailers }

-- trailers may be sent, and the peer accepts sections of this size
abbrev pub FitsTrailers : Sending → List Field → Type 0
FitsTrailers s fields =
    (s.place ≡ Content) × (s.owed ≡ 0) × (list_size fields ≤ s.peer.max_section)

-- the fields may be sent as the trailers of the message; they lead to this message
abbrev pub LeadsToTrailers : Sending → List Field → Message → Type 0
LeadsToTrailers s fields m = FitsTrailers s fields × AreTrailers s fields m

abbrev pub MayBeTrailers : Sending → List Field → Type 0
MayBeTrailers s fields = (m : Message) × LeadsToTrailers s fields m

abbrev pub is_content : Place → Bool
is_content Content = true
is_content other = false

-- The message is not complete, or it is, and the section breaks this rule of trailers.
abbrev pub BreaksTrailers : Sending → List Field → Rule → Type 0
BreaksTrailers s fields rule =
    (end_of s.message.stage s.message.content.left ≡ Err rule)
    ⊎ ((end_of s.message.stage s.message.content.left ≡ Ok tt) × Breaks s fields rule)

-- Why trailers may not be sent. Of several reasons it is the first of these: it is not the time;
-- bytes of a DATA frame are missing; the section is larger than the peer accepts; a rule is broken.
abbrev pub RefusesTail : Sending → List Field → SendError → Type 0
RefusesTail s fields error.Unexpected = is_content s.place ≡ false
RefusesTail s fields error.DataMissing = (s.place ≡ Content) × (0 < s.owed)
RefusesTail s fields error.TooLarge =
    (s.place ≡ Content) × (s.owed ≡ 0) × (s.peer.max_section < list_size fields)
RefusesTail s fields (error.Malformed rule) = FitsTrailers s fields × BreaksTrailers s fields rule
RefusesTail s fields other = ⊥

-- Why trailers are refused: they may not be sent, or else their frame is not written.
abbrev pub RefusesTrailers : Sending → List Field → Option (List ℕ) → SendError → Type 0
RefusesTrailers s fields room error.TooLarge =
    RefusesTail s fields error.TooLarge
    ⊎ (MayBeTrailers s fields × LacksSection fields room error.TooLarge)
RefusesTrailers s fields room error.EndOfBuffer =
    MayBeTrailers s fields × LacksSection fields room error.EndOfBuffer
RefusesTrailers s fields room error.Memory =
    MayBeTrailers s fields × LacksSection fields room error.Memory
RefusesTrailers s fields room other = RefusesTail s fields other

-- ---- one reason

-- the reasons are the same, whichever of several broken rules each names
abbrev pub AreSameReason : SendError → SendError → Type 0
AreSameReason (error.Malformed rule) (error.Malformed another) = Unit {0}
AreSameReason e f = e ≡ f

-- ---- the end

abbrev pub ended : Sending → Sending
ended s = record s { place = Ended }

-- the message may end here, or it breaks a rule
abbrev pub by_rule : Sending → Result (Unit {0}) Rule → Result Sending SendError
by_rule s (Ok u) = Ok (ended s)
by_rule s (Err rule) = Err (error.Malformed rule)

abbrev pub end_at : Place → Sending → Result Sending SendError
end_at Ended s = Err error.Unexpected
end_at (Head k) s = Err (error.Malformed MissingHead)
end_at (Connecting session) s = Ok (ended s)
end_at Tunnel s = Ok (ended s)
end_at Session s = Ok (ended s)
end_at other s = by_rule s (end_of s.message.stage s.message.content.left)

-- after the end of the stream, or why it may not end
abbrev pub after_end : Sending → Result Sending SendError
after_end s = if nat_lt 0 s.owed then Err error.DataMissing else end_at s.place s

-- ---- a CONNECT

-- a CONNECT request that is not answered, or its tunnel or session
abbrev pub of_connect : Place → Bool
of_connect (Connecting session) = true
of_connect Tunnel = true
of_connect Session = true
of_connect other = false

-- ---- a CONNECT that was answered with a 2xx status

-- the tunnel or the session that opens
abbrev pub opens : Place → Result Place SendError
opens (Connecting session) = Ok (if session then Session else Tunnel)
opens other = Err error.Unexpected

-- the state at this place, or why there is none
abbrev pub placed : Sending → Result Place SendError → Result Sending SendError
placed s (Ok place) = Ok (record s { place = place })
placed s (Err e) = Err e

-- ---- calls

-- The state after a call is this one. A refused call gives this error and changes nothing.
abbrev pub Changes :
    Result Sending SendError → Result (Unit {0}) SendError → Sending → Sending → Type 0
Changes verdict (Ok u) old new = verdict ≡ Ok new
Changes verdict (Err e) old new = (verdict ≡ Err e) × (new ≡ old)
