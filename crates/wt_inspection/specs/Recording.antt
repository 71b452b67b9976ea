-- What the items of a recording are: each is what the bytes at its place are, after the items
-- before it (RFC 9114, sections 4.1, 6.2 and 7; RFC 9297, sections 2.1 and 3.2).
use Rattle.std.specs.Prelude.{◌≡◌, ℕ, ◌++◌, ◌+◌, ◌-◌, ◌<◌, ◌≤◌, ◌%◌, ◌^◌, ◌⊎◌, ◌==◌, Bool, true}
use Rattle.std.specs.Prelude.{◌&&◌, false, not, List, [], ◌∷◌, length, take, drop, codes, nat_lt, string_bytes}
use Rattle.std.specs.Prelude.{Option, Some, None, Result, Ok, Err}
use Rattle.std.specs.Str.{bytes_eq}
use Rattle.wtp_core.specs.Varint.{number_at}
use Rattle.wtp_dynamic.specs.DecoderStream.{acknowledgment_at}
use Rattle.wtp_dynamic.specs.Instruction.{instruction_at}
use Rattle.wtp_wire.specs.AnyCapsule.{missing_of}
use Rattle.wtp_wire.specs.Kind.{kind_of}
use Rattle.wtp_wire.specs.StreamKind.{stream_kind_of}
use Rattle.wtp_wire.specs.Settings.{settings_in}
use Rattle.wtp_wire.specs.Datagram.{datagram_in}
use Rattle.wtp_wire.specs.Capsule.{capsule_in, capsule_kind_of, max_value_len}
use Rattle.wtp_wire.specs.CapsuleFront.{capsule_front}
use Rattle.wtp_wire.specs.CloseSession.{close_in}
use Rattle.wtp_wire.specs.Role.{role_of}
use Rattle.wtp_wire.specs.Rule.{rule}
use Rattle.wtp_core.specs.declared.error.ErrorCode.{ErrorCode}
use Rattle.wtp_core.specs.declared.error.ErrorCode.TheVariants as code-is
use Rattle.wtp_wire.specs.declared.frame.kind.FrameKind.{FrameKind}
use Rattle.wtp_wire.specs.declared.frame.kind.FrameKind.TheVariants as kind-is
use Rattle.wtp_wire.specs.declared.capsule.CapsuleKind.{CapsuleKind}
use Rattle.wtp_wire.specs.declared.capsule.CapsuleKind.TheVariants.{CloseWebTransportSession}
use Rattle.wtp_wire.specs.declared.rules.StreamRole.{StreamRole}
use Rattle.wtp_wire.specs.declared.rules.StreamRole.TheVariants as role-is
use Rattle.wt_inspection_model.specs.declared.item.Content.{Content}
use Rattle.wt_inspection_model.specs.declared.item.Content.TheVariants as content-is
use Rattle.wt_inspection_model.specs.declared.item.Item.{Item}
use Rattle.wt_inspection_model.specs.declared.item.FrameItem.{FrameItem}
use Rattle.wt_inspection_model.specs.declared.item.Parts.{Parts}
use Rattle.wt_inspection_model.specs.declared.item.Parts.TheVariants as parts-is
use Rattle.wt_inspection_model.specs.declared.item.Signal.{Signal}
use Rattle.wt_inspection_model.specs.declared.item.Signal.TheVariants as signal-is
use Rattle.wt_inspection_model.specs.declared.item.capsule.CapsuleItem.{CapsuleItem}
use Rattle.wt_inspection_model.specs.declared.item.capsule.CloseReason.{CloseReason}
use Rattle.wt_inspection_model.specs.declared.item.ending.FaultCode.{FaultCode}
use Rattle.wt_inspection_model.specs.declared.item.ending.FaultCode.TheVariants.{Library}
use Rattle.wt_inspection_model.specs.declared.item.ending.End.{End}
use Rattle.wt_inspection_model.specs.declared.item.ending.End.TheVariants as end-is
use Rattle.wt_inspection_model.specs.declared.item.fields.FieldSection.{FieldSection}
use Rattle.wt_inspection_model.specs.declared.item.fields.SectionFault.{SectionFault}
use Rattle.wt_inspection_model.specs.declared.item.fields.SectionFault.TheVariants.{Malformed}
use Rattle.wt_inspection_model.specs.declared.item.names.FrameName.{FrameName}
use Rattle.wt_inspection_model.specs.declared.item.names.FrameName.TheVariants as name-is
use Rattle.wt_inspection.specs.declared.reading.Next.{Next}
use Rattle.wt_inspection.specs.declared.reading.Next.TheVariants as next-is
use Rattle.wt_inspection.specs.declared.reading.Recorded.{Recorded}
use Rattle.wt_inspection.specs.declared.reading.Recorded.TheVariants as recorded-is
pub use Rattle.wt_inspection.specs.Stops.{Then, IsCutAt, IsFaultAt, IsFaultBy, IsCut, Faults}
pub use Rattle.wt_inspection.specs.Stops.{StopsBy, StopsWith}
pub use Rattle.wt_inspection.specs.Stops.{pair_lacks}
pub use Rattle.wt_inspection.specs.UniHeads.{after_head, has_session, is_push, IsPlainHead, IsHead}
pub use Rattle.wt_inspection.specs.UniHeads.{IsNoSession, IsNoPush, IsNoId, IsNoHead, IsSessionHead}
pub use Rattle.wt_inspection.specs.UniHeads.{IsPushHead}
use Rattle.wt_inspection.specs.CapsuleNames.{capsule_name}
use Rattle.wt_inspection.specs.FlowLimits.{limit_of}
use Rattle.wt_inspection.specs.DataCapsules.{Stage, Opening, Plain, Session, StartsCapsules}
use Rattle.wt_inspection.specs.DataCapsules.{EndsWith, place_of}
use Rattle.wt_inspection.specs.Heads.{IsSessionItem, IsDatagramItem}
use Rattle.wt_inspection.specs.Instructions.{IsAcknowledgment, IsInsertion, IsNoAcknowledgment}
use Rattle.wt_inspection.specs.Instructions.{IsNoInsertion}
use Rattle.wt_inspection_model.specs.Names.{frame_name_of}
use Rattle.wtp_wire.specs.Settings.{pair_at}
use Rattle.wt_inspection.specs.Sections.{IsSection}
use Rattle.wt_inspection.specs.SessionSections.{stage_after}
use Rattle.wt_inspection.specs.SettingLines.{AreSettings}

-- ---- frames

-- the fault of a frame of this name on a stream, if it has one: types of HTTP/2 must not be sent
-- (RFC 9114, section 7.2.8)
abbrev pub name_fault : StreamRole → Bool → FrameName → Option ErrorCode
name_fault role first (name-is.Read kind) = rule (role_of role) first kind
name_fault role first name-is.Http2 = Some code-is.FrameUnexpected
name_fault role first other = None

-- whether the next frame would be the first after one of this name, other than unknown ones
abbrev pub still_first : Bool → FrameName → Bool
still_first first (name-is.Read kind) = false
still_first first other = first

-- the reading goes on after a section, unless it is malformed
abbrev pub AfterSection : ℕ → Option SectionFault → Then → Then → Type 0
AfterSection at (Some (Malformed cause)) on after = StopsWith at code-is.Decompression after
AfterSection at other on after = after ≡ on

-- the reading goes on after settings, unless they have a fault
abbrev pub AfterSettings : {A : Type 0} → ℕ → Result A ErrorCode → Then → Then → Type 0
AfterSettings at (Ok settings) on after = after ≡ on
AfterSettings at (Err c) on after = StopsWith at c after

-- the first fault of settings, if they have one
abbrev pub HasFault : {A : Type 0} → Result A ErrorCode → Option ErrorCode → Type 0
HasFault (Ok settings) found = found ≡ None
HasFault (Err c) found = found ≡ Some c

-- the payload is not one number alone, as it should be
abbrev pub IsNotAlone : Option (ℕ × List ℕ) → Type 0
IsNotAlone (Some (number, [])) = ⊥
IsNotAlone other = Unit {0}

-- what the payload of a frame of this name says of requests and pushes: an ID alone (RFC 9114,
-- sections 7.2.3, 7.2.6 and 7.2.7), an ID and a priority (RFC 9218, section 7.2), or a push ID and
-- a field section (RFC 9114, section 7.2.5)
abbrev pub HasSignal : FrameName → ℕ → List ℕ → Signal → Then → Then → Type 0
HasSignal name-is.CancelPush at payload (signal-is.Id id) on after =
    (number_at payload ≡ Some (id, [])) × (after ≡ on)
HasSignal name-is.Goaway at payload (signal-is.Id id) on after =
    (number_at payload ≡ Some (id, [])) × (after ≡ on)
HasSignal name-is.MaxPushId at payload (signal-is.Id id) on after =
    (number_at payload ≡ Some (id, [])) × (after ≡ on)
HasSignal name-is.PriorityUpdate at payload (signal-is.Priority id value) on after =
    (number_at payload ≡ Some (id, value.items)) × (after ≡ on)
HasSignal name-is.PushPromise at payload (signal-is.Promise id section) on after =
    ((rest : List ℕ) × (number_at payload ≡ Some (id, rest)) × IsSection rest section)
    × AfterSection at section.fault on after
HasSignal name at payload signal on after = ⊥

-- the payload of a frame of this name says nothing, as it has not what it should have
abbrev pub HasNoSignal : FrameName → List ℕ → Type 0
HasNoSignal name-is.CancelPush payload = IsNotAlone (number_at payload)
HasNoSignal name-is.Goaway payload = IsNotAlone (number_at payload)
HasNoSignal name-is.MaxPushId payload = IsNotAlone (number_at payload)
HasNoSignal name-is.PriorityUpdate payload = number_at payload ≡ None
HasNoSignal name-is.PushPromise payload = number_at payload ≡ None
HasNoSignal name payload = Unit {0}

-- what a frame of this name at this place with this payload contains, and whether the reading goes
-- on after it
abbrev pub HasParts : FrameName → ℕ → List ℕ → Parts → Then → Then → Type 0
HasParts (name-is.Read kind-is.Headers) at payload (parts-is.Fields section) on after =
    IsSection payload section × AfterSection at section.fault on after
HasParts (name-is.Read kind-is.Headers) at payload other on after = ⊥
HasParts (name-is.Read kind-is.Settings) at payload (parts-is.Settings lines) on after =
    AreSettings payload lines.items × AfterSettings at (settings_in payload) on after
HasParts (name-is.Read kind-is.Settings) at payload other on after = ⊥
HasParts (name-is.Read kind-is.Data) at payload (parts-is.Capsules capsules) on after =
    (after ≡ on) ⊎ Faults after
HasParts name at payload (parts-is.Signal signal) on after = HasSignal name at payload signal on after
HasParts name at payload parts-is.Opaque on after = HasNoSignal name payload × (after ≡ on)
HasParts name at payload other on after = ⊥

-- a complete frame is refused, or it has these parts
abbrev pub Judged : Option ErrorCode → FrameName → ℕ → List ℕ → Parts → Then → Then → Type 0
Judged (Some c) name at payload parts on after = (parts ≡ parts-is.Opaque) × StopsWith at c after
Judged None name at payload parts on after = HasParts name at payload parts on after

-- a session ID follows the type of a frame of this kind, in place of a length
abbrev pub is_session : Option FrameKind → Bool
is_session (Some kind-is.WebTransport) = true
is_session other = false

-- a DATA frame has this name
abbrev pub is_data : FrameName → Bool
is_data (name-is.Read kind-is.Data) = true
is_data other = false

-- what a frame of this name contains if some of its payload is missing: nothing that is read, or
-- capsules of a DATA frame, which may have a fault
abbrev pub IsCutPart : FrameName → Parts → Then → Then → Type 0
IsCutPart name parts-is.Opaque on after = after ≡ on
IsCutPart name (parts-is.Capsules capsules) on after =
    (is_data name ≡ true) × ((after ≡ on) ⊎ Faults after)
IsCutPart name other on after = ⊥

-- a frame that lacks so many bytes is refused, or it has these parts
abbrev pub JudgedCut : Option ErrorCode → FrameName → ℕ → ℕ → Parts → Then → Type 0
JudgedCut (Some c) name at missing parts after = (parts ≡ parts-is.Opaque) × StopsWith at c after
JudgedCut None name at missing parts after =
    (on : Then) × IsCut at (codes "frame") missing on × IsCutPart name parts on after

-- a frame at this place, of which len bytes are there
pub record IsFrameAt (role : StreamRole) (first : Bool) (at : ℕ) (bytes : List ℕ) (len : ℕ)
    (f : FrameItem) (after : Then) : Type 0 where
  pub numbers : pair_at bytes ≡ Some ((f.number, f.announced), drop f.head bytes)
  pub name : f.name ≡ frame_name_of f.number
  pub plain : is_session (kind_of f.number) ≡ false
  pub size : f.head + f.present ≡ len
  pub most : f.present ≤ f.announced
  pub cut : f.present < f.announced → (len ≡ length bytes)
      × JudgedCut (name_fault role first f.name) f.name at (f.announced - f.present) f.parts after
  pub whole : f.present ≡ f.announced
      → Judged (name_fault role first f.name) f.name at (take f.present (drop f.head bytes))
      f.parts (Ok (next-is.Frames role (still_first first f.name))) after

-- the fault of a WebTransport stream that begins at this place, if it may not: its type and session
-- ID are the first bytes of a bidirectional stream, and no frame comes before them, not even an
-- unknown or a reserved one (draft-ietf-webtrans-http3-02, section 4.2)
abbrev pub session_fault : StreamRole → Bool → ℕ → Option ErrorCode
session_fault role first at = rule (role_of role) (first && (at == 0)) kind-is.WebTransport

-- the head of a WebTransport stream has no session ID, or may not be here
abbrev pub IsRefused : ℕ → Bool → Option ErrorCode → Then → Type 0
IsRefused at false fault after = StopsWith at code-is.Id after
IsRefused at true (Some c) after = StopsWith at c after
IsRefused at true None after = ⊥

-- no frame can be read from the two numbers of these bytes, or the bytes are too few for them
abbrev pub IsNoFrame :
    StreamRole → Bool → ℕ → List ℕ → Option ((ℕ × ℕ) × List ℕ) → Then → Type 0
IsNoFrame role first at bytes None after = IsCut at (codes "frame") (pair_lacks bytes) after
IsNoFrame role first at bytes (Some ((number, id), rest)) after =
    (is_session (kind_of number) ≡ true)
    × IsRefused at (id % 4 == 0) (session_fault role first at) after

-- ---- capsules

-- what a capsule that closes its session has, and whether the reading goes on after it
abbrev pub IsClosing : ℕ → Option (ℕ × List ℕ) → Option CloseReason → Then → Type 0
IsClosing at (Some close) (Some found) after =
    (found.code ≡ close.0) × (string_bytes found.reason ≡ close.1) × (after ≡ Ok next-is.Capsules)
IsClosing at (Some close) None after = ⊥
IsClosing at None found after = (found ≡ None) × StopsWith at code-is.Datagram after

-- what a capsule of this kind with this value has, and whether the reading goes on after it
abbrev pub ClosesBy : ℕ → CapsuleKind → List ℕ → Option CloseReason → Then → Type 0
ClosesBy at CloseWebTransportSession value found after = IsClosing at (close_in value) found after

-- the same of a capsule that may be of another type
abbrev pub Closes : ℕ → Option (CapsuleKind × List ℕ) → Option CloseReason → Then → Type 0
Closes at (Some capsule) found after = ClosesBy at capsule.0 capsule.1 found after
Closes at None found after = (found ≡ None) × (after ≡ Ok next-is.Capsules)

-- a value of this length is too long for a capsule of this kind, whatever its bytes are
abbrev pub is_overlong : Option CapsuleKind → ℕ → Bool
is_overlong None len = false
is_overlong (Some kind) len = nat_lt (max_value_len kind) len

-- the end within a capsule at this place that lacks so many bytes: a fault if its value is too long
-- (draft-ietf-webtrans-http3-02, section 5)
abbrev pub EndsWithin : Bool → ℕ → ℕ → End → Type 0
EndsWithin true at missing end = IsFaultAt at code-is.Datagram end
EndsWithin false at missing end = IsCutAt at (codes "capsule") missing end

-- the reading ends there
abbrev pub StopsWithin : Bool → ℕ → ℕ → Then → Type 0
StopsWithin overlong at missing (Ok next) = ⊥
StopsWithin overlong at missing (Err end) = EndsWithin overlong at missing end

-- a capsule at this place, of which len bytes are there
pub record IsCapsuleAt (at : ℕ) (bytes : List ℕ) (len : ℕ) (c : CapsuleItem) (after : Then)
    : Type 0 where
  pub head : ℕ
  pub there : head ≤ length bytes
  pub numbers : pair_at bytes ≡ Some ((c.number, c.announced), drop head bytes)
  pub place : c.at ≡ at
  pub name : c.name.now ≡ capsule_name c.number
  pub most : len ≤ head + c.announced
  pub cut : len < head + c.announced → (len ≡ length bytes) × (c.close ≡ None) × (c.limit ≡ None)
      × StopsWithin (is_overlong (capsule_kind_of c.number) c.announced) at
      ((head + c.announced) - len) after
  pub whole : len ≡ head + c.announced → len < 2 ^ 62
      → Closes at (capsule_in (take len bytes)) c.close after
  pub limit : len ≡ head + c.announced
      → c.limit ≡ limit_of c.number (take c.announced (drop head bytes))

-- ---- items

-- the first len of the next bytes, which begin at this place, are this
abbrev pub IsNext : Next → ℕ → List ℕ → ℕ → Content → Then → Type 0
IsNext next-is.Head at bytes len (content-is.Stream head) after =
    IsHead (has_session (stream_kind_of head.number)) bytes len head after
IsNext next-is.Head at bytes len content-is.Unread after =
    (len ≡ length bytes) × IsNoHead at bytes (number_at bytes) after
IsNext (next-is.Frames role first) at bytes len (content-is.Frame f) after =
    IsFrameAt role first at bytes len f after
IsNext (next-is.Frames role first) at bytes len (content-is.Session id) after =
    IsSessionItem bytes len id × (session_fault role first at ≡ None)
    × (after ≡ Ok next-is.Payload)
IsNext (next-is.Frames role first) at bytes len content-is.Unread after =
    (len ≡ length bytes) × IsNoFrame role first at bytes (pair_at bytes) after
IsNext next-is.Payload at bytes len content-is.Payload after =
    (len ≡ length bytes) × (after ≡ Ok next-is.Payload)
IsNext next-is.Encoder at bytes len (content-is.Instruction item) after =
    IsInsertion bytes len item after
IsNext next-is.Encoder at bytes len content-is.Unread after =
    (len ≡ length bytes) × IsNoInsertion at (instruction_at bytes) after
IsNext next-is.Decoder at bytes len (content-is.Instruction item) after =
    IsAcknowledgment bytes len item after
IsNext next-is.Decoder at bytes len content-is.Unread after =
    (len ≡ length bytes) × IsNoAcknowledgment at (acknowledgment_at bytes) after
IsNext next-is.Capsules at bytes len (content-is.Capsule c) after =
    IsCapsuleAt at bytes len c after
IsNext next-is.Capsules at bytes len content-is.Unread after =
    (len ≡ length bytes) × (pair_at bytes ≡ None)
    × IsCut at (codes "capsule") (pair_lacks bytes) after
IsNext next-is.Datagram at bytes len (content-is.Datagram d) after =
    (len ≡ length bytes) × IsDatagramItem bytes d × (after ≡ Ok next-is.Datagram)
IsNext next-is.Datagram at bytes len content-is.Unread after =
    (len ≡ length bytes) × (datagram_in bytes ≡ None) × StopsWith at code-is.Datagram after
IsNext next-is.Section at bytes len (content-is.Section section) after =
    (len ≡ length bytes) × IsSection bytes section
    × AfterSection at section.fault (Ok next-is.Section) after
IsNext next-is.Settings at bytes len (content-is.Settings lines) after =
    (len ≡ length bytes) × AreSettings bytes lines.items
    × (length bytes < 2 ^ 62 → AfterSettings at (settings_in bytes) (Ok next-is.Settings) after)
IsNext next at bytes len other after = ⊥

-- the same; after the end of the reading the bytes that are left are one item that is not read
abbrev pub IsStep : Then → ℕ → List ℕ → ℕ → Content → Then → Type 0
IsStep (Ok next) at bytes len content after = IsNext next at bytes len content after
IsStep (Err end) at bytes len content after =
    (content ≡ content-is.Unread) × (len ≡ length bytes) × (after ≡ Err end)

-- ---- messages

-- the reading goes on, or ends with this fault of the capsule at this place
abbrev pub Follows : ℕ → Option FaultCode → Then → Then → Type 0
Follows at None on after = after ≡ on
Follows at (Some c) on after = StopsBy at c after

-- These bytes have these capsules. The rest is not a complete capsule, or its first capsule has a
-- fault.
abbrev pub TakesAll : (ℕ → ℕ) → List ℕ → List CapsuleItem → Then → Then → Stage → Type 0
TakesAll place bytes capsules on after next =
    (rest : List ℕ) × (fault : Option FaultCode)
    × StartsCapsules place bytes capsules rest × EndsWith (capsule_front rest) fault
    × Follows (place (length rest)) fault on after × (next ≡ Session rest (place (length rest)))

-- The DATA frames of a session have these capsules, those that end in this payload, which begins at
-- this place.
abbrev pub TakesData : Stage → ℕ → List ℕ → List CapsuleItem → Then → Then → Stage → Type 0
TakesData (Session held start) at payload capsules on after next =
    TakesAll (place_of start at (length payload)) (held ++ payload) capsules on after next
TakesData other at payload capsules on after next = ⊥

-- the DATA frames have no capsules
abbrev pub HasNoCapsules : Stage → Type 0
HasNoCapsules (Session held start) = ⊥
HasNoCapsules other = Unit {0}

-- how far the message is after a DATA frame with these parts, whose payload begins at this place
abbrev pub TakesDataFrame : ℕ → List ℕ → Parts → Then → Then → Stage → Stage → Type 0
TakesDataFrame at payload (parts-is.Capsules capsules) on after stage next =
    TakesData stage at payload capsules.items on after next
TakesDataFrame at payload other on after stage next = HasNoCapsules stage × (next ≡ stage)

-- a field section before the content may be that of a session; none later is
abbrev pub TakesSection : StreamRole → FieldSection → Stage → Stage → Type 0
TakesSection role section Opening next = next ≡ stage_after role section
TakesSection role section Plain next = next ≡ Plain
TakesSection role section (Session held start) next = next ≡ Session held start

-- how far the message is after a frame of this name with these parts, on a stream of this role,
-- whose payload begins at this place
abbrev pub Takes :
    StreamRole → FrameName → ℕ → List ℕ → Parts → Then → Then → Stage → Stage → Type 0
Takes role (name-is.Read kind-is.Data) at payload parts on after stage next =
    TakesDataFrame at payload parts on after stage next
Takes role (name-is.Read kind-is.Headers) at payload (parts-is.Fields section) on after stage next =
    TakesSection role section stage next
Takes role name at payload parts on after stage next = next ≡ stage

-- the same of a complete frame, which may be refused
abbrev pub TakesWhole : Option ErrorCode
    → StreamRole → FrameName → ℕ → List ℕ → Parts → Then → Then → Stage → Stage → Type 0
TakesWhole (Some c) role name at payload parts on after stage next = next ≡ stage
TakesWhole None role name at payload parts on after stage next =
    Takes role name at payload parts on after stage next

-- the same of a frame that lacks so many bytes, which may be refused
abbrev pub TakesCut : Option ErrorCode
    → StreamRole → FrameName → ℕ → ℕ → ℕ → List ℕ → Parts → Then → Stage → Stage → Type 0
TakesCut (Some c) role name at missing start payload parts after stage next = next ≡ stage
TakesCut None role name at missing start payload parts after stage next =
    (on : Then) × IsCut at (codes "frame") missing on
    × Takes role name start payload parts on after stage next

-- how far the message is after a frame at this place, of which some bytes may be missing
pub record TakesFrame (role : StreamRole) (first : Bool) (at : ℕ) (bytes : List ℕ) (f : FrameItem)
    (after : Then) (stage next : Stage) : Type 0 where
  pub whole : f.present ≡ f.announced
      → TakesWhole (name_fault role first f.name) role f.name (at + f.head)
      (take f.present (drop f.head bytes)) f.parts
      (Ok (next-is.Frames role (still_first first f.name))) after stage next
  pub cut : f.present < f.announced
      → TakesCut (name_fault role first f.name) role f.name at (f.announced - f.present)
      (at + f.head) (take f.present (drop f.head bytes)) f.parts after stage next

abbrev pub HasNoFrame : Content → Type 0
HasNoFrame (content-is.Frame f) = ⊥
HasNoFrame other = Unit {0}

abbrev pub MovesFrames :
    StreamRole → Bool → ℕ → List ℕ → Content → Then → Stage → Stage → Type 0
MovesFrames role first at bytes (content-is.Frame f) after stage next =
    TakesFrame role first at bytes f after stage next
MovesFrames role first at bytes other after stage next = next ≡ stage

abbrev pub MovesNext : Next → ℕ → List ℕ → Content → Then → Stage → Stage → Type 0
MovesNext (next-is.Frames role first) at bytes content after stage next =
    MovesFrames role first at bytes content after stage next
MovesNext other at bytes content after stage next = next ≡ stage

-- how far the message is after an item at this place
abbrev pub Moves : Then → ℕ → List ℕ → Content → Then → Stage → Stage → Type 0
Moves (Ok is) at bytes content after stage next = MovesNext is at bytes content after stage next
Moves (Err end) at bytes content after stage next = next ≡ stage

-- at least one of the bytes, and no more than there are
abbrev pub IsPart : ℕ → List ℕ → Type 0
IsPart n bytes = (0 < n) × (n ≤ length bytes)

-- the bytes are these items, one after the other, followed by the rest
abbrev pub Reads : Then → Stage → List ℕ → List Item → Then → Stage → List ℕ → Type 0
Reads before stage bytes [] last final rest =
    (before ≡ last) × (stage ≡ final) × (bytes ≡ rest)
Reads before stage bytes (item ∷ items) last final rest =
    (after : Then) × (next : Stage) × IsPart item.length bytes
    × IsStep before item.at bytes item.length item.content after
    × Moves before item.at bytes item.content after stage next
    × Reads after next (drop item.length bytes) items last final rest

-- what a recording begins with
abbrev pub start_of : Recorded → Next
start_of recorded-is.Bi = next-is.Frames role-is.BiRemote true
start_of recorded-is.Response = next-is.Frames role-is.BiLocal true
start_of recorded-is.SessionResponse = next-is.Frames role-is.Session true
start_of recorded-is.Uni = next-is.Head
start_of recorded-is.Datagram = next-is.Datagram
start_of recorded-is.Capsules = next-is.Capsules
start_of recorded-is.Section = next-is.Section
start_of recorded-is.Settings = next-is.Settings

-- the code of the fault that a recording without bytes has, if it has one
abbrev pub code_of_nothing : Recorded → Option ErrorCode
code_of_nothing recorded-is.Datagram = Some code-is.Datagram
code_of_nothing recorded-is.Section = Some code-is.Decompression
code_of_nothing other = None

-- the end of no bytes, whose fault has this code, if they have one
abbrev pub EndsEmpty : Option ErrorCode → End → Type 0
EndsEmpty (Some c) end = IsFaultAt 0 c end
EndsEmpty None end = end ≡ end-is.Complete

-- the end of bytes that have no fault: they are complete unless they end within a capsule
abbrev pub EndsStage : Stage → End → Type 0
EndsStage (Session (byte ∷ held) start) end =
    IsCutAt start (codes "capsule") (missing_of (pair_at (byte ∷ held)) (byte ∷ held)) end
EndsStage other end = end ≡ end-is.Complete

-- the bytes are cut within a frame
abbrev pub is_cut_frame : End → Bool
is_cut_frame (end-is.Cut cut) = bytes_eq cut.item.now (codes "frame")
is_cut_frame other = false

-- a stream of frames, no bytes of which follow, may not end so: within a frame (RFC 9114, section
-- 7.1), or within a capsule (RFC 9297, section 3.3); a unidirectional one may end within its type
-- (RFC 9114, section 6.2)
abbrev pub may_not_be_cut : Recorded → Bool → End → Bool
may_not_be_cut recorded-is.Bi more stop = not more
may_not_be_cut recorded-is.Response more stop = not more
may_not_be_cut recorded-is.SessionResponse more stop = not more
may_not_be_cut recorded-is.Uni more stop = not more && is_cut_frame stop
may_not_be_cut other more stop = false

-- how bytes end whose reading stops so: where it stops, or, if they are cut and may not be, with
-- a fault of this code of what is cut at this place
abbrev pub EndsStopped : ErrorCode → Bool → End → End → Type 0
EndsStopped c false stop end = end ≡ stop
EndsStopped c true (end-is.Cut cut) (end-is.Fault fault) =
    (fault.code ≡ Library c) × (fault.at ≡ cut.at) × (fault.missing ≡ cut.missing)
EndsStopped c true (end-is.Cut cut) other = ⊥
EndsStopped c true stop end = end ≡ stop

-- the end of an inspection, if more bytes may follow or not: where the reading stopped, if it did;
-- otherwise no fault, unless there are no bytes, or they end within a capsule, which makes the
-- message malformed (RFC 9297, section 3.3)
abbrev pub EndsInspection : Recorded → Bool → Bool → Then → Stage → End → Type 0
EndsInspection kind more empty (Err stop) stage end =
    EndsStopped code-is.Frame (may_not_be_cut kind more stop) stop end
EndsInspection kind more true (Ok next) stage end = EndsEmpty (code_of_nothing kind) end
EndsInspection kind more false (Ok next) stage end =
    (stop : End) × EndsStage stage stop
    × EndsStopped code-is.Message (may_not_be_cut kind more stop) stop end

-- the items of a recording, after which more bytes may follow or not
abbrev pub IsRecording : Recorded → Bool → List ℕ → List Item → End → Type 0
IsRecording kind more bytes items end =
    (last : Then) × (final : Stage) × Reads (Ok (start_of kind)) Opening bytes items last final []
    × EndsInspection kind more (length bytes == 0) last final end
