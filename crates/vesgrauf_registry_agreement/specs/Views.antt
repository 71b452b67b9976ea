-- The entries of the tables, as the definitions of other crates.
use Rattle.std.specs.Prelude.{ℕ, List, Option, Some, None, option_map}
use Rattle.vesgrauf_registry.specs.Table.{Entry, CName, Same}
use Rattle.vesgrauf_registry.specs.Streams.{UniStream}
use Rattle.vesgrauf_registry.specs.declared.capsules.Capsule.{Capsule}
use Rattle.vesgrauf_registry.specs.declared.capsules.Meaning.{Meaning}
use Rattle.vesgrauf_registry.specs.declared.capsules.Meaning.TheVariants as meaning
use Rattle.vesgrauf_registry.specs.declared.frames.FrameType.{FrameType}
use Rattle.vesgrauf_registry.specs.declared.frames.FrameType.TheVariants as kind
use Rattle.vesgrauf_registry.specs.declared.settings.Setting.{Setting}
use Rattle.vesgrauf_registry.specs.declared.streams.StreamContent.{StreamContent}
use Rattle.vesgrauf_registry.specs.declared.streams.StreamContent.TheVariants as content
use Rattle.wtp_frames.specs.declared.frame_type.FrameType as frames
use Rattle.wtp_frames.specs.declared.frame_type.FrameType.TheVariants as frames_kind
use Rattle.wtp_wire.specs.declared.capsule.CapsuleKind.{CapsuleKind}
use Rattle.wtp_wire.specs.declared.capsule.CapsuleKind.TheVariants.{CloseWebTransportSession}
use Rattle.wtp_wire.specs.declared.frame.kind.FrameKind.{FrameKind}
use Rattle.wtp_wire.specs.declared.frame.kind.FrameKind.TheVariants as wire
use Rattle.wtp_wire.specs.declared.stream_header.StreamKind.{StreamKind}
use Rattle.wtp_wire.specs.declared.stream_header.StreamKind.TheVariants as stream

-- ---- frames

abbrev pub frame_type_of : FrameType → frames.FrameType
frame_type_of kind.Data = frames_kind.Data
frame_type_of kind.Headers = frames_kind.Headers
frame_type_of kind.CancelPush = frames_kind.CancelPush
frame_type_of kind.Settings = frames_kind.Settings
frame_type_of kind.PushPromise = frames_kind.PushPromise
frame_type_of kind.GoAway = frames_kind.GoAway
frame_type_of kind.MaxPushId = frames_kind.MaxPushId
frame_type_of kind.Http2 = frames_kind.Http2
frame_type_of kind.WebTransport = frames_kind.WebTransport
frame_type_of kind.Unknown = frames_kind.Unknown

-- wtp_wire has no other kinds but the reserved types
abbrev pub frame_kind_of : FrameType → Option FrameKind
frame_kind_of kind.Data = Some wire.Data
frame_kind_of kind.Headers = Some wire.Headers
frame_kind_of kind.Settings = Some wire.Settings
frame_kind_of kind.WebTransport = Some wire.WebTransport
frame_kind_of other = None

-- ---- streams

-- wtp_wire has no push streams
abbrev pub stream_kind_in : StreamContent → Option StreamKind
stream_kind_in content.Control = Some stream.Control
stream_kind_in content.Encoder = Some stream.QPackEncoder
stream_kind_in content.Decoder = Some stream.QPackDecoder
stream_kind_in content.Session = Some stream.WebTransport
stream_kind_in other = None

abbrev pub stream_kind_by : Option (Entry UniStream) → Option StreamKind
stream_kind_by None = None
stream_kind_by (Some e) = stream_kind_in e.columns.content

-- ---- settings

-- wtp_wire names those that have a constant of this name in C
abbrev pub name_by : CName → List ℕ → Option (List ℕ)
name_by Same name = Some name
name_by other name = None

abbrev pub setting_name_by : Option (Entry Setting) → Option (List ℕ)
setting_name_by None = None
setting_name_by (Some e) = name_by e.c_name e.name

-- ---- capsules

-- wtp_wire has one kind
abbrev pub capsule_kind_in : Meaning → Option CapsuleKind
capsule_kind_in meaning.Close = Some CloseWebTransportSession
capsule_kind_in other = None

abbrev pub capsule_kind_by : Option (Entry Capsule) → Option CapsuleKind
capsule_kind_by None = None
capsule_kind_by (Some e) = capsule_kind_in e.columns.meaning

abbrev pub longest_in : Capsule → Option ℕ
longest_in c = option_map (λ k. c.longest) (capsule_kind_in c.meaning)

abbrev pub longest_by : Option (Entry Capsule) → Option ℕ
longest_by None = None
longest_by (Some e) = longest_in e.columns
