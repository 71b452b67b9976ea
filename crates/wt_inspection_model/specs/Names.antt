-- The names of frame types (RFC 9114, section 7.2; RFC 9218, section 7.2) and of stream types (RFC
-- 9114, section 6.2).
use Rattle.std.specs.Prelude.{ℕ, ◌||◌, ◌==◌, if◌then◌else◌, List, codes, Option, Some, None}
use Rattle.vesgrauf_registry.specs.Frames.{kind_of as registered_kind_of}
use Rattle.vesgrauf_registry.specs.Streams.{UniStream, stream_of}
use Rattle.vesgrauf_registry.specs.Table.{Entry}
use Rattle.vesgrauf_registry.specs.declared.frames.Frame.{Frame}
use Rattle.vesgrauf_registry.specs.declared.frames.FrameType.{FrameType}
use Rattle.vesgrauf_registry.specs.declared.frames.FrameType.TheVariants as registered-is
use Rattle.vesgrauf_registry.specs.declared.streams.StreamContent.{StreamContent}
use Rattle.vesgrauf_registry.specs.declared.streams.StreamContent.TheVariants as content-is
use Rattle.wtp_wire.specs.Kind.{kind_of}
use Rattle.wtp_wire.specs.declared.frame.kind.FrameKind.{FrameKind}
use Rattle.wtp_wire.specs.declared.frame.kind.FrameKind.TheVariants as kind-is
use Rattle.wtp_wire.specs.StreamKind.{stream_kind_of}
use Rattle.wtp_wire.specs.declared.stream_header.StreamKind.{StreamKind}
use Rattle.wtp_wire.specs.declared.stream_header.StreamKind.TheVariants as stream-kind-is
use Rattle.wt_inspection_model.specs.declared.item.names.StreamName.{StreamName}
use Rattle.wt_inspection_model.specs.declared.item.names.StreamName.TheVariants as stream-name-is
use Rattle.wt_inspection_model.specs.declared.item.names.FrameName.{FrameName}
use Rattle.wt_inspection_model.specs.declared.item.names.FrameName.TheVariants as name-is

-- the name of a frame type that has no frame kind, by the kind that its row says. One of HTTP/2 must
-- not be sent (RFC 9114, section 7.2.8)
abbrev pub name_in : FrameType → FrameName
name_in registered-is.CancelPush = name-is.CancelPush
name_in registered-is.PushPromise = name-is.PushPromise
name_in registered-is.GoAway = name-is.Goaway
name_in registered-is.MaxPushId = name-is.MaxPushId
name_in registered-is.Http2 = name-is.Http2
name_in other = name-is.Unknown

-- the name of a frame type that has no frame kind
abbrev pub other_name : ℕ → FrameName
other_name n =
    if (n == 0xf0700) || (n == 0xf0701) then name-is.PriorityUpdate
    else name_in (registered_kind_of n)

-- the name of a frame type with this frame kind, if it has one
abbrev pub named : Option FrameKind → ℕ → FrameName
named (Some kind) n = name-is.Read kind
named None n = other_name n

-- the name of a frame type
unfoldable pub frame_name_of : ℕ → FrameName
frame_name_of n = named (kind_of n) n

-- the name of a stream type that has no stream kind, by what its row says
abbrev pub stream_name_in : StreamContent → StreamName
stream_name_in content-is.Push = stream-name-is.Push
stream_name_in other = stream-name-is.Unknown

abbrev pub other_stream_name : Option (Entry UniStream) → StreamName
other_stream_name None = stream-name-is.Unknown
other_stream_name (Some e) = stream_name_in e.columns.content

-- the name of a stream type with this stream kind, if it has one
abbrev pub stream_named : Option StreamKind → ℕ → StreamName
stream_named (Some kind) n = stream-name-is.Read kind
stream_named None n = other_stream_name (stream_of n)

-- the name of a type of unidirectional stream
unfoldable pub stream_name_of : ℕ → StreamName
stream_name_of n = stream_named (stream_kind_of n) n

-- ---- texts

-- the name of a registered frame type
abbrev pub registered_name : Option (Entry Frame) → List ℕ
registered_name None = codes "unknown"
registered_name (Some e) = e.name

-- the purpose of streams of a registered type, as it is printed
abbrev pub registered_purpose : Option (Entry UniStream) → List ℕ
registered_purpose None = codes "unknown"
registered_purpose (Some e) = e.columns.purpose

-- the text of a frame type name (RFC 9114, section 7.2; RFC 9218, section 7.2;
-- draft-ietf-webtrans-http3-02, section 9.4)
abbrev pub frame_name_text : FrameName → List ℕ
frame_name_text (name-is.Read kind-is.Data) = codes "DATA"
frame_name_text (name-is.Read kind-is.Headers) = codes "HEADERS"
frame_name_text (name-is.Read kind-is.Settings) = codes "SETTINGS"
frame_name_text (name-is.Read kind-is.WebTransport) = codes "WEBTRANSPORT_STREAM"
frame_name_text (name-is.Read (kind-is.Exercise number)) = codes "reserved"
frame_name_text name-is.CancelPush = codes "CANCEL_PUSH"
frame_name_text name-is.PushPromise = codes "PUSH_PROMISE"
frame_name_text name-is.Goaway = codes "GOAWAY"
frame_name_text name-is.MaxPushId = codes "MAX_PUSH_ID"
frame_name_text name-is.PriorityUpdate = codes "PRIORITY_UPDATE"
frame_name_text name-is.Http2 = codes "HTTP/2"
frame_name_text name-is.Unknown = codes "unknown"

-- the text of a stream type name (RFC 9114, section 6.2; RFC 9204, section 4.2)
abbrev pub stream_name_text : StreamName → List ℕ
stream_name_text (stream-name-is.Read stream-kind-is.Control) = codes "control"
stream_name_text (stream-name-is.Read stream-kind-is.QPackEncoder) = codes "QPACK encoder"
stream_name_text (stream-name-is.Read stream-kind-is.QPackDecoder) = codes "QPACK decoder"
stream_name_text (stream-name-is.Read stream-kind-is.WebTransport) = codes "WebTransport"
stream_name_text (stream-name-is.Read (stream-kind-is.Exercise number)) = codes "reserved"
stream_name_text stream-name-is.Push = codes "push"
stream_name_text stream-name-is.Unknown = codes "unknown"
