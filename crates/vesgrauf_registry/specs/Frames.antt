-- Frame types (RFC 9114, sections 7.2 and 11.2.1; RFC 9218, section 7.2; RFC 9412, section 2;
-- draft-ietf-webtrans-http3-02, section 4.2).
use Rattle.std.specs.Prelude.{ℕ, ◌||◌, ◌==◌, List, [], ◌∷◌, Bool, true, false, Option, Some, None, option_map, codes}
use Rattle.vesgrauf_registry.specs.Table.{Entry, CName, Same, Other, Absent, among}
use Rattle.vesgrauf_registry.specs.declared.frames.Frame.{Frame}
use Rattle.vesgrauf_registry.specs.declared.frames.FrameType.{FrameType}
use Rattle.vesgrauf_registry.specs.declared.frames.FrameType.TheVariants as kind
use Rattle.vesgrauf_registry.specs.declared.frames.Form.{Form}
use Rattle.vesgrauf_registry.specs.declared.frames.Form.TheVariants.{Content, Section, Promise, Number, Whole, Session, Unread}
use Rattle.vesgrauf_registry.specs.declared.frames.OnControl.{OnControl}
use Rattle.vesgrauf_registry.specs.declared.frames.OnControl.TheVariants.{Never, First, Later}
use Rattle.vesgrauf_registry.specs.declared.sender.Sender.{Sender}
use Rattle.vesgrauf_registry.specs.declared.sender.Sender.TheVariants.{Both, Client, Server}

-- a type, its name, the name of its constant in C, its kind and its payload; whether it is allowed on
-- the control stream and on a request stream (RFC 9114, table 1); and who sends it
abbrev pub frame : ℕ → List ℕ → CName → FrameType → Form → OnControl → Bool → Sender → Entry Frame
frame number name c_name kind form control request sender = record {
  number = number;
  name = name;
  c_name = c_name;
  columns = record {
    kind = kind;
    form = form;
    control = control;
    request = request;
    sender = sender;
  };
}

-- a type of HTTP/2, and its name there: HTTP/3 has no such frame (RFC 9114, sections 7.2.8 and 11.2.1)
abbrev pub of_http2 : ℕ → List ℕ → Entry Frame
of_http2 number name = frame number name Absent kind.Http2 Unread Never false Both

-- a frame of an extension that is not supported, on the control stream
abbrev pub extension : ℕ → List ℕ → Sender → Entry Frame
extension number name sender = frame number name Absent kind.Unknown Unread Later false sender

-- ---- the table

unfoldable pub frames : List (Entry Frame)
frames =
    -- RFC 9114, section 7.2.1
    frame 0x00 (codes "DATA") Same kind.Data Content Never true Both
    -- RFC 9114, section 7.2.2
    ∷ frame 0x01 (codes "HEADERS") Same kind.Headers Section Never true Both
    ∷ of_http2 0x02 (codes "PRIORITY")
    -- RFC 9114, section 7.2.3
    ∷ frame 0x03 (codes "CANCEL_PUSH") Absent kind.CancelPush Number Later false Both
    -- RFC 9114, section 7.2.4; more than 4096 bytes are too many (section 10.5)
    ∷ frame 0x04 (codes "SETTINGS") Same kind.Settings (Whole 4096) First false Both
    -- RFC 9114, section 7.2.5
    ∷ frame 0x05 (codes "PUSH_PROMISE") Absent kind.PushPromise Promise Never true Server
    ∷ of_http2 0x06 (codes "PING")
    -- RFC 9114, section 7.2.6
    ∷ frame 0x07 (codes "GOAWAY") Absent kind.GoAway Number Later false Both
    ∷ of_http2 0x08 (codes "WINDOW_UPDATE")
    ∷ of_http2 0x09 (codes "CONTINUATION")
    -- RFC 9412, section 2
    ∷ extension 0x0c (codes "ORIGIN") Server
    -- RFC 9114, section 7.2.7
    ∷ frame 0x0d (codes "MAX_PUSH_ID") Absent kind.MaxPushId Number Later false Client
    -- draft-ietf-webtrans-http3-02, sections 4.2 and 9.4: the first number of a stream
    ∷ frame 0x41 (codes "WEBTRANSPORT_STREAM") (Other (codes "WEBTRANSPORT")) kind.WebTransport
    Session Never true Both
    -- RFC 9218, section 7.2: of a request, and of a push
    ∷ extension 0xf0700 (codes "PRIORITY_UPDATE") Client
    ∷ extension 0xf0701 (codes "PRIORITY_UPDATE") Client
    ∷ []

-- ---- by number

-- the entry of a type, if it is registered
unfoldable pub frame_of : ℕ → Option (Entry Frame)
frame_of n = among n frames

-- what the standards say of a type, if it is registered
abbrev pub columns_of : ℕ → Option Frame
columns_of n = option_map (λ e. e.columns) (frame_of n)

-- the kind of a frame: one that is not registered is unknown (RFC 9114, section 9)
abbrev pub kind_by : Option Frame → FrameType
kind_by None = kind.Unknown
kind_by (Some f) = f.kind

abbrev pub kind_of : ℕ → FrameType
kind_of n = kind_by (columns_of n)

-- ---- types of HTTP/2

abbrev pub is_http2 : FrameType → Bool
is_http2 kind.Http2 = true
is_http2 other = false

-- PRIORITY, PING, WINDOW_UPDATE and CONTINUATION of HTTP/2 (RFC 9114, section 11.2.1)
abbrev pub is_http2_type : ℕ → Bool
is_http2_type n = (n == 0x02) || ((n == 0x06) || ((n == 0x08) || (n == 0x09)))

-- the payload is read
abbrev pub is_read : Form → Bool
is_read Unread = false
is_read other = true

-- its frames have rules
abbrev pub has_rules : FrameType → Bool
has_rules kind.Http2 = false
has_rules kind.Unknown = false
has_rules other = true
