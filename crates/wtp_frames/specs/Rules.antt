-- What a stream does with a frame, by how far it went (RFC 9114, sections 4.1, 6.2.1 and 7.2).
use Rattle.std.specs.Prelude.{ℕ, ◌%◌, nat_lt, ◌==◌, if◌then◌else◌, List, [], ◌∷◌, Option, Some, None, Result, Ok, Err}
use Rattle.wtp_core.specs.Varint.{number_at}
use Rattle.wtp_frames.specs.declared.frame_type.FrameType.{FrameType}
use Rattle.wtp_frames.specs.declared.frame_type.FrameType.TheVariants as kind
use Rattle.wtp_frames.specs.declared.endpoint.Endpoint.{Endpoint}
use Rattle.wtp_frames.specs.declared.endpoint.Side.{Side}
use Rattle.wtp_frames.specs.declared.endpoint.Side.TheVariants.{Client, Server}
use Rattle.wtp_frames.specs.declared.fault.Fault.{Fault}
use Rattle.wtp_frames.specs.declared.fault.Fault.TheVariants as fault
use Rattle.wtp_frames.specs.declared.reader.Place.{Place}
use Rattle.wtp_frames.specs.declared.reader.Place.TheVariants.{BeforeHeaders, Body, AfterTrailers, Tunnel, BeforeSettings, AfterSettings, Failed}
use Rattle.wtp_frames.specs.declared.rules.Action.{Action}
use Rattle.wtp_frames.specs.declared.rules.Action.TheVariants.{Give, Stream, Skip, SkipSection, Refuse}

-- ---- the head of a frame

-- no push was allowed, so each push ID is too large for a client (RFC 9114, section 7.2.5)
abbrev pub promised : Side → Action
promised Client = Refuse fault.Id
promised Server = Refuse fault.FrameUnexpected

-- at most 1024 frames without content follow one another (RFC 9114, section 10.5)
abbrev pub without_content : ℕ → Action → Action
without_content idle action = if nat_lt idle 1024 then action else Refuse fault.ExcessiveLoad

abbrev pub data_frame : ℕ → ℕ → Action
data_frame idle n = if n == 0 then without_content idle Stream else Stream

-- a section that is too large is skipped (RFC 9114, section 4.2.2)
abbrev pub section : Endpoint → ℕ → Action
section e n = if nat_lt e.max_section n then SkipSection else Give

-- 0x41 is an unknown type if WebTransport is not enabled (RFC 9114, section 9), and otherwise comes
-- only as the first bytes of a stream (draft-ietf-webtrans-http3-02, section 4.2)
abbrev pub webtransport : Endpoint → Action → Action
webtransport e unknown = if e.webtransport then Refuse fault.Frame else unknown

-- before the HEADERS of a message
abbrev pub before_headers : Endpoint → ℕ → FrameType → ℕ → Action
before_headers e idle kind.Headers n = section e n
before_headers e idle kind.Unknown n = without_content idle Skip
before_headers e idle kind.WebTransport n = webtransport e (without_content idle Skip)
before_headers e idle kind.PushPromise n = promised e.side
before_headers e idle other n = Refuse fault.FrameUnexpected

-- after them
abbrev pub in_body : Endpoint → ℕ → FrameType → ℕ → Action
in_body e idle kind.Data n = data_frame idle n
in_body e idle kind.Headers n = section e n
in_body e idle kind.Unknown n = without_content idle Skip
in_body e idle kind.WebTransport n = webtransport e (without_content idle Skip)
in_body e idle kind.PushPromise n = promised e.side
in_body e idle other n = Refuse fault.FrameUnexpected

-- after the trailers
abbrev pub after_trailers : Endpoint → ℕ → FrameType → Action
after_trailers e idle kind.Unknown = without_content idle Skip
after_trailers e idle kind.WebTransport = webtransport e (without_content idle Skip)
after_trailers e idle kind.PushPromise = promised e.side
after_trailers e idle other = Refuse fault.FrameUnexpected

-- on the stream of a CONNECT request that was answered with a 2xx status: of the known frames DATA
-- alone may come (RFC 9114, section 4.4)
abbrev pub in_tunnel : Endpoint → ℕ → FrameType → ℕ → Action
in_tunnel e idle kind.Data n = data_frame idle n
in_tunnel e idle kind.Unknown n = without_content idle Skip
in_tunnel e idle kind.WebTransport n = webtransport e (without_content idle Skip)
in_tunnel e idle other n = Refuse fault.FrameUnexpected

-- on a control stream, before SETTINGS; more than 4096 bytes of them are too many
abbrev pub before_settings : FrameType → ℕ → Action
before_settings kind.Settings n = if nat_lt 4096 n then Refuse fault.ExcessiveLoad else Give
before_settings other n = Refuse fault.MissingSettings

-- a frame that is one number has at most eight bytes (RFC 9114, section 7.1; RFC 9000, section 16)
abbrev pub number_frame : ℕ → Action
number_frame n = if nat_lt 8 n then Refuse fault.Frame else Give

-- a client alone sends MAX_PUSH_ID (RFC 9114, section 7.2.7)
abbrev pub push_limit : Side → ℕ → Action
push_limit Client n = Refuse fault.FrameUnexpected
push_limit Server n = number_frame n

-- on a control stream, after SETTINGS
abbrev pub after_settings : Endpoint → FrameType → ℕ → Action
after_settings e kind.GoAway n = number_frame n
after_settings e kind.CancelPush n = number_frame n
after_settings e kind.MaxPushId n = push_limit e.side n
after_settings e kind.Unknown n = Skip
after_settings e kind.WebTransport n = webtransport e Skip
after_settings e other n = Refuse fault.FrameUnexpected

-- what a stream does with a frame of this type and length, after so many frames without content
abbrev pub action_of : Endpoint → Place → ℕ → FrameType → ℕ → Action
action_of e BeforeHeaders idle k n = before_headers e idle k n
action_of e Body idle k n = in_body e idle k n
action_of e AfterTrailers idle k n = after_trailers e idle k
action_of e Tunnel idle k n = in_tunnel e idle k n
action_of e BeforeSettings idle k n = before_settings k n
action_of e (AfterSettings goaway push) idle k n = after_settings e k n
action_of e (Failed f) idle k n = Refuse f

-- ---- the payload of a frame that is returned whole

-- the payload is one number
abbrev pub alone : Option (ℕ × List ℕ) → Option ℕ
alone None = None
alone (Some (n, [])) = Some n
alone (Some (n, b ∷ rest)) = None

unfoldable pub one_number : List ℕ → Option ℕ
one_number payload = alone (number_at payload)

-- GOAWAY has the ID of a request to a client, and a push ID to a server; no ID rises (RFC 9114,
-- sections 5.2 and 7.2.6)
abbrev pub is_request : Side → ℕ → Result ℕ Fault
is_request Client n = if n % 4 == 0 then Ok n else Err fault.Id
is_request Server n = Ok n

abbrev pub not_above : Option ℕ → ℕ → Option ℕ → Result Place Fault
not_above None n push = Ok (AfterSettings (Some n) push)
not_above (Some last) n push =
    if nat_lt last n then Err fault.Id else Ok (AfterSettings (Some n) push)

abbrev pub goes_away : Option ℕ → Option ℕ → Result ℕ Fault → Result Place Fault
goes_away goaway push (Ok n) = not_above goaway n push
goes_away goaway push (Err f) = Err f

-- MAX_PUSH_ID does not fall (RFC 9114, section 7.2.7)
abbrev pub not_below : Option ℕ → Option ℕ → ℕ → Result Place Fault
not_below goaway None n = Ok (AfterSettings goaway (Some n))
not_below goaway (Some last) n =
    if nat_lt n last then Err fault.Id else Ok (AfterSettings goaway (Some n))

-- no push was promised, so none can be cancelled (RFC 9114, section 7.2.3)
abbrev pub with_number : Side → Option ℕ → Option ℕ → FrameType → Option ℕ → Result Place Fault
with_number side goaway push k None = Err fault.Frame
with_number side goaway push kind.GoAway (Some n) = goes_away goaway push (is_request side n)
with_number side goaway push kind.MaxPushId (Some n) = not_below goaway push n
with_number side goaway push other (Some n) = Err fault.Id

-- how far the stream went with the frame, or its fault
abbrev pub accepted : Side → Place → FrameType → List ℕ → Result Place Fault
accepted side BeforeHeaders k payload = Ok Body
accepted side Body k payload = Ok AfterTrailers
accepted side AfterTrailers k payload = Err fault.FrameUnexpected
accepted side Tunnel k payload = Err fault.FrameUnexpected
accepted side BeforeSettings k payload = Ok (AfterSettings None None)
accepted side (AfterSettings goaway push) k payload =
    with_number side goaway push k (one_number payload)
accepted side (Failed f) k payload = Err f

-- how far it went with HEADERS that are skipped
abbrev pub after_section : Place → Place
after_section BeforeHeaders = Body
after_section Body = AfterTrailers
after_section other = other
