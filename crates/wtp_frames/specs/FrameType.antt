-- Types of frames (RFC 9114, sections 7.2, 7.2.8 and 11.2.1).
use Rattle.std.specs.Prelude.{ℕ, ◌==◌, if◌then◌else◌, ◌||◌}
use Rattle.vesgrauf_registry.specs.declared.frames.FrameType as registered
use Rattle.vesgrauf_registry.specs.declared.frames.FrameType.TheVariants as kind
use Rattle.wtp_frames.specs.declared.frame_type.FrameType.{FrameType}
use Rattle.wtp_frames.specs.declared.frame_type.FrameType.TheVariants.{Data, Headers, CancelPush, Settings, PushPromise, GoAway, MaxPushId, Http2, WebTransport, Unknown}

-- the type of a number
abbrev pub type_of : ℕ → FrameType
type_of n =
    if n == 0x00 then Data
    else (if n == 0x01 then Headers
    else (if n == 0x03 then CancelPush
    else (if n == 0x04 then Settings
    else (if n == 0x05 then PushPromise
    else (if n == 0x07 then GoAway
    else (if n == 0x0d then MaxPushId
    else (if ((n == 0x02 || n == 0x06) || n == 0x08) || n == 0x09 then Http2
    else (if n == 0x41 then WebTransport
    else Unknown))))))))

-- the type of a registered kind
abbrev pub type_in : registered.FrameType → FrameType
type_in kind.Data = Data
type_in kind.Headers = Headers
type_in kind.CancelPush = CancelPush
type_in kind.Settings = Settings
type_in kind.PushPromise = PushPromise
type_in kind.GoAway = GoAway
type_in kind.MaxPushId = MaxPushId
type_in kind.Http2 = Http2
type_in kind.WebTransport = WebTransport
type_in kind.Unknown = Unknown
