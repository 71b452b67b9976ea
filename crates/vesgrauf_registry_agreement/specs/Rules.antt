-- What a stream does with a frame, by how far it went (RFC 9114, sections 4.1, 6.2.1 and 7.2), by the
-- columns of the frame's row.
use Rattle.std.specs.Prelude.{ℕ, nat_lt, Bool, true, false, ◌&&◌, if◌then◌else◌, Option, Some, None}
use Rattle.vesgrauf_registry.specs.declared.frames.FrameType.{FrameType}
use Rattle.vesgrauf_registry.specs.declared.frames.Frame.{Frame}
use Rattle.vesgrauf_registry.specs.declared.frames.Form.{Form}
use Rattle.vesgrauf_registry.specs.declared.frames.Form.TheVariants.{Content, Section, Promise, Number, Whole, Session}
use Rattle.vesgrauf_registry.specs.declared.frames.FrameType.TheVariants as kind
use Rattle.vesgrauf_registry.specs.declared.frames.OnControl.{OnControl}
use Rattle.vesgrauf_registry.specs.declared.frames.OnControl.TheVariants.{First, Later}
use Rattle.vesgrauf_registry.specs.declared.sender.Sender.{Sender}
use Rattle.vesgrauf_registry.specs.declared.sender.Sender.TheVariants as sender
use Rattle.wtp_frames.specs.declared.endpoint.Endpoint.{Endpoint}
use Rattle.wtp_frames.specs.declared.endpoint.Side.{Side}
use Rattle.wtp_frames.specs.declared.endpoint.Side.TheVariants.{Client, Server}
use Rattle.wtp_frames.specs.declared.fault.Fault.{Fault}
use Rattle.wtp_frames.specs.declared.fault.Fault.TheVariants as fault
use Rattle.wtp_frames.specs.declared.frame_type.FrameType.TheVariants as frames
use Rattle.wtp_frames.specs.declared.reader.Place.{Place}
use Rattle.wtp_frames.specs.declared.reader.Place.TheVariants.{BeforeHeaders, Body, AfterTrailers, Tunnel, BeforeSettings, AfterSettings, Failed}
use Rattle.wtp_frames.specs.Rules.{action_of, data_frame, number_frame, section, webtransport, without_content}

-- ---- what a stream may do with a frame, by wtp_frames, whose names for it are private

abbrev pub type_of_term : {A : Type 0} → A → Type 0
type_of_term {A = A} a = A

abbrev pub Action : Type 0
Action = type_of_term (number_frame 0)

-- the payload is returned whole
abbrev pub give : Action
give = number_frame 0

-- the payload is skipped
abbrev pub skip : Endpoint → Action
skip e = action_of e (AfterSettings None None) 0 frames.Unknown 0

-- it is an error, as every frame after this fault
abbrev pub refuse : Endpoint → Fault → Action
refuse e f = action_of e (Failed f) 0 frames.Unknown 0

-- ---- by the columns

-- the peer of this side sends such frames
abbrev pub is_sent_to : Side → Sender → Bool
is_sent_to Client sender.Client = false
is_sent_to Server sender.Server = false
is_sent_to side other = true

abbrev pub is_session : Form → Bool
is_session Session = true
is_session form = false

abbrev pub is_first : OnControl → Bool
is_first First = true
is_first c = false

abbrev pub is_later : OnControl → Bool
is_later Later = true
is_later c = false

-- a payload that is returned whole: one number has at most eight bytes (RFC 9114, section 7.1; RFC
-- 9000, section 16)
abbrev pub payload : Endpoint → Form → ℕ → Action
payload e Number n = if nat_lt 8 n then refuse e fault.Frame else give
payload e (Whole longest) n = if nat_lt longest n then refuse e fault.ExcessiveLoad else give
payload e other n = refuse e fault.FrameUnexpected

-- the places of the payloads of a message; no push was allowed, so each push ID is too large for a
-- client (RFC 9114, sections 4.1, 4.4 and 7.2.5)
abbrev pub in_place : Endpoint → Place → ℕ → Form → ℕ → Action
in_place e BeforeHeaders idle Section n = section e n
in_place e Body idle Section n = section e n
in_place e Body idle Content n = data_frame idle n
in_place e Tunnel idle Content n = data_frame idle n
in_place e BeforeHeaders idle Promise n = refuse e fault.Id
in_place e Body idle Promise n = refuse e fault.Id
in_place e AfterTrailers idle Promise n = refuse e fault.Id
in_place e place idle form n = refuse e fault.FrameUnexpected

-- on the stream of a message
abbrev pub on_message : Endpoint → Place → ℕ → Frame → ℕ → Action
on_message e place idle f n =
    if is_session f.form then webtransport e (without_content idle (skip e))
    else (if f.request && is_sent_to e.side f.sender then in_place e place idle f.form n
    else refuse e fault.FrameUnexpected)

-- on a control stream, after SETTINGS
abbrev pub on_control : Endpoint → Frame → ℕ → Action
on_control e f n =
    if is_session f.form then webtransport e (skip e)
    else (if is_later f.control && is_sent_to e.side f.sender then payload e f.form n
    else refuse e fault.FrameUnexpected)

abbrev pub in_message : Endpoint → Place → ℕ → Option Frame → ℕ → Action
in_message e place idle None n = without_content idle (skip e)
in_message e place idle (Some f) n = on_message e place idle f n

-- a frame of an extension that is not supported is ignored (RFC 9114, section 9)
abbrev pub is_ignored : FrameType → Bool
is_ignored kind.Unknown = true
is_ignored other = false

abbrev pub supported : Option Frame → Option Frame
supported None = None
supported (Some f) = if is_ignored f.kind then None else Some f

abbrev pub action_in : Endpoint → Place → ℕ → Option Frame → ℕ → Action
action_in e (Failed f) idle frame n = refuse e f
action_in e BeforeSettings idle None n = refuse e fault.MissingSettings
action_in e BeforeSettings idle (Some f) n =
    if is_first f.control then payload e f.form n else refuse e fault.MissingSettings
action_in e (AfterSettings goaway push) idle None n = skip e
action_in e (AfterSettings goaway push) idle (Some f) n = on_control e f n
action_in e place idle frame n = in_message e place idle frame n

-- what a stream does with a frame of this row and length, after so many frames without content
abbrev pub action_by : Endpoint → Place → ℕ → Option Frame → ℕ → Action
action_by e place idle frame n = action_in e place idle (supported frame) n
