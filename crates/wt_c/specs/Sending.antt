-- What is sent, in structs of C: the words of a state, and words that are 0. A reason why something is
-- not sent has a number and a name.
use Rattle.std.specs.Prelude.{◌≡◌, ◌≢◌, ℕ, List, Bool, true, false, not, ◌&&◌, Option, Some, None, Result, Ok, Err, nat_lt, length, if◌then◌else◌, codes, replicate}
use Rattle.wtp_frames.specs.declared.endpoint.Side.{Side}
use Rattle.wtp_frames.specs.declared.endpoint.Side.TheVariants.{Client, Server}
use Rattle.wtp_messages.specs.declared.malformed.Malformed.{Malformed as Rule}
use Rattle.wtp_messages.specs.declared.malformed.Malformed.TheVariants as rule
use Rattle.wtp_sending.specs.declared.control.ControlSending.{ControlSending}
use Rattle.wtp_sending.specs.declared.error.SendError.{SendError}
use Rattle.wtp_sending.specs.declared.error.SendError.TheVariants as error
use Rattle.wtp_sending.specs.declared.message.Sending.{Sending}
use Rattle.wtp_sending.specs.declared.peer.Peer.{Peer}
use Rattle.wtp_sending.specs.Words.{sending_words, control_words, IsOfRequest, IsGoAway}
use Rattle.wtp_webtransport.specs.declared.connection.Connection.{Connection}
use Rattle.wtp_webtransport.specs.Sessions.{allows_sessions}
use Rattle.wt_c.specs.declared.connections.WtConnection.{WtConnection}
use Rattle.wt_c.specs.declared.sending.WtSending.{WtSending}
use Rattle.wt_c.specs.declared.sending.control.WtControl.{WtControl}
use Rattle.wt_c.specs.Connections.{HasConnection}
use Rattle.wt_c.specs.ConnectionEvents.{rule_number}
use Rattle.wt_c.specs.PeerSettings.{limit_number}

-- ---- the stream of a request

abbrev pub sending_with : Sending → WtSending
sending_with s = record { words = sending_words s; reserved = replicate 5 0 }

-- this is the state of the struct
abbrev pub HasSending : Sending → WtSending → Type 0
HasSending s w = sending_with s ≡ w

-- no state has this struct
abbrev pub IsNoSending : WtSending → Type 0
IsNoSending w = (s : Sending) → IsOfRequest s.id → ¬ (HasSending s w)

-- ---- the control stream

abbrev pub control_with : ControlSending → WtControl
control_with c = record { words = control_words c; reserved = replicate 5 0 }

abbrev pub HasControl : ControlSending → WtControl → Type 0
HasControl c w = control_with c ≡ w

abbrev pub IsNoControl : WtControl → Type 0
IsNoControl w = (c : ControlSending) → IsGoAway c.goaway → ¬ (HasControl c w)

-- after SETTINGS with this payload, or why they may not be sent
abbrev pub payload_verdict : ControlSending → List ℕ → Result ControlSending SendError
payload_verdict c payload =
    if c.settled then Err error.Unexpected else
    if nat_lt 4096 (length payload) then Err error.TooLarge
    else Ok (record c { settled = true })

-- the state after SETTINGS, unless there is a reason why they are not sent
abbrev pub settled_unless : ControlSending → Option SendError → Result ControlSending SendError
settled_unless c None = Ok (record c { settled = true })
settled_unless c (Some e) = Err e

abbrev pub other_side : Side → Side
other_side Client = Server
other_side Server = Client

-- ---- what a connection allows

-- by the settings of its peer, or their defaults
abbrev pub allowed_by : Connection → Peer
allowed_by c = record {
  extended_connect = c.streams.peer.enable_connect_protocol;
  sessions = allows_sessions c;
  max_section = limit_number c.streams.peer.max_field_section_size;
}

-- No GOAWAY came, after which no request is begun (RFC 9114, section 5.2), and no error ended the
-- connection.
abbrev pub may_begin : Option ℕ → Bool → Bool
may_begin None over = not over
may_begin (Some id) over = false

-- this end of the connection
abbrev pub IsAtSide : Side → WtConnection → Type 0
IsAtSide side w = (c : Connection) × HasConnection c w × (c.endpoint.side ≡ side)

-- ---- why something is not sent

-- A rule that a message breaks has its number. What is no reason has none: 0.
abbrev pub reason_number : SendError → ℕ
reason_number error.Unexpected = 64
reason_number error.DataMissing = 65
reason_number error.DataExceeded = 66
reason_number error.EmptyData = 67
reason_number error.TooLarge = 68
reason_number error.TooManyInterim = 69
reason_number error.InvalidId = 70
reason_number error.IdRises = 71
reason_number error.Unsupported = 72
reason_number (error.Malformed r) = rule_number r
reason_number error.EndOfBuffer = 0
reason_number error.Memory = 0

-- this is the number of this reason
pub record IsReasonNumber (n : ℕ) (e : SendError) : Type 0 where
  pub same : n ≡ reason_number e
  pub some : n ≢ 0

abbrev pub rule_name : Rule → List ℕ
rule_name rule.InvalidName = codes "InvalidName"
rule_name rule.InvalidValue = codes "InvalidValue"
rule_name rule.ConnectionField = codes "ConnectionField"
rule_name rule.InvalidTe = codes "InvalidTe"
rule_name rule.UnknownPseudoHeader = codes "UnknownPseudoHeader"
rule_name rule.LatePseudoHeader = codes "LatePseudoHeader"
rule_name rule.RepeatedPseudoHeader = codes "RepeatedPseudoHeader"
rule_name rule.InvalidContentLength = codes "InvalidContentLength"
rule_name rule.MissingMethod = codes "MissingMethod"
rule_name rule.InvalidMethod = codes "InvalidMethod"
rule_name rule.MissingScheme = codes "MissingScheme"
rule_name rule.InvalidScheme = codes "InvalidScheme"
rule_name rule.MissingPath = codes "MissingPath"
rule_name rule.InvalidPath = codes "InvalidPath"
rule_name rule.MissingAuthority = codes "MissingAuthority"
rule_name rule.InvalidAuthority = codes "InvalidAuthority"
rule_name rule.ConnectWithTarget = codes "ConnectWithTarget"
rule_name rule.UnexpectedProtocol = codes "UnexpectedProtocol"
rule_name rule.InvalidProtocol = codes "InvalidProtocol"
rule_name rule.ContentField = codes "ContentField"
rule_name rule.MissingStatus = codes "MissingStatus"
rule_name rule.InvalidStatus = codes "InvalidStatus"
rule_name rule.UnexpectedStatus = codes "UnexpectedStatus"
rule_name rule.MissingHead = codes "MissingHead"
rule_name rule.ContentTooLong = codes "ContentTooLong"
rule_name rule.ContentTooShort = codes "ContentTooShort"

abbrev pub reason_name : SendError → List ℕ
reason_name error.Unexpected = codes "Unexpected"
reason_name error.DataMissing = codes "DataMissing"
reason_name error.DataExceeded = codes "DataExceeded"
reason_name error.EmptyData = codes "EmptyData"
reason_name error.TooLarge = codes "TooLarge"
reason_name error.TooManyInterim = codes "TooManyInterim"
reason_name error.InvalidId = codes "InvalidId"
reason_name error.IdRises = codes "IdRises"
reason_name error.Unsupported = codes "Unsupported"
reason_name (error.Malformed r) = rule_name r
reason_name error.EndOfBuffer = codes "EndOfBuffer"
reason_name error.Memory = codes "Memory"
