-- Which frames a stream allows: the rules of RFC 9114, sections 6.2.1, 7.2 and table 1, that this
-- library checks (docs/DIFFERENCES.md lists the others). A WebTransport frame must be the first
-- frame of a bidirectional stream that the peer opened (draft-ietf-webtrans-http3-02, section 4.2).
use Rattle.std.specs.Prelude.{Bool, if◌then◌else◌, Option, Some, None}
use Rattle.wtp_core.specs.declared.error.ErrorCode.{ErrorCode}
use Rattle.wtp_core.specs.declared.error.ErrorCode.TheVariants.{FrameUnexpected, Frame}
use Rattle.wtp_wire.specs.declared.frame.kind.FrameKind.{FrameKind}
use Rattle.wtp_wire.specs.declared.frame.kind.FrameKind.TheVariants.{Data, Headers, Settings, WebTransport, Exercise}

-- the roles of a stream whose frames are read
pub data Role : Type 0 where
  RemoteBi : Role
  LocalBi : Role
  RemoteUni : Role
  InSession : Role

-- the error code for a frame of this kind on a request stream, or None if it is allowed
abbrev pub request_rule : FrameKind → Option ErrorCode
request_rule Data = None
request_rule Headers = None
request_rule Settings = Some FrameUnexpected
request_rule WebTransport = Some FrameUnexpected
request_rule (Exercise number) = None

-- the error code for a frame of this kind on a control stream, or None if it is allowed
abbrev pub control_rule : FrameKind → Option ErrorCode
control_rule Data = Some FrameUnexpected
control_rule Headers = Some FrameUnexpected
control_rule Settings = None
control_rule WebTransport = Some FrameUnexpected
control_rule (Exercise number) = None

-- the error code for a frame of this kind on a stream, or None if it is allowed; the flag is
-- whether it is the first frame, not counting unknown ones
abbrev pub rule : Role → Bool → FrameKind → Option ErrorCode
rule RemoteBi first WebTransport = if first then None else Some Frame
rule RemoteBi first kind = request_rule kind
rule LocalBi first kind = request_rule kind
rule RemoteUni first kind = control_rule kind
rule InSession first kind = request_rule kind
