-- What an endpoint finds in what its peer sent.
use Rattle.std.specs.Prelude.{◌≡◌, ℕ, ◌-◌, ◌==◌, ◌&&◌, if◌then◌else◌, Bool, true, false, List, [], length, take, Option, Some, None}
use Rattle.std.specs.List.{list_any}
use Rattle.wtp_connection.specs.declared.fault.Fault.TheVariants as streams
use Rattle.wtp_webtransport.specs.Fault.{code_of}
use Rattle.wtp_webtransport.specs.declared.fault.Fault.TheVariants as fault
use Rattle.vesgrauf.specs.declared.event.Event.{Event}
use Rattle.vesgrauf.specs.declared.event.EventKind.{EventKind}
use Rattle.vesgrauf.specs.declared.event.EventKind.TheVariants.{ConnectionClosed, Failed, Closed}
use Rattle.vesgrauf.specs.declared.event.Failure.{Failure}
use Rattle.vesgrauf.specs.declared.event.Rule.{Rule}
use Rattle.vesgrauf.specs.declared.event.Rule.TheVariants as rule
use Rattle.vesgrauf.specs.declared.event.Why.{Why}
use Rattle.vesgrauf.specs.declared.event.Why.TheVariants as why
use Rattle.wt_inspect_verdicts.specs.declared.verdict.Finding.{Finding}
use Rattle.wt_inspect_verdicts.specs.declared.verdict.Finding.TheVariants as finding
use Rattle.wt_inspect_verdicts.specs.declared.verdict.Place.{Place}
use Rattle.wt_inspect_verdicts.specs.declared.verdict.Place.TheVariants as place
use Rattle.wt_inspect_verdicts.specs.declared.verdict.Verdict.{Verdict}

-- a rule that was violated on a stream; a request that is not processed violates none
abbrev pub found_on_stream : Rule → Finding
found_on_stream (rule.Fault fault.Rejected) = finding.Rejected fault.Rejected
found_on_stream (rule.Fault (fault.Streams streams.Datagram)) = finding.NoDatagrams
found_on_stream (rule.Fault f) = finding.Stream f
found_on_stream (rule.Malformed m) = finding.Malformed m
found_on_stream rule.TooLarge = finding.TooLarge

-- a rule whose violation ended the connection
abbrev pub found_at_end : Rule → Finding
found_at_end (rule.Fault f) = finding.Connection f
found_at_end r = found_on_stream r

abbrev pub found_in_failure : Option Failure → Option Finding
found_in_failure None = None
found_in_failure (Some failure) = Some (found_at_end failure.rule)

-- nothing is said of a session that was closed with this code and this reason, or that it was
abbrev pub SaysClosed : ℕ → List ℕ → Option Finding → Type 0
SaysClosed code reason None = (code ≡ 0) × (reason ≡ [])
SaysClosed code reason (Some (finding.Closed c text)) = (c ≡ code) × (text.items ≡ reason)
SaysClosed code reason (Some _) = ⊥

-- how a session ended whose stream is over for this reason, if the peer ended it
abbrev pub SaysEnd : Why → Option Finding → Type 0
SaysEnd (why.Session close) said = SaysClosed close.0 close.1 said
SaysEnd why.SessionGone said = said ≡ Some finding.Lost
SaysEnd (why.Malformed m) said = said ≡ Some finding.Lost
SaysEnd why.TooLarge said = said ≡ Some finding.Lost
SaysEnd (why.Fault f) said = said ≡ Some finding.Lost
SaysEnd _ said = said ≡ None

abbrev pub SaysEndIf : Bool → Why → Option Finding → Type 0
SaysEndIf true w said = SaysEnd w said
SaysEndIf false w said = said ≡ None

-- what an event says of the peer, if it says something: a session was opened on its stream or not, and this rule ended the
-- connection
abbrev pub Says : EventKind → Bool → Option Failure → Option Finding → Type 0
Says (ConnectionClosed code by_peer) is_open failure said = said ≡ found_in_failure failure
Says (Failed f) is_open failure said = said ≡ Some (found_on_stream f.rule)
Says (Closed w) is_open failure said = SaysEndIf is_open w said
Says _ is_open failure said = said ≡ None

-- what it says of the peer that a stream is reset with this code, whose session it had closed or not: bytes followed the
-- close (draft-ietf-webtrans-http3-02, section 5)
abbrev pub found_by_reset : ℕ → Bool → Option Finding
found_by_reset code is_closed = if is_closed && code == 0x010e then Some (finding.Stream fault.Capsule) else None

-- where it is found, of what came from this place
abbrev pub place_or : Place → Option ℕ → Place
place_or from None = from
place_or from (Some id) = place.Stream id

abbrev pub place_for : Place → ℕ → EventKind → Option Failure → Place
place_for from id (ConnectionClosed code by_peer) (Some failure) = place_or from failure.stream
place_for from id _ _ = place.Stream id

abbrev pub place_in : Place → Event → Option Failure → Place
place_in from event failure = place_for from event.stream event.kind failure

-- the peer broke a rule
abbrev pub is_fault : Finding → Bool
is_fault (finding.Connection f) = true
is_fault (finding.Stream f) = true
is_fault (finding.Malformed rule) = true
is_fault finding.NoDatagrams = true
is_fault _ = false

-- the code with which the connection would be closed, or the stream reset
abbrev pub code_in : Finding → Option ℕ
code_in (finding.Connection f) = Some (code_of f)
code_in (finding.Stream f) = Some (code_of f)
code_in (finding.Rejected f) = Some (code_of f)
code_in (finding.Malformed rule) = Some 0x010e
code_in finding.NoDatagrams = Some 0x33
code_in _ = None

-- the connection would be closed
abbrev pub ends_connection : Finding → Bool
ends_connection (finding.Connection f) = true
ends_connection _ = false

abbrev pub is_end : Verdict → Bool
is_end verdict = ends_connection verdict.finding

-- nothing comes after an error of the connection: none but the last is one
abbrev pub EndOnce : List Verdict → Type 0
EndOnce verdicts = list_any is_end (take (length verdicts - 1) verdicts) ≡ false

-- what was found so far, and whether an error ended the connection
pub record AreFound (over : Bool) (verdicts : List Verdict) : Type 0 where
  pub once : EndOnce verdicts
  pub over_is : over ≡ list_any is_end verdicts
