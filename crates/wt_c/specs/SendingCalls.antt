-- Calls that send, on structs of C.
use Rattle.std.specs.Prelude.{◌≡◌, ℕ, List, ◌++◌, None}
use Rattle.wtp_core.specs.Varint.{shortest}
use Rattle.wtp_fields.specs.Field.{Field}
use Rattle.wtp_sending.specs.declared.control.ControlSending.{ControlSending}
use Rattle.wtp_sending.specs.declared.error.SendError.{SendError}
use Rattle.wtp_sending.specs.declared.message.Sending.{Sending}
use Rattle.wtp_sending.specs.Control.{goaway_bytes}
use Rattle.wtp_sending.specs.Message.{SendsHead, SendsTrailers, RefusesHeaders, RefusesTrailers}
use Rattle.wtp_sending.specs.Session.{in_session, uni_head, bi_head, datagram_head, drain_wire, close_data}
use Rattle.wtp_wire.specs.Content.{SettingsOf}
use Rattle.wtp_wire.specs.Wire.{wire}
use Rattle.wt_c.specs.declared.sending.WtSending.{WtSending}
use Rattle.wt_c.specs.declared.sending.control.WtControl.{WtControl}
use Rattle.wt_c.specs.declared.sending.messages.Section.{Section}
use Rattle.wt_c.specs.declared.sending.messages.Section.TheVariants as section
use Rattle.wt_c.specs.declared.sending.session.Piece.{Piece}
use Rattle.wt_c.specs.declared.sending.session.Piece.TheVariants as piece
use Rattle.wt_c.specs.Sending.{HasSending, HasControl, reason_number}

-- ---- the stream of a request

-- the call leads from the state of the old struct to that of the new one
pub record Leads (leads : Sending → Sending → Type 0) (old new : WtSending) : Type 0 where
  pub s : Sending
  pub t : Sending
  pub old_is : HasSending s old
  pub steps : leads s t
  pub new_is : HasSending t new

-- the call may be made in the state of the struct
pub record MayLead (leads : Sending → Sending → Type 0) (w : WtSending) : Type 0 where
  pub s : Sending
  pub t : Sending
  pub state_is : HasSending s w
  pub steps : leads s t

-- the call is refused in the state of the struct, and the number is that of the reason
pub record Refuses (refuses : Sending → SendError → Type 0) (w : WtSending) (why : ℕ) : Type 0
  where
    pub s : Sending
    pub e : SendError
    pub state_is : HasSending s w
    pub refused : refuses s e
    pub why_is : why ≡ reason_number e

-- ---- bytes

-- the type of the control stream, and a SETTINGS frame with this payload
unfoldable pub settings_start : List ℕ → List ℕ
settings_start payload = shortest 0x00 ++ wire (SettingsOf payload)

-- the GOAWAY frame with this ID
unfoldable pub goaway_frame : ℕ → List ℕ
goaway_frame id = goaway_bytes id

-- the DATA frame with the capsule that closes a session, with this code and reason
unfoldable pub close_frame : ℕ → List ℕ → List ℕ
close_frame code reason = close_data code reason

-- ---- sections

abbrev pub sends : Section → List Field → Sending → Sending → Type 0
sends section.Head fields s t = SendsHead s fields t
sends section.Trailers fields s t = SendsTrailers s fields t

-- why a section is not sent, wherever it is written
abbrev pub refuses : Section → List Field → Sending → SendError → Type 0
refuses section.Head fields s e = RefusesHeaders s fields None e
refuses section.Trailers fields s e = RefusesTrailers s fields None e

-- ---- sessions

abbrev pub piece_bytes : Piece → ℕ → List ℕ
piece_bytes piece.Unidirectional id = uni_head id
piece_bytes piece.Bidirectional id = bi_head id
piece_bytes piece.Datagram id = datagram_head id
piece_bytes piece.Drain id = drain_wire

-- ---- the control stream

pub record ControlLeads (leads : ControlSending → ControlSending → Type 0) (old new : WtControl) :
    Type 0 where
  pub c : ControlSending
  pub d : ControlSending
  pub old_is : HasControl c old
  pub steps : leads c d
  pub new_is : HasControl d new

pub record ControlMayLead (leads : ControlSending → ControlSending → Type 0) (w : WtControl) :
    Type 0 where
  pub c : ControlSending
  pub d : ControlSending
  pub state_is : HasControl c w
  pub steps : leads c d

pub record ControlRefuses (refuses : ControlSending → SendError → Type 0) (w : WtControl)
    (why : ℕ) : Type 0 where
  pub c : ControlSending
  pub e : SendError
  pub state_is : HasControl c w
  pub refused : refuses c e
  pub why_is : why ≡ reason_number e
