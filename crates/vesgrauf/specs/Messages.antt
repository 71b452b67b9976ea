-- What calls queue on the own half of a stream: HEADERS, the first bytes of a stream of a session, and the end of one.
use Rattle.std.specs.Prelude.{◌≡◌, ◌==◌, ◌&&◌, ◌^◌, ◌-◌, ℕ, Bool, true, false, List, [], length, MatchBool, Some, Ok, unwrap_or}
use Rattle.wtp_sending.specs.declared.peer.Peer.{Peer as Allows}
use Rattle.wtp_webtransport.specs.Sessions.{allows_sessions}
use Rattle.wtp_webtransport.specs.Streams.{session_stream}
use Rattle.wtp_webtransport.specs.declared.connection.Connection.{Connection as Shared}
use Rattle.vesgrauf_queue.specs.Steps.{IsNew}
use Rattle.vesgrauf_ready.specs.declared.rank.Priority.{Priority}
use Rattle.vesgrauf_stream.specs.declared.tools.Tools.{Tools}
use Rattle.vesgrauf_stream.specs.declared.writing.Writing.{Writing}
use Rattle.vesgrauf_stream.specs.declared.writing.half.Half.TheVariants as half
use Rattle.vesgrauf_stream.specs.Reading.{kept_of}
use Rattle.vesgrauf_stream.specs.Writing.{Pushes, Ends, Closes, message_at, session_at, head_by, stream_head}
use Rattle.vesgrauf.specs.declared.config.Config.{Config}
use Rattle.vesgrauf.specs.declared.connection.Connection.{Connection}
use Rattle.vesgrauf.specs.declared.entry.Entry.{Entry}
use Rattle.vesgrauf.specs.declared.entry.Peer.{Peer}
use Rattle.vesgrauf.specs.declared.entry.Peer.TheVariants as peer
use Rattle.vesgrauf.specs.declared.entry.Told.TheVariants as told
use Rattle.vesgrauf.specs.declared.output.StreamKind.{StreamKind}
use Rattle.vesgrauf.specs.declared.output.StreamKind.TheVariants as kind
use Rattle.vesgrauf.specs.Config.{queue_of}
use Rattle.vesgrauf.specs.Own.{own_of, own_at, IsUntouched}
use Rattle.vesgrauf.specs.State.{view_of, with_own, with_stream, stream_at, Of, SaysOrWaits}
use Rattle.vesgrauf.specs.Streams.{new_entry}

-- ---- sections

-- what the peer allows to be sent: by its SETTINGS, or by their defaults until they come (RFC 9114, section 7.2.4.2)
abbrev pub allowed_by : Shared → Allows
allowed_by s = record {
  extended_connect = s.streams.peer.enable_connect_protocol;
  sessions = allows_sessions s;
  max_section = unwrap_or s.streams.peer.max_field_section_size (2 ^ 64 - 1);
}

abbrev pub allowed : Connection → Allows
allowed c = allowed_by c.shared

-- the encoder and its instructions are the same, but for which sections may refer to its table
pub record IsSameBut (s t : Tools) : Type 0 where
  pub encoder : t.encoder ≡ record s.encoder { policy = t.encoder.policy }
  pub instructions : t.instructions.items ≡ s.instructions.items

-- A section is encoded in this way, by the encoder of the connection. The instructions of that are queued on the own
-- encoder stream, or wait for it (RFC 9204, section 4.2).
pub record Encodes (How : Tools → Tools → Type 0) (c d : Connection) : Type 0 where
  pub from : Tools
  pub to : Tools
  pub begins : IsSameBut c.tools from
  pub does : How from to
  pub ends : d.tools.encoder ≡ to.encoder
  pub queued : SaysOrWaits to.instructions.items d.tools.instructions.items c.encoder d.encoder

-- There is such a stream, and its own half changes in this way by a section. Nothing else changes but the own streams of
-- QPACK.
abbrev pub ChangesBy : ℕ → (Tools → Tools → Writing → Writing → Type 0) → Connection → Connection → Type 0
ChangesBy id How c d = Of (stream_at c id) (λ e. (w : Writing) × Encodes (λ s t. How s t e.writing w) c d
    × (view_of d ≡ with_own d (with_stream (view_of c) id (record e { writing = w }))))

-- There is such a stream, and its own half changes in this way; and then no byte is added or taken.
abbrev pub ChangesThen : ℕ → (Writing → Writing → Type 0) → Connection → Connection → Type 0
ChangesThen id How c d = Of (stream_at c id)
    (λ e. (w : Writing) × How e.writing w × IsUntouched (own_of w) (own_at d.streams.entries id))

-- ---- requests

-- The stream of a request. Nothing was sent on its own half, which changes in this way, and nothing came on the peer's. QUIC
-- is to open it.
pub record IsRequest (config : Config) (How : Writing → Writing → Type 0) (e : Entry) : Type 0 where
  pub before : Writing
  pub idle : before.half ≡ half.Idle
  pub blank : IsNew (queue_of config) before.queue
  pub sends : How before e.writing
  pub unread : kept_of e.reading ≡ []
  pub goes_on : e.reading.ended ≡ false
  pub is : e ≡ record (new_entry e.reading peer.Reads e.writing) {
    priority = e.priority;
    told = told.Known;
    is_opened = false;
    may_cancel = true;
    is_session = e.is_session;
    has_session = e.has_session;
    has_tunnel = e.has_tunnel;
  }

-- ---- streams of sessions

abbrev pub is_both : StreamKind → Bool
is_both kind.Bidirectional = true
is_both kind.Unidirectional = false

-- a unidirectional stream has no half of the peer's
abbrev pub peer_of : StreamKind → Peer
peer_of kind.Bidirectional = peer.Reads
peer_of kind.Unidirectional = peer.Over

-- of urgency 3, and incremental (RFC 9218, section 4)
abbrev pub shared : Priority
shared = record { urgency = 3; incremental = true }

-- this is the own half of an open session, whose streams of a kind begin with these bytes (draft-ietf-webtrans-http3-02,
-- section 4)
abbrev pub IsStreamHead : StreamKind → List ℕ → Entry → Type 0
IsStreamHead k bytes e =
    (session_at e.writing ≡ Ok tt) × (bytes ≡ head_by (stream_head (is_both k)) (message_at e.writing))

-- An own stream of a session. On its own half nothing was sent, and these bytes are queued; nothing came on the peer's. QUIC
-- is to open it.
pub record IsMember (config : Config) (session : ℕ) (k : StreamKind) (bytes : List ℕ) (e : Entry) : Type 0 where
  pub before : Writing
  pub raw : before.half ≡ half.Raw
  pub blank : IsNew (queue_of config) before.queue
  pub begins : Pushes bytes before e.writing
  pub unread : kept_of e.reading ≡ []
  pub goes_on : e.reading.ended ≡ false
  pub at : e.reading.stream ≡ session_stream session
  pub is : e ≡ record (new_entry e.reading (peer_of k) e.writing) {
    session = Some session;
    priority = shared;
    told = told.Known;
    is_opened = false;
  }

-- A session is closed: by the end of its stream, if the code is 0 and there is no reason; otherwise by the capsule with
-- them, and the end (draft-ietf-webtrans-http3-02, section 5).
abbrev pub ClosesSession : (code : ℕ) → (reason : List ℕ) → Writing → Writing → Type 0
ClosesSession code reason v w = MatchBool (code == 0 && length reason == 0) (Ends v w) (Closes code reason v w)
