-- The content of a frame, independent of how its payload is stored.
use Rattle.std.specs.Prelude.{◌≡◌, ℕ, ◌<◌, ◌^◌, List, [], length, Option, Some, None, IsSome, ◌↔◌}
use Rattle.wtp_wire.specs.declared.frame.kind.FrameKind.{FrameKind}
use Rattle.wtp_wire.specs.declared.frame.kind.FrameKind.TheVariants.{Data, Headers, Settings, WebTransport, Exercise}
use Rattle.wtp_wire.specs.Kind.{IsKnown}

-- a frame: a kind other than WebTransport with a payload, or a WebTransport frame with its session
-- ID
pub data Content : Type 0 where
  PlainOf : FrameKind → List ℕ → Content
  WebTransportOf : ℕ → Content

-- a DATA frame
abbrev pub DataOf : List ℕ → Content
DataOf payload = PlainOf Data payload

-- a HEADERS frame
abbrev pub HeadersOf : List ℕ → Content
HeadersOf payload = PlainOf Headers payload

-- a SETTINGS frame
abbrev pub SettingsOf : List ℕ → Content
SettingsOf payload = PlainOf Settings payload

-- a frame of a reserved type
abbrev pub ExerciseOf : ℕ → List ℕ → Content
ExerciseOf number payload = PlainOf (Exercise number) payload

-- the kind of a frame
abbrev pub kind_in : Content → FrameKind
kind_in (PlainOf kind payload) = kind
kind_in (WebTransportOf id) = WebTransport

-- the payload of a frame, which is empty for a WebTransport frame
abbrev pub payload_in : Content → List ℕ
payload_in (PlainOf kind payload) = payload
payload_in (WebTransportOf id) = []

-- the session ID of a WebTransport frame
abbrev pub session_in : Content → Option ℕ
session_in (PlainOf kind payload) = None
session_in (WebTransportOf id) = Some id

-- ---- the fields of a frame

-- the content with these fields: a session ID makes it a WebTransport frame
abbrev pub content : FrameKind → List ℕ → Option ℕ → Content
content kind payload None = PlainOf kind payload
content kind payload (Some id) = WebTransportOf id

-- the fields are consistent: there is a session ID exactly if the kind is WebTransport, and the
-- payload is then empty
pub record IsProper (kind : FrameKind) (payload : List ℕ) (session : Option ℕ) : Type 0 where
  pub known : IsKnown kind
  pub opens : IsSome session ↔ (kind ≡ WebTransport)
  pub empty : IsSome session → payload ≡ []
  pub fits : length payload < 2 ^ 62
