-- What SETTINGS of both ends have for sessions, and which streams are requests that go on, in the words of
-- the standards (RFC 9114, section 5.2; RFC 9220, section 3; RFC 9297, section 2.1.1;
-- draft-ietf-webtrans-http3-02, section 3.1; draft-ietf-webtrans-http3-07, section 3.1).
use Rattle.std.specs.Prelude.{◌≡◌, ℕ, ◌<◌, ◌⊎◌, Bool, true, List, Some}
use Rattle.wtp_frames.specs.declared.endpoint.Endpoint.{Endpoint}
use Rattle.wtp_frames.specs.declared.endpoint.Side.{Side}
use Rattle.wtp_frames.specs.declared.endpoint.Side.TheVariants.{Client, Server}
use Rattle.wtp_connection.specs.Settings.{value_of}
use Rattle.wtp_webtransport.specs.declared.stream.Part.{Part}
use Rattle.wtp_webtransport.specs.declared.stream.Part.TheVariants as part

-- a setting has this value in SETTINGS with these identifiers and values
abbrev pub HasValue : ℕ → ℕ → List (ℕ × ℕ) → Type 0
HasValue id value ps = value_of id ps ≡ Some value

-- a setting has a value above 0
abbrev pub IsPositive : ℕ → List (ℕ × ℕ) → Type 0
IsPositive id ps = (n : ℕ) × HasValue id n ps × (0 < n)

-- SETTINGS_ENABLE_WEBTRANSPORT of draft 02 is 1, or a later draft's number of sessions is not 0
abbrev pub EnablesWebTransport : List (ℕ × ℕ) → Type 0
EnablesWebTransport ps =
    HasValue 0x2b603742 1 ps ⊎ (IsPositive 0xc671706a ps ⊎ IsPositive 0x14e9cd29 ps)

-- SETTINGS of the server have SETTINGS_ENABLE_CONNECT_PROTOCOL: the peer's at a client, the own ones at a
-- server
abbrev pub EnablesConnect : Side → Bool → List (ℕ × ℕ) → Type 0
EnablesConnect Client own ps = HasValue 0x08 1 ps
EnablesConnect Server own ps = own ≡ true

-- what sessions need: the own settings, and SETTINGS of the peer with these identifiers and values
pub record EnableSessions (e : Endpoint) (extended : Bool) (ps : List (ℕ × ℕ)) : Type 0 where
  pub own_webtransport : e.webtransport ≡ true
  pub own_datagrams : e.datagrams ≡ true
  pub datagrams : HasValue 0x33 1 ps
  pub webtransport : EnablesWebTransport ps
  pub connect : EnablesConnect e.side extended ps

-- a request of a client that goes on, before its header section or after it
abbrev pub IsRequest : Part → Type 0
IsRequest (part.Head m) = Unit {0}
IsRequest (part.Unanswered session m) = Unit {0}
IsRequest (part.Body m) = Unit {0}
IsRequest other = ⊥
