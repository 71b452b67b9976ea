-- Interim responses (RFC 9114, section 4.1). Which HEADERS are those of one is in their fields, which
-- the caller decodes: it says so of the section that it was given last.
use Rattle.std.specs.Prelude.{◌≡◌, ℕ, ◌+◌, ◌==◌, nat_lt, ◌&&◌, not, if◌then◌else◌, Bool, true, false, List, [], ◌∷◌, ◌++◌, Option, Some, None}
use Rattle.wtp_frames.specs.declared.endpoint.Endpoint.{Endpoint}
use Rattle.wtp_frames.specs.declared.endpoint.Side.{Side}
use Rattle.wtp_frames.specs.declared.endpoint.Side.TheVariants.{Client, Server}
use Rattle.wtp_frames.specs.declared.fault.Fault.{Fault}
use Rattle.wtp_frames.specs.declared.fault.Fault.TheVariants as fault
use Rattle.wtp_frames.specs.declared.frame_type.FrameType.TheVariants as kind
use Rattle.wtp_frames.specs.declared.reader.Place.{Place}
use Rattle.wtp_frames.specs.declared.reader.Place.TheVariants.{BeforeHeaders, Body}
use Rattle.wtp_frames.specs.declared.reader.Reader.{Reader}
use Rattle.wtp_frames.specs.Grammar.{Interim, interim_bytes, interim_section}
use Rattle.wtp_frames.specs.Item.{Whole}
use Rattle.wtp_frames.specs.Run.{preceded, failed, run}

-- a client receives responses
abbrev pub is_client : Side → Bool
is_client Client = true
is_client Server = false

abbrev pub is_body : Place → Bool
is_body Body = true
is_body other = false

-- HEADERS are the last frame of a response: after DATA the reader has streamed, and after another
-- frame it has counted it
abbrev pub ends_in_section : Reader → Bool
ends_in_section r =
    is_client r.endpoint.side && (is_body r.place && (not r.streamed && r.idle == 0))

-- HEADERS are still to come
abbrev pub awaits : Reader → Reader
awaits r = record r { place = BeforeHeaders; interims = r.interims + 1 }

-- at most 64 interim responses may come (RFC 9114, section 10.5)
abbrev pub with_interim : Reader → Reader × Option Fault
with_interim r =
    if nat_lt r.interims 64
    then (awaits r, None)
    else (failed r fault.TooManyInterim, Some fault.TooManyInterim)

-- The response was an interim one. Nothing changes if its HEADERS are not the last frame.
abbrev pub after_interim : Reader → Reader × Option Fault
after_interim r = if ends_in_section r then with_interim r else (r, None)

-- the reader of such a message is before its HEADERS, after so many interim responses; it may be
-- within a frame that is skipped
pub record IsAwaiting (e : Endpoint) (k : ℕ) (r : Reader) : Type 0 where
  pub endpoint : r.endpoint ≡ e
  pub place : r.place ≡ BeforeHeaders
  pub interims : r.interims ≡ k

-- it is none
abbrev pub IsNoInterim : Reader → Type 0
IsNoInterim r = after_interim r ≡ (r, None)

-- of an interim response the section is given, whatever follows, and the reader is then this
abbrev pub GivesSection : Reader → Interim → Reader → Type 0
GivesSection r i mid =
    (more : List ℕ) → run r (interim_bytes i ++ more)
    ≡ preceded (Whole kind.Headers (interim_section i) ∷ []) (run mid more)

-- these interim responses lead from one reader to another, if the caller says of each what it is
abbrev pub ReadsInterims : Reader → List Interim → Reader → Type 0
ReadsInterims r [] s = s ≡ r
ReadsInterims r (i ∷ is) s =
    (mid next : Reader)
    × GivesSection r i mid
    × (after_interim mid ≡ (next, None))
    × ReadsInterims next is s
