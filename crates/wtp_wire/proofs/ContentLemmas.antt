-- The kind, payload and session that a frame's fields give.
use Rattle.std.proofs.Common.{◌≡◌, ℕ, List, Option, Some, None, refl, sym}
use Rattle.std.specs.Prelude.{◌↔◌, IsSome}
use Rattle.wtp_wire.specs.declared.frame.kind.FrameKind.{FrameKind}
use Rattle.wtp_wire.specs.declared.frame.kind.FrameKind.TheVariants.{WebTransport}
use Rattle.wtp_wire.specs.Content.{content, IsProper, kind_in, payload_in, session_in}

pub kind_in-content : (kind : FrameKind) (payload : List ℕ) (session : Option ℕ) (h : IsProper kind payload session) → kind_in (content kind payload session) ≡ kind
kind_in-content kind payload None h = refl
kind_in-content kind payload (Some id) h = sym (h.opens.0 refl)

pub payload_in-content : (kind : FrameKind) (payload : List ℕ) (session : Option ℕ) (h : IsProper kind payload session) → payload_in (content kind payload session) ≡ payload
payload_in-content kind payload None h = refl
payload_in-content kind payload (Some id) h = sym (h.empty refl)

pub session_in-content : (kind : FrameKind) (payload : List ℕ) (session : Option ℕ) → session_in (content kind payload session) ≡ session
session_in-content kind payload None = refl
session_in-content kind payload (Some id) = refl

-- there is a session exactly if the kind is WebTransport
pub opens-content : (kind : FrameKind) (payload : List ℕ) (session : Option ℕ) (h : IsProper kind payload session) → IsSome (session_in (content kind payload session)) ↔ (kind ≡ WebTransport)
opens-content kind payload session h = rw (session_in-content kind payload session) h.opens

pub ruleset fields = (kind_in-content, payload_in-content, session_in-content, opens-content)
