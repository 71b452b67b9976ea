-- Frames that C writes by frame type (RFC 9114, section 7.1).
use Rattle.std.specs.Prelude.{◌≢◌, ℕ, ◌<◌, ◌^◌, List, ◌++◌}
use Rattle.wtp_core.specs.Varint.{shortest}
use Rattle.wtp_wire.specs.declared.frame.kind.FrameKind.{FrameKind}
use Rattle.wtp_wire.specs.declared.frame.kind.FrameKind.TheVariants.{WebTransport}
use Rattle.wtp_wire.specs.Kind.{IsKind, frame_type_of}

-- frames of this type have this kind, and a payload
pub record IsPayloadKind (kind : FrameKind) (number : ℕ) : Type 0 where
  pub below : number < 2 ^ 62
  pub is_kind : IsKind kind number
  pub plain : kind ≢ WebTransport

-- the header of a frame with a payload of this length: its type and length
abbrev pub frame_head : FrameKind → ℕ → List ℕ
frame_head kind size = shortest (frame_type_of kind) ++ shortest size
