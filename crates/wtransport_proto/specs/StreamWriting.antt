-- Polled writing of a frame to a stream.
use Rattle.std.specs.Prelude.{◌≡◌, ◌≢◌, ℕ, List, false, Result, Ok, Err}
use Rattle.wtp_core.specs.declared.bytes.poll.Polled.{Polled}
use Rattle.wtp_core.specs.declared.bytes.poll.Polled.TheVariants.{Ready, Pending, Again, NoMemory}
use Rattle.wtp_core.specs.declared.bytes.error.IoWriteError.{IoWriteError}
use Rattle.wtp_core.specs.Put.{Writing}
use Rattle.wtp_wire.specs.declared.frame.kind.FrameKind.TheVariants.{WebTransport}
use Rattle.wtp_wire.specs.Kind.{IsKnown}
use Rattle.wtp_wire.specs.Content.{Content, kind_in}
use Rattle.wtp_wire.specs.Wire.{wire}
use Rattle.wtransport_proto.specs.declared.stream.Stream.{Stream}
use Rattle.wtransport_proto.specs.declared.stream.types.BiLocal.{BiLocal}
use Rattle.wtransport_proto.specs.declared.stream.types.H3.{H3}
use Rattle.wtransport_proto.specs.Streams.{can_upgrade}

-- s is a valid frame of another kind than WebTransport; an exercise frame has a reserved type
pub record IsPlainWire (s : List ℕ) : Type 0 where
  pub frame : Content
  pub known : IsKnown (kind_in frame)
  pub plain : kind_in frame ≢ WebTransport
  pub bytes : s ≡ wire frame

-- The state writes such a frame. This is a proposition with a unique proof, so that a struct can
-- store it across polls.
abbrev pub WritesPlain : Writing → Type 0
WritesPlain w = ∥ IsPlainWire w.bytes ∥₁

-- the stream after a poll: if a complete frame was written, it can no longer be upgraded; otherwise
-- it is unchanged
abbrev pub Begun :
    {U : Type 0} → Polled (Result U IoWriteError) → Stream BiLocal (H3 (Unit {0}))
    → Stream BiLocal (H3 (Unit {0})) → Type 0
Begun (Ready (Ok _)) old new = can_upgrade new ≡ false
Begun (Ready (Err e)) old new = new ≡ old
Begun Pending old new = new ≡ old
Begun Again old new = new ≡ old
Begun NoMemory old new = new ≡ old
