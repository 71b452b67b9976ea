-- How a drive of a session's stream ends (WebTransport over HTTP/3, "Session Termination").
use Rattle.std.specs.Prelude.{◌≡◌, ◌⊎◌}
use Rattle.wtransport_proto.specs.declared.bytes.error.IoReadError.TheVariants.{ImmediateFin}
use Rattle.wtransport_proto.specs.declared.stream.driving.Driven.{Driven}
use Rattle.wtransport_proto.specs.declared.stream.driving.Driven.TheVariants.{Ended, Waiting, Spent}
use Rattle.wtransport_proto.specs.declared.stream.error.IoReadError.TheVariants.{IO}

-- the stream ended where a frame may start
abbrev pub HasEnded : Driven → Type 0
HasEnded driven = driven ≡ Ended (IO ImmediateFin)

-- more frames may follow
abbrev pub CanContinue : Driven → Type 0
CanContinue driven = (driven ≡ Waiting) ⊎ (driven ≡ Spent)
