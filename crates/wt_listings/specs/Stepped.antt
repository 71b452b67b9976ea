-- The run of a stream that is read poll by poll, and its possible errors.
use Rattle.std.specs.Prelude.{true, List, ℕ}
use Rattle.wtransport_proto.specs.declared.bytes.error.IoReadError.TheVariants as io
use Rattle.wtransport_proto.specs.declared.stream.error.IoReadError.{IoReadError}
use Rattle.wtransport_proto.specs.declared.stream.error.IoReadError.TheVariants as stream
use Rattle.wtransport_proto.specs.Rule.{RemoteBi}
use Rattle.wtransport_proto.specs.Run.{Run, run, Ended}

-- the complete run of a bidirectional stream that the peer opened
abbrev pub stepped_run : List ℕ → Run
stepped_run input = run RemoteBi true input Ended

-- the errors of a stream whose source ends: an error code, or an end after its last frame
abbrev pub ClosesStream : IoReadError → Type 0
ClosesStream (stream.H3 c) = Unit {0}
ClosesStream (stream.IO io.ImmediateFin) = Unit {0}
ClosesStream (stream.IO io.UnexpectedFin) = ⊥
ClosesStream (stream.IO io.Reset) = ⊥
ClosesStream (stream.IO io.NotConnected) = ⊥
