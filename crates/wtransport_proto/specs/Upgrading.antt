-- The result of upgrading a stream.
use Rattle.std.specs.Prelude.{◌≡◌, ◌⊎◌, ℕ, List, Result, Ok, Err}
use Rattle.wtp_core.specs.declared.bytes.writer.PutError.{PutError}
use Rattle.wtp_core.specs.declared.error.ErrorCode.{ErrorCode}
use Rattle.wtp_core.specs.declared.error.ErrorCode.TheVariants.{StreamCreation, Id}
use Rattle.wtp_wire.specs.HeaderFront.{HeaderFront, Headed, Unknown, BadId, Short}
use Rattle.wtransport_proto.specs.declared.stream.Stream.{Stream}
use Rattle.wtransport_proto.specs.declared.stream.types.Quic.{Quic}
use Rattle.wtransport_proto.specs.declared.stream.types.UniRemote.{UniRemote}
use Rattle.wtransport_proto.specs.declared.stream.uniremote.MaybeUpgradeH3.{MaybeUpgradeH3}
use Rattle.wtransport_proto.specs.declared.stream.uniremote.MaybeUpgradeH3.TheVariants as maybe
use Rattle.wtransport_proto.specs.Streams.{header_of}

-- The result of an upgrade, given what the stream's bytes start with. Unless the bytes are too few,
-- left are the bytes after it.
abbrev pub AnswersUpgrade :
    HeaderFront → Stream UniRemote Quic → Result MaybeUpgradeH3 ErrorCode → List ℕ → Type 0
AnswersUpgrade front old (Ok (maybe.H3 s)) left = front ≡ Headed (header_of s) left
AnswersUpgrade front old (Ok (maybe.Quic s)) left = (front ≡ Short) × (s ≡ old)
AnswersUpgrade front old (Err c) left =
    ((c ≡ StreamCreation) × (front ≡ Unknown left)) ⊎ ((c ≡ Id) × (front ≡ BadId left))

-- the result of the writer: Ok if the stream was upgraded, or the error returned with the stream
abbrev pub write_answer : {A B : Type 0} → Result A (B × PutError) → Result (Unit {0}) PutError
write_answer (Ok upgraded) = Ok tt
write_answer (Err e) = Err e.1
