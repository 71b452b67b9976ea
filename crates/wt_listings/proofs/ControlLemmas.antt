-- The header of a control stream is its stream type.
use Rattle.std.proofs.Common.{◌≡◌, List, ℕ, [], ◌∷◌, Ok, Err, refl, inl, inr}
use Rattle.wtransport_proto.specs.declared.error.ErrorCode.{ErrorCode}
use Rattle.wtransport_proto.specs.declared.stream.Stream.{Stream}
use Rattle.wtransport_proto.specs.declared.stream.types.H3.{H3}
use Rattle.wtransport_proto.specs.declared.stream.types.Quic.{Quic}
use Rattle.wtransport_proto.specs.declared.stream.types.UniRemote.{UniRemote}
use Rattle.wtransport_proto.specs.declared.stream.uniremote.MaybeUpgradeH3.{MaybeUpgradeH3}
use Rattle.wtransport_proto.specs.declared.stream.uniremote.MaybeUpgradeH3.TheVariants as maybe
use Rattle.wtransport_proto.specs.Varint.{number_at, value_of}
use Rattle.wtransport_proto.specs.StreamKind.{stream_kind_of}
use Rattle.wtransport_proto.specs.Header.{Header, ControlHeader}
use Rattle.wtransport_proto.specs.HeaderFront.{header_front, Headed}
use Rattle.wtransport_proto.specs.Streams.{header_of}
use Rattle.wtransport_proto.specs.Upgrading.{AnswersUpgrade}

-- the stream type is the whole header
control_front : (bytes : List ℕ) → bytes ≡ 0 ∷ [] → header_front bytes ≡ Headed ControlHeader []
unfolding header_front number_at value_of stream_kind_of
control_front bytes e = rw e refl

-- the returned stream has the header of a control stream
pub control_header : (bytes left : List ℕ) (old : Stream UniRemote Quic) (r : MaybeUpgradeH3) (s : Stream UniRemote (H3 Header)) → bytes ≡ 0 ∷ [] → r ≡ maybe.H3 s → AnswersUpgrade (header_front bytes) old (Ok r) left → header_of s ≡ ControlHeader
control_header bytes left old r s e is answer = let front : header_front bytes ≡ Headed (header_of s) left = rw is at answer in cc (control_front bytes e)

-- the bytes of the header are complete
pub control_whole : (bytes left : List ℕ) (old s : Stream UniRemote Quic) (r : MaybeUpgradeH3) → bytes ≡ 0 ∷ [] → r ≡ maybe.Quic s → AnswersUpgrade (header_front bytes) old (Ok r) left → ⊥
control_whole bytes left old s r e is answer = let (short, same) = rw is at answer in cc (control_front bytes e)

-- the bytes of the header are valid
pub control_good : (bytes left : List ℕ) (old : Stream UniRemote Quic) (c : ErrorCode) → bytes ≡ 0 ∷ [] → AnswersUpgrade (header_front bytes) old (Err c) left → ⊥
control_good bytes left old c e (inl (code, is)) = cc (control_front bytes e)
control_good bytes left old c e (inr (code, is)) = cc (control_front bytes e)
