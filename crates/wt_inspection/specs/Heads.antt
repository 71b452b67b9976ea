-- What the bytes of an item say at their start (RFC 9114, sections 6.2 and 7.1; RFC 9297, section
-- 2.1).
use Rattle.std.specs.Prelude.{◌≡◌, ℕ, ◌%◌, ◌*◌, List, length, drop, Some, MatchOption}
use Rattle.wtp_wire.specs.Kind.{kind_of}
use Rattle.wtp_wire.specs.Datagram.{datagram_in}
use Rattle.wtp_wire.specs.declared.frame.kind.FrameKind.TheVariants.{WebTransport}
use Rattle.wt_inspection_model.specs.declared.item.DatagramHead.{DatagramHead}
use Rattle.wtp_wire.specs.Settings.{pair_at}

-- the bytes begin with the type of a WebTransport stream and this session ID
pub record IsSessionItem (bytes : List ℕ) (len id : ℕ) : Type 0 where
  pub number : ℕ
  pub numbers : pair_at bytes ≡ Some ((number, id), drop len bytes)
  pub kind : kind_of number ≡ Some WebTransport
  pub session : id % 4 ≡ 0

-- the bytes are a datagram of this quarter stream ID, with a payload of this length
abbrev pub IsDatagramItem : List ℕ → DatagramHead → Type 0
IsDatagramItem bytes d =
    MatchOption (datagram_in bytes) ⊥ (λ x. (x.0 ≡ d.quarter) × (length x.1 ≡ d.payload))
    × (d.session ≡ 4 * d.quarter)
