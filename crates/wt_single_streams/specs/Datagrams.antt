-- A datagram that was received (RFC 9297, section 2.1).
use Rattle.std.specs.Prelude.{◌≡◌, ℕ, ◌*◌, List, ◌++◌, Some}
use Rattle.wtransport_proto.specs.Datagram.{datagram_in}

-- the bytes are a datagram of this session, and its payload was appended
pub record Receives (bytes : List ℕ) (id : ℕ) (old new : List ℕ) : Type 0 where
  pub quarter : ℕ
  pub payload : List ℕ
  pub datagram : datagram_in bytes ≡ Some (quarter, payload)
  pub session : id ≡ 4 * quarter
  pub appends : new ≡ old ++ payload
