-- The header of a datagram, which precedes its payload (RFC 9297, section 2.1).
use Rattle.std.specs.Prelude.{ℕ, List}
use Rattle.wtp_core.specs.Varint.{shortest}

-- the header of a datagram: its quarter stream ID
abbrev pub datagram_head : ℕ → List ℕ
datagram_head quarter = shortest quarter
