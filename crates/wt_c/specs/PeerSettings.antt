-- The settings of the peer in a struct of C (RFC 9114, section 7.2.4.1): 1 and 0 for what is
-- supported and is not, and the largest number of 64 bits for no limit.
use Rattle.std.specs.Prelude.{◌≡◌, ℕ, ◌≤◌, ◌<◌, ◌==◌, ◌^◌, ◌-◌, ◌⊎◌, not, if◌then◌else◌, Bool, Option, Some, None, replicate}
use Rattle.wtp_frames.specs.Words.{flag_number}
use Rattle.wtp_frames.specs.declared.endpoint.Endpoint.{Endpoint}
use Rattle.wtp_webtransport.specs.declared.connection.Connection.{Connection}
use Rattle.wtp_webtransport.specs.Streams.{connection_of, resuming_connection}
use Rattle.wtp_connection.specs.declared.settings.PeerSettings.{PeerSettings}
use Rattle.wt_c.specs.declared.connections.peer.WtPeerSettings.{WtPeerSettings}

abbrev pub limit_number : Option ℕ → ℕ
limit_number None = 2 ^ 64 - 1
limit_number (Some n) = n

abbrev pub limit_at : ℕ → Option ℕ
limit_at n = if n == 2 ^ 64 - 1 then None else Some n

-- the struct of these settings, and whether they came
abbrev pub peer_with : PeerSettings → ℕ → WtPeerSettings
peer_with v came = record {
  qpack_max_table_capacity = v.qpack_max_table_capacity;
  max_field_section_size = limit_number v.max_field_section_size;
  qpack_blocked_streams = v.qpack_blocked_streams;
  webtransport_max_sessions = v.webtransport_max_sessions;
  wt_max_sessions = v.wt_max_sessions;
  enable_connect_protocol = flag_number v.enable_connect_protocol;
  h3_datagram = flag_number v.h3_datagram;
  enable_webtransport = flag_number v.enable_webtransport;
  came = came;
  reserved_half = 0;
  reserved = replicate 2 0;
}

-- the settings of the struct
abbrev pub peer_at : WtPeerSettings → PeerSettings
peer_at w = record {
  qpack_max_table_capacity = w.qpack_max_table_capacity;
  max_field_section_size = limit_at w.max_field_section_size;
  qpack_blocked_streams = w.qpack_blocked_streams;
  enable_connect_protocol = not (w.enable_connect_protocol == 0);
  h3_datagram = not (w.h3_datagram == 0);
  enable_webtransport = not (w.enable_webtransport == 0);
  webtransport_max_sessions = w.webtransport_max_sessions;
  wt_max_sessions = w.wt_max_sessions;
}

-- The connection that remembers the struct. If no SETTINGS came in the session before, nothing is
-- remembered: each setting has its default, which SETTINGS need not keep (RFC 9114, section 7.2.4.2).
abbrev pub begun_with : Endpoint → Bool → WtPeerSettings → Connection
begun_with e extended w =
    if w.came == 0 then connection_of e extended else resuming_connection e extended (peer_at w)

-- The value of a setting is below 2^62 (RFC 9114, section 7.2.4; RFC 9000, section 16). That of a limit
-- may also be the number that stands for none.
abbrev pub IsLimit : ℕ → Type 0
IsLimit n = (n < 2 ^ 62) ⊎ (n ≡ 2 ^ 64 - 1)

pub record AreValues (w : WtPeerSettings) : Type 0 where
  pub table : w.qpack_max_table_capacity < 2 ^ 62
  pub section : IsLimit w.max_field_section_size
  pub blocked : w.qpack_blocked_streams < 2 ^ 62
  pub webtransport_sessions : w.webtransport_max_sessions < 2 ^ 62
  pub sessions : w.wt_max_sessions < 2 ^ 62

-- a struct of this version
pub record IsPeer (w : WtPeerSettings) : Type 0 where
  pub values : AreValues w
  pub connect : w.enable_connect_protocol ≤ 1
  pub datagram : w.h3_datagram ≤ 1
  pub webtransport : w.enable_webtransport ≤ 1
  pub came : w.came ≤ 1
  pub half : w.reserved_half ≡ 0
  pub words : w.reserved ≡ replicate 2 0
