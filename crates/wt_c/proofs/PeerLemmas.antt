-- Whether SETTINGS came, by the words of a connection, and settings that are read back.
use Rattle.std.proofs.Common.{◌≡◌, ◌≢◌, ◌==◌, ◌^◌, ◌-◌, ℕ, not, Bool, true, false, Option, Some, None, ap, sym, refl}
use Rattle.std.proofs.lemmas.Bool.{ne_eqb}
use Rattle.wtp_connection.specs.declared.settings.PeerSettings.{PeerSettings}
use Rattle.wtp_frames.specs.Words.{flag_number}
use Rattle.wtp_webtransport.specs.declared.connection.Connection.{Connection}
use Rattle.wt_c.specs.declared.connections.WtConnection.{WtConnection}
use Rattle.wt_c.specs.Connections.{HasConnection}
use Rattle.wt_c.specs.PeerSettings.{limit_number, limit_at, peer_with, peer_at}

pub came_is : (c : Connection) (w : WtConnection) → HasConnection c w → w.words.configured ≡ flag_number c.configured
came_is c w has = sym (ap (λ (v : WtConnection). v.words.configured) has)

flag_back : (b : Bool) → not (flag_number b == 0) ≡ b
flag_back true = refl
flag_back false = refl

limit_back : (l : Option ℕ) → l ≢ Some (2 ^ 64 - 1) → limit_at (limit_number l) ≡ l
limit_back None other = refl
limit_back (Some n) other = rw (ne_eqb n (2 ^ 64 - 1) (λ e. other (ap (λ (m : ℕ). Some m) e))) refl

pub settings_back : (v : PeerSettings) (came : ℕ) → v.max_field_section_size ≢ Some (2 ^ 64 - 1) → peer_at (peer_with v came) ≡ v
settings_back v came other = rw (flag_back v.enable_connect_protocol, flag_back v.h3_datagram, flag_back v.enable_webtransport, limit_back v.max_field_section_size other) refl
