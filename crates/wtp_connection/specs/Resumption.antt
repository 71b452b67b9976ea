-- SETTINGS of a server that accepted 0-RTT, beside those that the client remembers of the session that is
-- resumed (RFC 9114, section 7.2.4.2; RFC 9204, section 3.2.3; RFC 9297, section 2.1.1).
use Rattle.std.specs.Prelude.{◌≡◌, ℕ, ◌≤◌, ◌⊎◌, ◌==◌, nat_lt, ◌&&◌, ◌||◌, not, if◌then◌else◌, Bool, true, false, Option, Some, None, Result, Ok, Err}
use Rattle.wtp_connection.specs.declared.fault.Fault.{Fault}
use Rattle.wtp_connection.specs.declared.fault.Fault.TheVariants as fault
use Rattle.wtp_connection.specs.declared.settings.PeerSettings.{PeerSettings}

-- ---- what the server must keep

-- A capacity other than 0 comes again as it was (RFC 9204, section 3.2.3).
abbrev pub KeepsCapacity : PeerSettings → PeerSettings → Type 0
KeepsCapacity old new =
    (old.qpack_max_table_capacity ≡ 0)
    ⊎ (new.qpack_max_table_capacity ≡ old.qpack_max_table_capacity)

-- A limit comes again, and is not smaller. Without one there was no limit, and there is none now.
abbrev pub KeepsLimit : Option ℕ → Option ℕ → Type 0
KeepsLimit None None = Unit {0}
KeepsLimit None (Some n) = ⊥
KeepsLimit (Some m) None = ⊥
KeepsLimit (Some m) (Some n) = m ≤ n

-- what was supported still is
abbrev pub KeepsSupport : Bool → Bool → Type 0
KeepsSupport old new = old ≡ true → new ≡ true

-- No other limit is reduced, and no setting with another value than its default is left out (RFC 9114,
-- section 7.2.4.2): the defaults of these are the smallest values.
pub record KeepsLimits (old new : PeerSettings) : Type 0 where
  pub section : KeepsLimit old.max_field_section_size new.max_field_section_size
  pub blocked : old.qpack_blocked_streams ≤ new.qpack_blocked_streams
  pub connect : KeepsSupport old.enable_connect_protocol new.enable_connect_protocol
  pub datagram : KeepsSupport old.h3_datagram new.h3_datagram
  pub webtransport : KeepsSupport old.enable_webtransport new.enable_webtransport
  pub sessions : old.webtransport_max_sessions ≤ new.webtransport_max_sessions
  pub later_sessions : old.wt_max_sessions ≤ new.wt_max_sessions

-- ---- the same, as it is tested

abbrev pub loses_capacity : PeerSettings → PeerSettings → Bool
loses_capacity old new =
    not (old.qpack_max_table_capacity == 0)
    && not (new.qpack_max_table_capacity == old.qpack_max_table_capacity)

abbrev pub loses_limit : Option ℕ → Option ℕ → Bool
loses_limit None None = false
loses_limit None (Some n) = true
loses_limit (Some m) None = true
loses_limit (Some m) (Some n) = nat_lt n m

abbrev pub loses_support : Bool → Bool → Bool
loses_support old new = old && not new

abbrev pub loses_limits : PeerSettings → PeerSettings → Bool
loses_limits old new =
    loses_limit old.max_field_section_size new.max_field_section_size
    || (nat_lt new.qpack_blocked_streams old.qpack_blocked_streams
    || (loses_support old.enable_connect_protocol new.enable_connect_protocol
    || (loses_support old.h3_datagram new.h3_datagram
    || (loses_support old.enable_webtransport new.enable_webtransport
    || (nat_lt new.webtransport_max_sessions old.webtransport_max_sessions
    || nat_lt new.wt_max_sessions old.wt_max_sessions)))))

-- SETTINGS that come, where these are remembered
abbrev pub after_resumption : PeerSettings → PeerSettings → Result PeerSettings Fault
after_resumption old new =
    if loses_capacity old new
    then Err fault.Capacity
    else (if loses_limits old new then Err fault.Settings else Ok new)

-- the same, if there is something to remember and they are valid
abbrev pub accepted_if : Bool → PeerSettings → Result PeerSettings Fault → Result PeerSettings Fault
accepted_if false old r = r
accepted_if true old (Ok new) = after_resumption old new
accepted_if true old (Err f) = Err f
