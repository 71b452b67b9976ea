-- The settings of the peer: what identifiers and values define (RFC 9114, sections 7.2.4 and
-- 7.2.4.1; RFC 9204, section 5; RFC 9220, section 3; RFC 9297, section 2.1.1; WebTransport over
-- HTTP/3).
use Rattle.std.specs.Prelude.{◌≡◌, ℕ, ◌==◌, ◌&&◌, ◌||◌, nat_lt, if◌then◌else◌, Bool, false, List, [], ◌∷◌, Option, Some, None, is_some, unwrap_or, Result, Ok, Err}
use Rattle.wtp_core.specs.declared.error.ErrorCode.{ErrorCode}
use Rattle.wtp_core.specs.declared.error.ErrorCode.TheVariants as code
use Rattle.wtp_frames.specs.declared.fault.Fault.TheVariants as stream
use Rattle.wtp_wire.specs.declared.settings.pairs.SettingPair.{SettingPair}
use Rattle.wtp_wire.specs.SettingId.{is_reserved}
use Rattle.wtp_wire.specs.SettingPairs.{setting_items}
use Rattle.wtp_connection.specs.declared.fault.Fault.{Fault}
use Rattle.wtp_connection.specs.declared.fault.Fault.TheVariants as fault
use Rattle.wtp_connection.specs.declared.settings.PeerSettings.{PeerSettings}
use Rattle.wtp_connection.specs.declared.settings.Values.{Values}

-- ---- identifiers and values, of which the last pair is the first of the list

-- the value of an identifier, if it has one
abbrev pub value_of : ℕ → List (ℕ × ℕ) → Option ℕ
value_of id [] = None
value_of id (p ∷ ps) = if p.0 == id then Some p.1 else value_of id ps

-- the values of the identifiers that are understood
abbrev pub values_of : List (ℕ × ℕ) → Values
values_of ps = record {
  qpack_max_table_capacity = value_of 0x01 ps;
  max_field_section_size = value_of 0x06 ps;
  qpack_blocked_streams = value_of 0x07 ps;
  enable_connect_protocol = value_of 0x08 ps;
  h3_datagram = value_of 0x33 ps;
  enable_webtransport = value_of 0x2b603742 ps;
  webtransport_max_sessions = value_of 0xc671706a ps;
  wt_max_sessions = value_of 0x14e9cd29 ps;
}

abbrev pub is_on : Option ℕ → Bool
is_on None = false
is_on (Some n) = n == 1

-- each setting has its value, or its default
abbrev pub with_defaults : Values → PeerSettings
with_defaults v = record {
  qpack_max_table_capacity = unwrap_or v.qpack_max_table_capacity 0;
  max_field_section_size = v.max_field_section_size;
  qpack_blocked_streams = unwrap_or v.qpack_blocked_streams 0;
  enable_connect_protocol = is_on v.enable_connect_protocol;
  h3_datagram = is_on v.h3_datagram;
  enable_webtransport = is_on v.enable_webtransport;
  webtransport_max_sessions = unwrap_or v.webtransport_max_sessions 0;
  wt_max_sessions = unwrap_or v.wt_max_sessions 0;
}

-- ---- which are refused

-- the identifiers that are understood
abbrev pub is_understood : ℕ → Bool
is_understood id =
    (id == 0x01) || ((id == 0x06) || ((id == 0x07) || ((id == 0x08) || ((id == 0x33)
    || ((id == 0x2b603742) || ((id == 0xc671706a) || (id == 0x14e9cd29)))))))

-- those whose value is 0 or 1 (RFC 8441, section 3; RFC 9297, section 2.1.1;
-- draft-ietf-webtrans-http3-02, section 3.1)
abbrev pub is_flag : ℕ → Bool
is_flag id = (id == 0x08) || ((id == 0x33) || (id == 0x2b603742))

-- a pair after these: its value is not 0 or 1, or its identifier is repeated
abbrev pub is_refused : List (ℕ × ℕ) → ℕ → ℕ → Bool
is_refused ps id value =
    (is_flag id && nat_lt 1 value) || (is_understood id && is_some (value_of id ps))

-- pairs in byte order, each of which is neither of HTTP/2 (RFC 9114, section 7.2.4.1) nor refused
-- beside those that follow
abbrev pub AreValid : List (ℕ × ℕ) → Type 0
AreValid [] = Unit {0}
AreValid (p ∷ ps) =
    (is_reserved p.0 ≡ false) × (is_refused ps p.0 p.1 ≡ false) × AreValid ps

-- ---- the payload

-- a payload is cut (RFC 9114, section 7.1), or has an identifier of HTTP/2 (section 7.2.4.1)
abbrev pub pair_fault : ErrorCode → Fault
pair_fault code.Frame = fault.Stream stream.Frame
pair_fault other = fault.Settings

-- the settings, or the first fault in byte order, after these pairs
abbrev pub settings_after : List (ℕ × ℕ) → List (Result SettingPair ErrorCode) → Result PeerSettings Fault
settings_after ps [] = Ok (with_defaults (values_of ps))
settings_after ps (Err e ∷ items) = Err (pair_fault e)
settings_after ps (Ok p ∷ items) =
    if is_refused ps p.id p.value
    then Err fault.Settings
    else settings_after ((p.id, p.value) ∷ ps) items

unfoldable pub settings_in : List ℕ → Result PeerSettings Fault
settings_in payload = settings_after [] (setting_items payload)

-- ---- the same, by the values so far

abbrev pub held : Values → ℕ → Option ℕ
held v id =
    if id == 0x01 then v.qpack_max_table_capacity
    else (if id == 0x06 then v.max_field_section_size
    else (if id == 0x07 then v.qpack_blocked_streams
    else (if id == 0x08 then v.enable_connect_protocol
    else (if id == 0x33 then v.h3_datagram
    else (if id == 0x2b603742 then v.enable_webtransport
    else (if id == 0xc671706a then v.webtransport_max_sessions
    else (if id == 0x14e9cd29 then v.wt_max_sessions
    else None)))))))

abbrev pub replaced : Bool → ℕ → Option ℕ → Option ℕ
replaced is value old = if is then Some value else old

abbrev pub stored : Values → ℕ → ℕ → Values
stored v id value = record {
  qpack_max_table_capacity = replaced (id == 0x01) value v.qpack_max_table_capacity;
  max_field_section_size = replaced (id == 0x06) value v.max_field_section_size;
  qpack_blocked_streams = replaced (id == 0x07) value v.qpack_blocked_streams;
  enable_connect_protocol = replaced (id == 0x08) value v.enable_connect_protocol;
  h3_datagram = replaced (id == 0x33) value v.h3_datagram;
  enable_webtransport = replaced (id == 0x2b603742) value v.enable_webtransport;
  webtransport_max_sessions = replaced (id == 0xc671706a) value v.webtransport_max_sessions;
  wt_max_sessions = replaced (id == 0x14e9cd29) value v.wt_max_sessions;
}

abbrev pub taken : Values → ℕ → ℕ → Result Values Fault
taken v id value =
    if (is_flag id && nat_lt 1 value) || is_some (held v id)
    then Err fault.Settings
    else Ok (stored v id value)

abbrev pub with_item : Values → Result SettingPair ErrorCode → Result Values Fault
with_item v (Ok p) = taken v p.id p.value
with_item v (Err e) = Err (pair_fault e)
