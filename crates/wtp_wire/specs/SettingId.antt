-- Setting identifiers (RFC 9114, section 7.2.4.1; RFC 9204, section 5; RFC 9220, section 3; RFC
-- 9297, section 2.1.1; WebTransport over HTTP/3).
use Rattle.std.specs.Prelude.{◌≡◌, ℕ, List, [], ◌∷◌, ◌≤◌, ◌⊎◌, Bool, ◌||◌, ◌&&◌, nat_le, ◌==◌, if◌then◌else◌, Option, Some, None, is_some, ◌++◌, false, codes}
use Rattle.std.specs.Fmt.{digits}
use Rattle.wtp_wire.specs.declared.settings.SettingId.{SettingId}
use Rattle.wtp_wire.specs.declared.settings.SettingId.TheVariants.{QPackMaxTableCapacity, MaxFieldSectionSize, QPackBlockedStreams, EnableConnectProtocol, H3Datagram, EnableWebTransport, WebTransportMaxSessions, Exercise}
use Rattle.wtp_wire.specs.Kind.{IsExercise, is_exercise}
use Rattle.wtp_wire.specs.Named.{kind_by}

-- ---- the table: the settings with a name, and the number of each

-- the settings with a name
abbrev pub named_settings : List SettingId
named_settings =
    QPackMaxTableCapacity ∷ MaxFieldSectionSize ∷ QPackBlockedStreams ∷ EnableConnectProtocol
    ∷ H3Datagram ∷ EnableWebTransport ∷ WebTransportMaxSessions ∷ []

-- the identifier of a setting
abbrev pub setting_number_of : SettingId → ℕ
setting_number_of QPackMaxTableCapacity = 0x01
setting_number_of MaxFieldSectionSize = 0x06
setting_number_of QPackBlockedStreams = 0x07
setting_number_of EnableConnectProtocol = 0x08
setting_number_of H3Datagram = 0x33
setting_number_of EnableWebTransport = 0x2b603742
setting_number_of WebTransportMaxSessions = 0xc671706a
setting_number_of (Exercise number) = number

-- the name of a setting in the standards; an exercise setting has none, and is printed as its
-- identifier in hexadecimal
abbrev pub setting_name_of : SettingId → List ℕ
-- RFC 9204, section 5
setting_name_of QPackMaxTableCapacity = codes "SETTINGS_QPACK_MAX_TABLE_CAPACITY"
-- RFC 9114, section 7.2.4.1
setting_name_of MaxFieldSectionSize = codes "SETTINGS_MAX_FIELD_SECTION_SIZE"
setting_name_of QPackBlockedStreams = codes "SETTINGS_QPACK_BLOCKED_STREAMS"  -- RFC 9204, section 5
-- RFC 9220, section 3
setting_name_of EnableConnectProtocol = codes "SETTINGS_ENABLE_CONNECT_PROTOCOL"
setting_name_of H3Datagram = codes "SETTINGS_H3_DATAGRAM"  -- RFC 9297, section 2.1.1
-- draft-ietf-webtrans-http3-02, section 3.1
setting_name_of EnableWebTransport = codes "SETTINGS_ENABLE_WEBTRANSPORT"
-- draft-ietf-webtrans-http3-07
setting_name_of WebTransportMaxSessions = codes "SETTINGS_WEBTRANSPORT_MAX_SESSIONS"
setting_name_of (Exercise number) = codes "0x" ++ digits 16 false number

-- the identifier is reserved because HTTP/2 used it: it must not be received (RFC 9114, section
-- 7.2.4.1)
abbrev pub IsReserved : ℕ → Type 0
IsReserved id = (id ≡ 0x00) ⊎ ((0x02 ≤ id) × (id ≤ 0x05))

-- ---- derived definitions

-- the setting has this identifier; the exercise identifiers are the reserved frame types (RFC 9114,
-- section 7.2.4.1)
abbrev pub IsSettingId : SettingId → ℕ → Type 0
IsSettingId (Exercise number) id = (number ≡ id) × IsExercise id
IsSettingId setting id = id ≡ setting_number_of setting

-- the identifier is that of a setting that is stored; others are unknown and ignored
abbrev pub IsSetting : ℕ → Type 0
IsSetting id = (setting : SettingId) × IsSettingId setting id

-- ---- the same, computed

-- the identifier of a setting, or None for an exercise setting whose number is not reserved
abbrev pub known_number_of : SettingId → Option ℕ
known_number_of (Exercise number) = if is_exercise number then Some number else None
known_number_of setting = Some (setting_number_of setting)

-- the setting with this identifier, or None if it is unknown
unfoldable pub setting_id_of : ℕ → Option SettingId
setting_id_of id = kind_by setting_number_of (λ n. Exercise n) named_settings id

-- whether an identifier is that of a setting that is stored
abbrev pub is_setting : ℕ → Bool
is_setting id = is_some (setting_id_of id)

-- whether an identifier is reserved because HTTP/2 used it
abbrev pub is_reserved : ℕ → Bool
is_reserved id = (id == 0) || (nat_le 2 id && nat_le id 5)
