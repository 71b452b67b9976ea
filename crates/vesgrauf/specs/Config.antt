-- What a connection announces, and its limits.
use Rattle.std.specs.Prelude.{ℕ, Bool, true, false, List, [], ◌∷◌, ◌++◌}
use Rattle.wtp_frames.specs.declared.endpoint.Side.{Side}
use Rattle.vesgrauf_queue.specs.declared.config.QueueConfig.{QueueConfig}
use Rattle.vesgrauf.specs.declared.config.Config.{Config}
use Rattle.vesgrauf.specs.declared.config.OnMalformed.TheVariants.{Reset}

-- that of a side of which nothing else is said: all that is supported, and the limits
abbrev pub default_of : Side → Config
default_of s = record {
  side = s;
  webtransport = true;
  datagrams = true;
  extended_connect = true;
  max_field_section_size = 65536;
  qpack_max_table_capacity = 4096;
  qpack_blocked_streams = 16;
  encoder_table_capacity = 4096;
  max_sessions = 100;
  max_resets = 100;
  max_streams = 1000;
  max_unopened = 100;
  receive_buffer = 65551;
  receive_buffer_all = 262144;
  max_paused = 1048576;
  send_buffer = 65536;
  max_instructions = 65536;
  on_malformed = Reset;
  datagram_queue = 64;
  keep_until_acked = false;
  bound_by_acked = false;
  fair = 16;
  tells_failures = false;
}

-- one setting, if it is announced
abbrev pub given : Bool → (id value : ℕ) → List (ℕ × ℕ)
given true id value = (id, value) ∷ []
given false id value = []

-- The SETTINGS of a configuration, by their identifiers: SETTINGS_QPACK_MAX_TABLE_CAPACITY,
-- SETTINGS_MAX_FIELD_SECTION_SIZE, SETTINGS_QPACK_BLOCKED_STREAMS (RFC 9114, section 7.2.4.1; RFC 9204, section 5),
-- SETTINGS_ENABLE_CONNECT_PROTOCOL (RFC 9220, section 3), SETTINGS_H3_DATAGRAM (RFC 9297, section 2.1.1),
-- SETTINGS_ENABLE_WEBTRANSPORT (draft-ietf-webtrans-http3-02, section 3.1), SETTINGS_WEBTRANSPORT_MAX_SESSIONS
-- (draft-ietf-webtrans-http3-07).
abbrev pub announced : Config → List (ℕ × ℕ)
announced c =
    (0x01, c.qpack_max_table_capacity) ∷ (0x06, c.max_field_section_size) ∷ (0x07, c.qpack_blocked_streams)
    ∷ (given c.extended_connect 0x08 1 ++ (given c.datagrams 0x33 1
    ++ (given c.webtransport 0x2b60_3742 1 ++ given c.webtransport 0xc671_706a c.max_sessions)))

-- the bounds of the queue of a stream
abbrev pub queue_of : Config → QueueConfig
queue_of c = record {
  mark = c.send_buffer;
  keep_until_acked = c.keep_until_acked;
  bound_by_acked = c.bound_by_acked;
}
