-- Numbers reserved to exercise the requirement that unknown ones are ignored.
use Rattle.std.specs.Prelude.{ℕ, ◌+◌, ◌*◌}

-- frame types (RFC 9114, section 7.2.8), stream types (section 6.2.3), settings (section 7.2.4.1) and
-- error codes (section 8.1)
abbrev pub reserved : ℕ → ℕ
reserved n = 0x1f * n + 0x21

-- capsule types (RFC 9297, section 5.4)
abbrev pub reserved_capsule : ℕ → ℕ
reserved_capsule n = 0x29 * n + 0x17
