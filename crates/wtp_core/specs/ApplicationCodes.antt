-- The HTTP/3 error codes of application error codes (WebTransport over HTTP/3, "Resetting Data
-- Streams").
use Rattle.std.specs.Prelude.{ℕ, ◌+◌, ◌/◌}

-- the HTTP/3 error code of application error code n
abbrev pub http3_number : ℕ → ℕ
http3_number n = 0x52e4a40fa8db + n + n / 0x1e
